-- The two edges at the place.
use borrow.Author.Rules.{rules}
use Rattle.grid.specs.border.laws.Hulls.{says_start}
use Rattle.grid.proofs.border.start_at.Statement.{statement}
use Rattle.grid.proofs.border.start_at.Tie as tie

returns : tie.Need-returns
returns c =
    let at_before = c in
    says_start at_before.up_between.result c.up_between-2.result _ _
    (rw (at_before.up_between.ensures, c.prior_place-before.ensures.0)) (rw (c.up_between-2.ensures, c.next_place-after.ensures.0))

pub start_at_spec : {M : Type 1} → statement M
start_at_spec = tie.close (tie.spec (λ c κs. search rules) (λ c κs. search rules) (λ c κs. search rules) (λ c κs. search rules) returns)
