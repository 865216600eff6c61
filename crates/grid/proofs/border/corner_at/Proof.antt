-- Between two runs nothing is asked; inside one the turn is.
use borrow.Author.Rules.{rules}
use Rattle.grid.specs.border.laws.Hulls.{says_between, says_corner}
use Rattle.grid.proofs.border.corner_at.Statement.{statement}
use Rattle.grid.proofs.border.corner_at.Tie as tie

returns : tie.Need-returns-then-up_between
returns c =
    let after = c in
    let before = after in
    says_between before.up_between.result after.up_between-2.result _ _ _
    (rw (before.up_between.ensures, before.prior_place-before.ensures.0)) (rw (after.up_between-2.ensures, before.next_place-after.ensures.0)) c.if-up_between.true

returns-2 : tie.Need-returns
returns-2 c =
    let after = c in
    let before = after in
    let places = before in
    says_corner before.up_between.result after.up_between-2.result c.right_between.result _ _ _
    (rw (before.up_between.ensures, places.prior_place-before.ensures.0)) (rw (after.up_between-2.ensures, places.next_place-after.ensures.0)) c.if-up_between.false
    (rw (c.right_between.ensures, places.prior_place-before.ensures.0, places.next_place-after.ensures.0))

pub corner_at_spec : {M : Type 1} → statement M
corner_at_spec =
    tie.close
    (tie.spec (λ c κs. search rules) (λ c κs. search rules) (λ c κs. search rules) (λ c κs. search rules) returns (λ c κs. search rules) returns-2)
