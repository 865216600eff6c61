-- The three sites are there, and `turns_left` answers of them read backward.
use borrow.Author.Rules.{rules}
use Rattle.grid.specs.border.laws.Hulls.{site_at_lem}
use Rattle.grid.proofs.border.right_between.Statement.{statement}
use Rattle.grid.proofs.border.right_between.Tie as tie

turns_left-requires : tie.Need-turns_left-requires
turns_left-requires c κs =
    let at_a = c in
    let start = at_a in
    let n = start.requires.0 in (
      site_at_lem n _ _ start.requires.3 c.wide-c.ensures,
      site_at_lem n _ _ start.requires.2 c.wide-b.ensures,
      site_at_lem n _ _ start.requires.1 at_a.wide-a.ensures,
    )

returns : tie.Need-returns
returns c =
    let at-wide2 = c in
    rw (c.turns_left.ensures, c.wide-c.ensures, at-wide2.wide-b.ensures, at-wide2.wide-a.ensures)

pub right_between_spec : {M : Type 1} → statement M
right_between_spec =
    tie.close
    (tie.spec (λ c. search rules) (λ c. search rules) (λ c κs. search rules) (λ c. search rules) (λ c. search rules) (λ c κs. search rules) (λ c. search rules)
    (λ c. search rules) (λ c κs. search rules) turns_left-requires returns)
