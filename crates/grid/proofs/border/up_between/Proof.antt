-- The two sites are there, and `goes_up` answers.
use borrow.Author.Rules.{rules}
use Rattle.grid.specs.border.laws.Hulls.{site_at_lem}
use Rattle.grid.proofs.border.up_between.Statement.{statement}
use Rattle.grid.proofs.border.up_between.Tie as tie

goes_up-requires : tie.Need-goes_up-requires
goes_up-requires c κs =
    let start = c in
    let n = start.requires.0 in
    (site_at_lem n _ _ start.requires.1 c.wide-a.ensures, site_at_lem n _ _ start.requires.2 c.wide-b.ensures)

returns : tie.Need-returns
returns c = rw (c.goes_up.ensures, c.wide-b.ensures, c.wide-a.ensures)

pub up_between_spec : {M : Type 1} → statement M
up_between_spec =
    tie.close
    (tie.spec (λ c. search rules) (λ c. search rules) (λ c κs. search rules) (λ c. search rules) (λ c. search rules) (λ c κs. search rules) goes_up-requires returns)
