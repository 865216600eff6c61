-- The levels of the sites moved up differ as the edge rises.
use borrow.Author.Rules.{rules}
use Rattle.grid.specs.laws.Same.{up_is_up}
use Rattle.grid.proofs.goes_up.Statement.{statement}
use Rattle.grid.proofs.goes_up.Tie as tie

returns : tie.Need-returns
returns c =
    let at_a = c in
    let h = at_a.requires in
    rw (c.level-2.ensures, c.raise_site-2.ensures.0, c.level.ensures, at_a.raise_site.ensures.0)
    (up_is_up _ _ (record { x = h.0.within.0; y = h.0.within.1 }) (record { x = h.1.within.0; y = h.1.within.1 }))

pub goes_up_spec : {M : Type 1} → statement M
goes_up_spec =
    tie.close (tie.spec (λ c κs. search rules) (λ c κs. search rules) (λ c κs. search rules) (λ c κs. search rules) returns)
