-- The area of the sites moved up is that of the sites, with the sign turned.
use borrow.Author.Rules.{rules}
use Rattle.grid.specs.laws.Same.{turns_is}
use Rattle.grid.proofs.turns_left.Statement.{statement}
use Rattle.grid.proofs.turns_left.Tie as tie

returns : tie.Need-returns
returns c =
    let at-raise-site2 = c in
    let h = at-raise-site2.requires in
    rw (c.area-twice.ensures.0, c.raise_site-3.ensures.0, at-raise-site2.raise_site-2.ensures.0, at-raise-site2.raise_site.ensures.0)
    (turns_is _ _ _ (record { x = h.0.within.0; y = h.0.within.1 }) (record { x = h.1.within.0; y = h.1.within.1 }) (record { x = h.2.within.0; y = h.2.within.1 }))

pub turns_left_spec : {M : Type 1} → statement M
turns_left_spec =
    tie.close (tie.spec (λ c κs. search rules) (λ c κs. search rules) (λ c κs. search rules) (λ c κs. search rules) returns)
