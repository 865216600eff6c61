-- The determinant of the sites moved up is that of the sites, with the sign turned.
use borrow.Author.Rules.{rules}
use Rattle.grid.specs.laws.Same.{inside_is}
use Rattle.grid.proofs.strictly_inside.Statement.{statement}
use Rattle.grid.proofs.strictly_inside.Tie as tie

returns : tie.Need-returns
returns c =
    let at-raise-site3 = c in
    let h = at-raise-site3.requires in
    rw (
      c.lift-determinant.ensures,
      c.raise_site-4.ensures.0,
      at-raise-site3.raise_site-3.ensures.0,
      at-raise-site3.raise_site-2.ensures.0,
      at-raise-site3.raise_site.ensures.0,
    )
    (inside_is _ _ _ _ (record { x = h.0.within.0; y = h.0.within.1 }) (record { x = h.1.within.0; y = h.1.within.1 }) (record { x = h.2.within.0; y = h.2.within.1 })
    (record { x = h.3.within.0; y = h.3.within.1 }))

pub strictly_inside_spec : {M : Type 1} → statement M
strictly_inside_spec =
    tie.close (tie.spec (λ c κs. search rules) (λ c κs. search rules) (λ c κs. search rules) (λ c κs. search rules) (λ c κs. search rules) returns)
