-- Both coordinates are moved up; the height is at most 2^29.
use mathlib.Core.Path.{sym, subst, ap, ◌∙◌}
use native.Mathlib.Omega.{arith}
use borrow.Author.Rules.{rules, sfits_of}
use mir.Syntax.{w32}
use mir.ValLaws.{to_z-of_z}
use Rattle.grid.specs.Plane.{Within}
use Rattle.grid.specs.Raised.{up}
use Rattle.grid.specs.laws.Bounds.{flat}
use Rattle.grid.proofs.raise_site.Statement.{statement}
use Rattle.grid.proofs.raise_site.Tie as tie

raise-requires : tie.Need-raise-x-requires
raise-requires c κs =
    let x = c.coordinate in
    subst Within (sym (to_z-of_z w32 x.result (sfits_of x.type_inv) ∙ x.ensures)) c.requires.within.0

raise-requires-2 : tie.Need-raise-y-requires
raise-requires-2 c κs =
    let y = c.coordinate-2 in
    subst Within (sym (to_z-of_z w32 y.result (sfits_of y.type_inv) ∙ y.ensures)) c.requires.within.1

mul-x : tie.Need-overflow_mul-result
mul-x c = let x = c.raise-x in omega (arith, flat x.result x.result x.ensures.1 x.ensures.1)

mul-y : tie.Need-overflow_mul-result-2
mul-y c = let y = c.raise-y in omega (arith, flat y.result y.result y.ensures.1 y.ensures.1)

add-z : tie.Need-overflow_add-result
add-z c =
    let x = c.raise-x in
    let y = c.raise-y in
    omega (arith, flat x.result x.result x.ensures.1 x.ensures.1, flat y.result y.result y.ensures.1 y.ensures.1)

returns : tie.Need-returns
returns c =
    let x = c.raise-x in
    let y = c.raise-y in
    let u = c.coordinate in
    let v = c.coordinate-2 in (
      rw (
        x.ensures.0 ∙ ap up (to_z-of_z w32 u.result (sfits_of u.type_inv) ∙ u.ensures),
        y.ensures.0 ∙ ap up (to_z-of_z w32 v.result (sfits_of v.type_inv) ∙ v.ensures),
      ),
      record {
        x = x.ensures.1;
        y = y.ensures.1;
        z = omega (arith, flat x.result x.result x.ensures.1 x.ensures.1, flat y.result y.result y.ensures.1 y.ensures.1);
      },
    )

pub raise_site_spec : {M : Type 1} → statement M
raise_site_spec =
    tie.close
    (tie.spec (λ c. search rules) (λ c κs. search rules) raise-requires (λ c. search rules) (λ c. search rules) (λ c κs. search rules) raise-requires-2
    mul-x mul-y add-z returns)
