-- `cell_builder::rings::circumcenters::center_at` meets its contract: the three reads name sites, and the operations are the definition's.
use native.Mathlib.Omega.{arith}
use Rattle.definition.specs.Build.{center_at}
use borrow.Author.Rules.{rules}
use Rattle.cell_builder.proofs.rings.circumcenters.center_at.Statement.{statement}
use Rattle.cell_builder.proofs.rings.circumcenters.center_at.Tie as tie

abbrev Start : tie.After-wide-2 → tie.Start
Start c = c.before.before.before.before.before.before.before

point_at-requires : tie.Need-point_at-requires
point_at-requires c κs = rw c.wide.ensures (c.requires.0 _ (omega arith))

point_at-requires-2 : tie.Need-point_at-requires-2
point_at-requires-2 c κs = rw c.wide-2.ensures ((Start c).requires.0 _ (omega arith))

point_at-requires-3 : tie.Need-point_at-requires-3
point_at-requires-3 c κs = rw c.wide-3.ensures ((Start c.before.before.before).requires.0 _ (omega arith))

returns : tie.Need-returns
unfolding center_at
returns c =
    let at-point-at2 = c in
    cc (
      c.point_at-3.ensures,
      c.wide-3.ensures,
      at-point-at2.point_at-2.ensures,
      at-point-at2.wide-2.ensures,
      at-point-at2.point_at.ensures,
      at-point-at2.wide.ensures,
    )

pub center_at_spec : {M : Type 1} → statement M
center_at_spec =
    tie.close
    (tie.spec (λ c. search rules) (λ c. search rules) (λ c. search rules) (λ c κs. search rules) point_at-requires
    (λ c. search rules) (λ c. search rules) (λ c. search rules) (λ c. search rules) (λ c κs. search rules)
    point_at-requires-2 (λ c. search rules) (λ c. search rules) (λ c. search rules) (λ c. search rules)
    (λ c κs. search rules) point_at-requires-3 (λ c κs. search rules) returns)
