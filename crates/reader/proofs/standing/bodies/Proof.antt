-- `reader::standing::bodies` meets its contract, summand by summand.
use Prim.Native.Nat.{◌≤◌}
use native.Mathlib.Omega.{arith}
use Rattle.form.specs.step.Standing.{bodies}
use Rattle.form.specs.step.laws.Standing.{size_small}
use Rattle.reader.specs.standing.laws.Stands.{valid_counts_told}
use borrow.Author.Rules.{rules}
use Rattle.reader.proofs.standing.bodies.Statement.{statement}
use Rattle.reader.proofs.standing.bodies.Tie as tie

begun-requires : tie.Need-begun-sites-requires
begun-requires c κs = let f = valid_counts_told _ c.requires in omega arith

begun-requires-2 : tie.Need-begun-triangles-requires
begun-requires-2 c κs = let f = valid_counts_told _ c.requires in omega arith

begun-requires-3 : tie.Need-begun-hull-requires
begun-requires-3 c κs = let f = valid_counts_told _ c.requires in omega arith

-- no summand is large
small :
    (c : tie.After-begun-hull)
    → (c.size-first.result ≤ 32) × (c.begun-sites.result ≤ 97) × (c.begun-triangles.result ≤ 193) × (c.begun-hull.result ≤ 97)
small c =
    let f = valid_counts_told _ c.requires in (
      omega (arith, c.size-first.ensures, size_small c.args.r.clip),
      omega (arith, c.begun-sites.ensures.1),
      omega (arith, c.begun-triangles.ensures.1),
      omega (arith, c.begun-hull.ensures.1),
    )

returns : tie.Need-returns
unfolding bodies
returns c =
    (rw (c.begun-hull.ensures.0, c.begun-triangles.ensures.0, c.begun-sites.ensures.0, c.size-first.ensures), omega (arith, small c))

pub bodies_spec : {M : Type 1} → statement M
bodies_spec =
    tie.close
    (tie.spec (λ c κs. search rules) begun-requires begun-requires-2 begun-requires-3 (λ c. omega (arith, small c)) (λ c. omega (arith, small c))
    (λ c. omega (arith, small c)) (λ c. omega (arith, small c)) (λ c. omega (arith, small c)) (λ c. omega (arith, small c)) returns)
