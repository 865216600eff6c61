-- `reader::standing::kinds` meets its contract: each `return` is one of the definition's cases.
use mathlib.Core.Path.{◌≡◌}
use Prim.Native.Nat.{◌+◌, ◌≤◌}
use native.Mathlib.Omega.{arith}
use borrow.Author.Tests.{ne_eqb, eq-eqb}
use Rattle.form.specs.step.Standing.{sites_begun, triangles_begun, hull_begun, kinds}
use Rattle.reader.specs.standing.laws.Stands.{valid_counts_told}
use Rattle.reader.proofs.standing.kinds.Statement.{statement}
use Rattle.reader.proofs.standing.kinds.Tie as tie

begun-requires : tie.Need-begun-sites-requires
begun-requires c κs = let f = valid_counts_told _ c.requires in omega arith

begun-requires-2 : tie.Need-begun-triangles-requires
begun-requires-2 c κs = let f = valid_counts_told _ c.requires in omega arith

begun-requires-3 : tie.Need-begun-hull-requires
begun-requires-3 c κs = let f = valid_counts_told _ c.requires in omega arith

-- no summand is large
small : (c : tie.After-begun-hull) → (c.begun-sites.result ≤ 97) × (c.begun-triangles.result ≤ 193) × (c.begun-hull.result ≤ 97)
small c =
    let f = valid_counts_told _ c.requires in
    (omega (arith, c.begun-sites.ensures.1), omega (arith, c.begun-triangles.ensures.1), omega (arith, c.begun-hull.ensures.1))

sum : (c : tie.After-begun-hull)
    → let r = c.args.r in c.begun-sites.result + c.begun-triangles.result + c.begun-hull.result ≡ sites_begun r + triangles_begun r + hull_begun r
sum c = omega (arith, c.begun-sites.ensures.0, c.begun-triangles.ensures.0, c.begun-hull.ensures.0)

returns : tie.Need-returns-then-r-eq0
unfolding kinds
returns c =
    let k = c in
    (rw (eq-eqb _ _ c.if-r-eq0.true, ne_eqb k.args.r.stage 5 (λ z. omega (arith, c.if-r-eq0.true))) (omega (arith, sum k.before.before)), omega (arith, small k.before.before))

returns-2 : tie.Need-returns-then-r-eq5
unfolding kinds
returns-2 c =
    let k = c in
    (rw (ne_eqb _ _ c.if-r-eq0.false, eq-eqb _ _ c.if-r-eq5.true) (omega (arith, sum k.before.before.before.before)), omega (arith, small k.before.before.before.before))

returns-3 : tie.Need-returns
unfolding kinds
returns-3 c =
    let k = c in
    (rw (ne_eqb _ _ c.if-r-eq0.false, ne_eqb _ _ c.if-r-eq5.false) (omega (arith, sum k.before.before.before.before)), omega (arith, small k.before.before.before.before))

pub kinds_spec : {M : Type 1} → statement M
kinds_spec =
    tie.close
    (tie.spec begun-requires begun-requires-2 begun-requires-3 (λ c. omega (arith, small c.before.before)) (λ c. omega (arith, small c.before.before)) returns
    (λ c. omega (arith, small c.before.before.before.before)) (λ c. omega (arith, small c.before.before.before.before))
    (λ c. omega (arith, small c.before.before.before.before)) (λ c. omega (arith, small c.before.before.before.before)) returns-2
    (λ c. omega (arith, small c.before.before.before.before)) (λ c. omega (arith, small c.before.before.before.before))
    (λ c. omega (arith, small c.before.before.before.before)) returns-3)
