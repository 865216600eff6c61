-- Theorem: on an accepted mesh of whole coordinates that passes the exact checks, a site with no neighbour strictly nearer to a place has no site in use strictly nearer.
use Rattle.std.specs.Prelude.{◌≡◌, List, ◌≢◌, ℕ, ◌+◌, ◌-◌, ◌*◌, ◌≤◌, ◌<◌, length}
use Rattle.std.proofs.Common.{⊎_elim, arith}
use Rattle.base.specs.common.laws.Decide.{lt_or_ge}
use Rattle.base.specs.numbers.Numbers.{EMPTY}
use Rattle.mesh.specs.Mesh.{start_of, end_of, pair_of, Used}
use Rattle.mesh.specs.Accepted.{Topology}
use Rattle.grid.specs.Raised.{area_of, lift_of}
use Rattle.grid.specs.declared.Raised.{Raised}
use Rattle.nearest_laws.specs.laws.Signs.{Pos, NonPos}
use Rattle.grid.specs.scan.Judged.{apex_of}
use Rattle.nearest_laws.specs.laws.Circle.{raised_at, Tilted, tilted, by}
use Rattle.nearest_laws.specs.laws.Least.{Convex, least}

-- the square of the difference of two numbers
abbrev pub gap : ℕ → ℕ → ℕ
gap u w = (u - w + (w - u)) * (u - w + (w - u))

pub gap_is : (u w : ℕ) → u * u + w * w ≡ gap u w + 2 * (u * w)
gap_is u w =
    ⊎_elim
    (λ h. let q : w ≡ u + (w - u) = omega arith in let z : u - w ≡ 0 = omega arith in up u w (w - u) (u - w) q z)
    (λ h. let q : u ≡ w + (u - w) = omega arith in let z : w - u ≡ 0 = omega arith in down u w (u - w) (w - u) q z)
    (lt_or_ge u w)
  where
    up : (u w e f : ℕ) → w ≡ u + e → f ≡ 0 → u * u + w * w ≡ (f + e) * (f + e) + 2 * (u * w)
    up u w e f q z = rw (q, z) (omega arith)

    down : (u w e f : ℕ) → u ≡ w + e → f ≡ 0 → u * u + w * w ≡ (e + f) * (e + f) + 2 * (u * w)
    down u w e f q z = rw (q, z) (omega arith)

-- the squared distance, in units of 1 / D, from (x, y) to (p / D, q / D)
abbrev pub far_from : ℕ → ℕ → ℕ → ℕ → ℕ → ℕ
far_from D p q x y = gap (D * x) p + gap (D * y) q

far_tilted : (D p q x y z : ℕ) → Tilted (D * D) (p * p + q * q) (D * p) (D * q) (raised_at x y z) (far_from D p q x y)
far_tilted D p q x y z = sum (gap (D * x) p) (gap (D * y) q) (gap_is (D * x) p) (gap_is (D * y) q)
  where
    sum : (g h : ℕ) → D * x * (D * x) + p * p ≡ g + 2 * (D * x * p) → D * y * (D * y) + q * q ≡ h + 2 * (D * y * q) → D * D * (x * x + y * y) + (p * p + q * q) ≡ g + h + 2 *
        (x * (D * p) + y * (D * q))
    sum g h i j = omega arith

module _ {tri he hull : List ℕ} {sites : ℕ} (ok : Topology tri he hull sites) (X Y : ℕ → ℕ) where
  -- a site with the height x² + y²
  abbrev pub raised : ℕ → Raised
  raised v = raised_at (X v) (Y v) (X v * X v + Y v * Y v)

  -- the exact checks: each triangle turns counter-clockwise (y down); over no paired half-edge is the far site strictly inside the circle; the hull is convex
  pub record Checked : Type 0 where
    pub turns : (e : ℕ) → e < length he → Pos (area_of (raised (start_of tri e)) (raised (end_of tri e)) (raised (apex_of tri e)))
    pub circles : (e : ℕ) → e < length he → pair_of he e ≢ EMPTY → NonPos (lift_of (raised (start_of tri e)) (raised (end_of tri e)) (raised (apex_of tri e)) (raised (apex_of tri (pair_of he e))))
    pub convex : Convex hull raised

  module _ (good : Checked) (D p q : ℕ) where
    abbrev pub far : ℕ → ℕ
    far v = far_from D p q (X v) (Y v)

    abbrev P : ℕ → Raised
    P v = raised_at (X v) (Y v) (far v)

    over : (e : ℕ) → e < length he → pair_of he e ≢ EMPTY → NonPos (lift_of (P (start_of tri e)) (P (end_of tri e)) (P (apex_of tri e)) (P (apex_of tri (pair_of he e))))
    unfolding by
    over e l n =
        let a = start_of tri e in
        let b = end_of tri e in
        let d = apex_of tri e in
        let c = apex_of tri (pair_of he e) in
        tilted (D * D) (p * p + q * q) (D * p) (D * q) (raised a) (raised b) (raised d) (raised c) (far a) (far b) (far d) (far c) (far_tilted D p q (X a) (Y a) 0)
        (far_tilted D p q (X b) (Y b) 0) (far_tilted D p q (X d) (Y d) 0) (far_tilted D p q (X c) (Y c) 0) (good.circles e l n)

    same_far : (u v : ℕ) → X u ≡ X v → Y u ≡ Y v → far u ≤ far v
    same_far u v i j = rw (i, j) (omega arith)

    -- the theorem
    pub nearest : (s t : ℕ) → Used tri s → Used tri t → ((e : ℕ) → e < length he → end_of tri e ≡ s → far s ≤ far (start_of tri e)) →
        ((e : ℕ) → e < length he → start_of tri e ≡ s → far s ≤ far (end_of tri e)) → far s ≤ far t
    nearest s t us ut ins outs = least ok P good.turns over (record { left = good.convex.left; once = good.convex.once }) s t us ut (same_far s t) ins outs
