-- The loop over the triangles follows the definition: what is left of it, from the vertices that stand, is the whole.
use Rattle.std.specs.Prelude.{◌≡◌, true, false, ℕ, suc, ◌+◌, ◌-◌, ◌*◌, ◌≤◌, ◌<◌, Float, length, set}
use Rattle.std.proofs.Math.Path.{refl}
use Rattle.std.proofs.Common.{sym, ap, ◌∙◌, length-append}
use mathlib.Core.List.{List, [], ◌∷◌, ◌++◌}
use Rattle.std.proofs.Math.Nat.{sub-zero}
use Rattle.std.proofs.Math.Numerals.{add-one}
use native.Mathlib.Omega.{arith}
use Rattle.plane.specs.points.Flat.{points, points_from, flat, pour}
use Rattle.plane.specs.declared.points.Point.{Point}
use Rattle.plane.specs.centers.Circumcenter.{ok_center}
use Rattle.vertices.specs.laws.Points.{length_points, length_pour, points_pour, pour_snoc, pour_pour}
use Rattle.definition.specs.Build.{center_at, centers_from}
use Rattle.cell_builder.specs.rings.Centers.{CentersBy}

module _ (sites : List Float) (tri : List ℕ) (n : ℕ) (v₀ : List Float) where
  pub record CentersTo (v : List Float) (t : ℕ) : Type 0 where
    pub within : t ≤ n
    pub long : length v ≡ length v₀
    pub whole : centers_from sites tri 0 n [] ≡ centers_from sites tri t (n - t) (points t v)
    pub poured : v ≡ pour (points t v) v₀

  pub centers_start : CentersTo v₀ 0
  unfolding pour points_from flat
  centers_start = record { within = omega arith; long = refl; whole = rw sub-zero; poured = refl }

  module _ (v : List Float) (t : ℕ) (g : CentersTo v t) (h : t < n) where
    rest : centers_from sites tri 0 n [] ≡ centers_from sites tri t (suc (n - (t + 1))) (points t v)
    rest = let q : n - t ≡ suc (n - (t + 1)) = omega arith in rw (← q) g.whole

    pub centers_bad : (w : List Float) (c : Point) → c ≡ center_at sites tri t → ok_center c ≡ false → CentersBy (centers_from sites tri 0 n []) n t v₀ w
    unfolding centers_from
    centers_bad w c q b = rw (rest, ← q, b) (refl, h)

    module _ (room : 2 * n ≤ length v₀) (c : Point) (w : List Float) (e : w ≡ set (set v (2 * t) c.x) (2 * t + 1) c.y) where
      vs_long : length (points t v ++ c ∷ []) ≡ t + 1
      vs_long = rw (length-append, length_points v 0 t)

      poured_once : w ≡ pour (points t v ++ c ∷ []) v
      poured_once = e ∙ sym (pour_snoc v t c (omega (arith, g.long)))

      stand : points (t + 1) w ≡ points t v ++ c ∷ []
      stand = rw (poured_once, ← vs_long) (points_pour (points t v ++ c ∷ []) v)

      step_long : length w ≡ length v₀
      step_long = ap length poured_once ∙ length_pour (points t v ++ c ∷ []) v (omega (arith, vs_long, g.long)) ∙ g.long

      step_poured : w ≡ pour (points (t + 1) w) v₀
      step_poured =
          rw stand (poured_once ∙ ap (pour (points t v ++ c ∷ [])) g.poured
          ∙ pour_pour (points t v) (points t v ++ c ∷ []) v₀ (omega (arith, vs_long, length_points v 0 t)) (omega (arith, length_points v 0 t)))

      step_whole : c ≡ center_at sites tri t → ok_center c ≡ true → centers_from sites tri 0 n [] ≡ centers_from sites tri (t + 1) (n - (t + 1)) (points (t + 1) w)
      unfolding centers_from
      step_whole q b =
          let more : centers_from sites tri 0 n [] ≡ centers_from sites tri (suc t) (n - (t + 1)) (points t v ++ c ∷ []) = rest ∙ rw (← q, b) in
          rw (stand, add-one) (rw add-one at more)

      pub centers_step : c ≡ center_at sites tri t → ok_center c ≡ true → CentersTo w (t + 1)
      centers_step q b = record { within = omega arith; long = step_long; whole = step_whole q b; poured = step_poured }

  pub centers_end : (v : List Float) (t : ℕ) → CentersTo v t → n ≤ t → CentersBy (centers_from sites tri 0 n []) n t v₀ v
  unfolding centers_from
  centers_end v t g h =
      let q : t ≡ n = omega (arith, g.within) in
      let z : n - t ≡ 0 = omega arith in
      rw (g.whole, z) (q, length_points v 0 t ∙ q, g.poured)
