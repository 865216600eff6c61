-- Theorem: what is tried tells. A point passes exactly if it is an admitted destination; a box of which no corner fails has admitted corners, each in units of its own;
-- the corner that is named is no admitted destination, and all before it are.
use Rattle.std.specs.Prelude.{◌≡◌, ℕ, ◌+◌, ◌-◌, ◌*◌, ◌^◌, ◌<◌, ◌≤◌, Bool, true, false, not, get_or, pos, nat_lt, slice_index_or, refl, Float}
use Rattle.std.proofs.Common.{sym, ap, ◌∙◌, ⊎_elim, le_trans, arith, lit≤, pow_pos, pow_mono}
use Rattle.std.proofs.lemmas.Bool.{false≢true}
use borrow.Author.Tests.{ltb-true, lt-ltb}
use Rattle.std.specs.Float.Ieee.{nan, binary64, of_int, to_unsigned, lt}
use Rattle.std.specs.Float.{inf, fin}
use Rattle.std.specs.Float.Ieee.Back.{round_whole}
use Rattle.std.specs.Float.Ieee.Exact.{HasValue}
use Rattle.base.specs.common.Binary64.{◌⊠◌, ◌⊘◌}
use Rattle.base.specs.common.Pick.{pick}
use Rattle.base.specs.common.laws.And.{and_left, and_right, and_both}
use Rattle.base.specs.common.laws.Decide.{lt_or_ge}
use Rattle.root.specs.Root.{magnitude}
use Rattle.ring_area.specs.lowest.Lowest.{lowest}
use Rattle.ring_area.specs.lowest.laws.Loops.{lowest_first, lowest_takes, some_below}
use Rattle.plane.specs.points.Plane.{at}
use Rattle.plane.specs.declared.points.Point.{Point}
use Rattle.plane.specs.boxes.Box.{corners_of}
use Rattle.plane.specs.declared.boxes.BoundingBox.{BoundingBox}
use Rattle.nearest_laws.specs.Admitted.{AdmittedNumber, AdmittedPoint}
use Rattle.nearest.specs.corners.Tried.{are_units, in_units, in_both, admitted, off_corner}
use Rattle.nearest.specs.corners.laws.Exact.{eq_value, quotient_at, product_at, cut_at, value_eq}

-- a test that passes has passed each of its parts
taken : (b : Bool) {r : Bool} → pick b (λ _. r) (λ _. false) ≡ true → (b ≡ true) × (r ≡ true)
taken true h = (refl, h)
taken false h = absurd (false≢true h)

module _ (k : ℕ) (small : k ≤ 12) where
  low : 2 ^ k ≤ 4096
  low = pow_mono {i = k} {j = 12} small

  far : 67108864 ≤ 2 ^ 53
  far = lit≤ tt

  of_units : (v : ℕ) (m : Float) → are_units (2 ^ k) v m ≡ true → (v < 67108864 - 8192 * 2 ^ k) × ((s : Bool) × HasValue m s v (2 ^ k))
  unfolding are_units of_int
  of_units v m h =
      let t = taken (nat_lt v (67108864 - 8192 * 2 ^ k)) h in
      let l = ltb-true v (67108864 - 8192 * 2 ^ k) t.0 in
      let q = quotient_at k (omega arith) (of_int binary64 (pos v)) (of_int binary64 (pos (2 ^ k))) v (round_whole binary64 false v (le_trans (omega (arith, l)) far))
      (round_whole binary64 false (2 ^ k) (le_trans (le_trans low (lit≤ tt)) far)) (omega (arith, l)) in
      let e = eq_value (of_int binary64 (pos v) ⊘ of_int binary64 (pos (2 ^ k))) m false v (2 ^ k) t.1 q in
      (l, (e.0, e.1))

  -- one coordinate
  pub tried_number : (x : Float) → in_units (2 ^ k) x ≡ true → AdmittedNumber k x
  unfolding in_units
  tried_number x h =
      let y = magnitude x ⊠ of_int binary64 (pos (2 ^ k)) in
      let t = taken (lt (fin true 1 (pos 0)) y) h in
      let a = of_units (to_unsigned 64 y) (magnitude x) (taken (lt y (fin false 1 (pos 64))) t.1).1 in
      told x (to_unsigned 64 y) a.0 a.1.0 a.1.1
    where
      told : (x : Float) (v : ℕ) → v < 67108864 - 8192 * 2 ^ k → (s : Bool) → HasValue (magnitude x) s v (2 ^ k) → AdmittedNumber k x
      told nan v l s h = absurd h
      told (inf i) v l s h = absurd h
      told (fin i m e) v l s h = record { minus = i; units = v; value = (refl, h.1); near = omega (arith, low) }

-- a point
pub tried_point : (p : Point) → admitted p ≡ true → (k : ℕ) × AdmittedPoint k p
tried_point p h =
    let k = lowest (λ j. in_both (2 ^ j) p) 13 in
    let l = ltb-true k 13 h in
    let t = lowest_takes (λ j. in_both (2 ^ j) p) 13 l in (
      k,
      record {
        x = tried_number k (omega arith) p.x (and_left (in_units (2 ^ k) p.x) (in_units (2 ^ k) p.y) t);
        y = tried_number k (omega arith) p.y (and_right (in_units (2 ^ k) p.x) (in_units (2 ^ k) p.y) t);
      },
    )

-- the corners of a box
pub tried_corners : (b : BoundingBox) → off_corner b ≡ 4 → (c : ℕ) → c < 4 → (k : ℕ) × AdmittedPoint k (slice_index_or (corners_of b) c (at nan nan))
tried_corners b e c l =
    let p = get_or (corners_of b) c (at nan nan) in
    tried_point p (passed (admitted p) ((lowest_first (λ i. not (admitted (slice_index_or (corners_of b) i (at nan nan)))) 4).before c (omega (arith, e))))
  where
    passed : (a : Bool) → not a ≡ false → a ≡ true
    passed true h = refl
    passed false h = sym h

-- ---- and back
few_units : {k : ℕ} {x : Float} → AdmittedNumber k x → k < 13
few_units {k} a = ⊎_elim (λ l. l) (λ l. absurd (omega (arith, a.near, pow_mono {i = 13} {j = k} l))) (lt_or_ge k 13)

-- a number of units is found and is told
units_tried : (k : ℕ) (m : Float) (v : ℕ) → v + 2 ^ k * 8192 < 2 ^ 26 → HasValue m false v (2 ^ k) → are_units (2 ^ k) v m ≡ true
unfolding are_units of_int
units_tried k m v near h =
    let n = round_whole binary64 false v (omega (arith, near)) in
    let d = round_whole binary64 false (2 ^ k) (omega (arith, near)) in
    let q = quotient_at k (short k near) (of_int binary64 (pos v)) (of_int binary64 (pos (2 ^ k))) v n d (omega (arith, near)) in
    rw (lt-ltb v (67108864 - 8192 * 2 ^ k) (omega (arith, near))) (value_eq (of_int binary64 (pos v) ⊘ of_int binary64 (pos (2 ^ k))) m v (2 ^ k) (pow_pos k) q h)
  where
    short : (k : ℕ) → v + 2 ^ k * 8192 < 2 ^ 26 → k ≤ 1074
    short k near = ⊎_elim (λ l. omega arith) (λ l. absurd (omega (arith, near, pow_mono {i = 13} {j = k} l))) (lt_or_ge k 13)

number_tried : {k : ℕ} (x : Float) → AdmittedNumber k x → in_units (2 ^ k) x ≡ true
unfolding in_units of_int
number_tried nan a = absurd a.value
number_tried (inf i) a = absurd a.value
number_tried {k} (fin i m e) a =
    let u = of_int binary64 (pos (2 ^ k)) in
    let own : HasValue (fin false m e) false a.units (2 ^ k) = (refl, a.value.1) in
    let h = product_at k (fin false m e) u a.units own (round_whole binary64 false (2 ^ k) (omega (arith, a.near))) (omega (arith, a.near)) in
    let t = cut_at (fin false m e ⊠ u) a.units h (omega (arith, a.near)) in
    rw (t.0, t.1, t.2) (units_tried k (fin false m e) a.units a.near own)

pub point_tried : {k : ℕ} (p : Point) → AdmittedPoint k p → admitted p ≡ true
point_tried {k} p a = some_below (λ j. in_both (2 ^ j) p) k (few_units a.x) (and_both (in_units (2 ^ k) p.x) (in_units (2 ^ k) p.y) (number_tried p.x a.x) (number_tried p.y a.y))

-- the corner that is named
pub corner_off : (b : BoundingBox) → off_corner b < 4 → {k : ℕ} → AdmittedPoint k (slice_index_or (corners_of b) (off_corner b) (at nan nan)) → ⊥
corner_off b l a =
    let off = lowest_takes (λ i. not (admitted (slice_index_or (corners_of b) i (at nan nan)))) 4 l in
    false≢true (sym (ap not (point_tried (slice_index_or (corners_of b) (off_corner b) (at nan nan)) a)) ∙ off)
