-- Where the corner of the box is left once in floats, it is on whole numbers; and what holds of every entry holds of every end.
use Rattle.std.specs.Prelude.{◌≡◌, true, List, Float, get_or}
use Rattle.std.proofs.Math.Path.{sym, ap, subst}
use Rattle.std.proofs.Common.{◌∙◌, get_or-append-add}
use Rattle.std.proofs.Math.Logic.{⊎_elim}
use Prim.Native.Nat.{ℕ, zero, suc, ◌+◌, ◌-◌, ◌*◌, ◌<◌}
use native.Mathlib.Omega.{arith}
use borrow.Author.Tests.{eqb-true}
use Rattle.std.proofs.Math.ListN.{length, length-append, get_or-append}
use Rattle.base.specs.common.laws.Count.{sum_same}
use Rattle.base.specs.common.laws.Decide.{lt_or_ge}
use Rattle.plane.specs.points.Flat.{point_at}
use Rattle.plane.specs.declared.boxes.BoundingBox.{BoundingBox}
use Rattle.walks.specs.shared.Cells.{Cells, cell_of}
use Rattle.certifying.specs.cover.Sums.{WholePlace, sum_all}
use Rattle.certifying.specs.cover.Cover.{leaves}
use Rattle.audit_truth.specs.Held.{HeldBox}
use Rattle.certifying.specs.sides.Sides.{ring_ends, ends_from, ends_of, side_count, leaves_at, reaches_at, how_many, left_once}
use Rattle.certifying.specs.sides.laws.Ends.{end_inner, end_last, ring_long, ends_long}
use Rattle.certifying.specs.truth.Places.{raised_units, vertex_place, rings_from}
use Rattle.certifying.specs.truth.laws.Boxed.{leaves_is}
use Rattle.certifying.specs.truth.laws.Cancelling.{HeldSides}
use Rattle.certifying.specs.truth.laws.Flat.{flat_sum}

-- ---- the corner
module _ (c : ℕ) (pos : 0 < c) (b : BoundingBox) (box : HeldBox b) (v : List Float) (off ix : List ℕ) (cut : Cells off (length ix)) (held : HeldSides v ix (ends_of off ix) (side_count off)) where
  abbrev leaving : WholePlace → WholePlace → ℕ
  leaving = leaves (c * raised_units b.left) (c * raised_units b.top) (c * raised_units b.right) (c * raised_units b.bottom)

  pub corner_left : left_once b v ix (ends_of off ix) (side_count off) ≡ true
      → sum_all leaving (rings_from (vertex_place c v) off ix 0 (length off - 1)) ≡ sum_all (λ p q. leaving q p) (rings_from (vertex_place c v) off ix 0 (length off - 1)) + 1
  unfolding left_once
  corner_left e =
      flat_sum (vertex_place c v) leaving off ix cut
      ∙ sum_same _ _ (side_count off) (λ k h. sym (leaves_is c pos b box (point_at v (get_or ix k 0)) (point_at v (get_or (ends_of off ix) k 0)) (held.starts k h) (held.ends k h)))
      ∙ eqb-true (how_many (leaves_at b v ix (ends_of off ix)) (side_count off)) (how_many (reaches_at b v ix (ends_of off ix)) (side_count off) + 1) e
      ∙ ap (λ (n : ℕ). n + 1)
      (sum_same _ _ (side_count off) (λ k h. leaves_is c pos b box (point_at v (get_or (ends_of off ix) k 0)) (point_at v (get_or ix k 0)) (held.ends k h) (held.starts k h))
      ∙ sym (flat_sum (vertex_place c v) (λ p q. leaving q p) off ix cut))

-- ---- of every end
module _ (Q : ℕ → Type 0) where
  ring_ends_lem : (c : List ℕ) → ((i : ℕ) → i < length c → Q (get_or c i 0)) → (i : ℕ) → i < length c → Q (get_or (ring_ends c) i 0)
  ring_ends_lem c a i h =
      ⊎_elim (λ k. subst Q (end_inner c i k) (a (i + 1) k)) (λ k. subst Q (end_last c i h k) (a 0 (omega arith))) (lt_or_ge (i + 1) (length c))

  module _ (off ix : List ℕ) (cut : Cells off (length ix)) (each : (s : ℕ) → s + 1 < length off → (i : ℕ) → i < length (cell_of off ix s) → Q (get_or (cell_of off ix s) i 0)) where
    from_have : (n j : ℕ) → j + n < length off → (k : ℕ) → k < length (ends_from off ix j n) → Q (get_or (ends_from off ix j n) k 0)
    unfolding ends_from
    from_have zero j h k g = absurd (omega arith)
    from_have (suc n) j h k g =
        let c = cell_of off ix j in
        let l = ring_long c in
        ⊎_elim
        (λ i. subst Q (sym (get_or-append (ring_ends c) (ends_from off ix (suc j) n) 0 k i)) (ring_ends_lem c (each j (omega arith)) k (omega arith)))
        (λ i. let q : k ≡ length (ring_ends c) + (k - length (ring_ends c)) = omega arith in
        rw q (subst Q (sym (get_or-append-add (ring_ends c) (ends_from off ix (suc j) n) (k - length (ring_ends c)) 0))
        (from_have n (suc j) (omega arith) (k - length (ring_ends c)) (omega (arith, length-append (ring_ends c) (ends_from off ix (suc j) n))))))
        (lt_or_ge k (length (ring_ends c)))

    pub ends_have : (k : ℕ) → k < side_count off → Q (get_or (ends_of off ix) k 0)
    ends_have k h = from_have (length off - 1) 0 (omega (arith, cut.some)) k (omega (arith, ends_long off ix cut))
