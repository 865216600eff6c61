-- The entries of a cell are among those of all cells.
use Rattle.std.specs.Prelude.{◌≡◌, List, ℕ, zero, suc, ◌+◌, ◌-◌, ◌*◌, ◌/◌, ◌≤◌, ◌<◌, Float, length, drop}
use Rattle.std.proofs.Math.Path.{sym}
use Rattle.std.proofs.Common.{ap, ◌∙◌, subst, le_trans, le_of_eq, arith, length-take-le}
use Rattle.std.proofs.Math.ListN.{get_or, length-take, length-drop}
use Rattle.std.proofs.Math.Seq.{get_or-take, get_or-drop}
use Rattle.walks.specs.shared.Cells.{Cells, cell_of}
use Rattle.plane.specs.points.Flat.{point_at}
use Rattle.plane.specs.centers.Finite.{center_bounded}
use Rattle.plane.specs.centers.Circumcenter.{ok_center}
use Rattle.ring_area.specs.Steps.{Corners}
use Rattle.arguments.specs.entries.Named.{EntriesNamed}
use Rattle.areas.specs.Promise.{entries_of_all}
use Rattle.areas.specs.Steps.{RingsKept}

-- ---- the entries of cell s
module _ (off ix : List ℕ) (cut : Cells off (length ix)) (s : ℕ) (h : s + 1 < length off) where
  -- offsets do not fall
  far : (i j : ℕ) → i + j < length off → get_or off i 0 ≤ get_or off (i + j) 0
  far i zero l = le_of_eq (ap (λ (k : ℕ). get_or off k 0) (plain i))
    where
      plain : (i : ℕ) → i ≡ i + 0
      plain i = omega arith
  far i (suc j) l =
      let q : i + suc j ≡ i + j + 1 = omega arith in
      rw q (le_trans (far i j (omega arith)) (cut.rising (i + j) (omega arith)))

  last : get_or off (s + 1) 0 ≤ get_or off (length off - 1) 0
  last = subst (λ (k : ℕ). get_or off (s + 1) 0 ≤ get_or off k 0) (reach (length off) s h) (far (s + 1) (length off - 1 - (s + 1)) (inside (length off) s h))
    where
      reach : (n s : ℕ) → s + 1 < n → s + 1 + (n - 1 - (s + 1)) ≡ n - 1
      reach n s h = omega arith

      inside : (n s : ℕ) → s + 1 < n → s + 1 + (n - 1 - (s + 1)) < n
      inside n s h = omega arith

  whole : length (entries_of_all off ix) ≡ get_or off (length off - 1) 0
  whole = length-take-le (get_or off (length off - 1) 0) ix (cut.within (length off - 1) (omega arith))

  long : length (cell_of off ix s) ≤ get_or off (s + 1) 0 - get_or off s 0
  unfolding cell_of
  long = omega (arith, length-take (get_or off (s + 1) 0 - get_or off s 0) (drop (get_or off s 0) ix))

  short : length (cell_of off ix s) ≤ length ix
  unfolding cell_of
  short = omega (arith, length-take (get_or off (s + 1) 0 - get_or off s 0) (drop (get_or off s 0) ix), length-drop (get_or off s 0) ix)

  module _ (k : ℕ) (g : k < length (cell_of off ix s)) where
    place : get_or off s 0 + k < length (entries_of_all off ix)
    place = omega (arith, long, last, whole, cut.rising s h)

    entry : get_or (cell_of off ix s) k 0 ≡ get_or (entries_of_all off ix) (get_or off s 0 + k) 0
    unfolding cell_of
    entry =
        get_or-take (get_or off (s + 1) 0 - get_or off s 0) (drop (get_or off s 0) ix) k 0 (omega (arith, long))
        ∙ get_or-drop (get_or off s 0) ix k 0
        ∙ sym (get_or-take (get_or off (length off - 1) 0) ix (get_or off s 0 + k) 0 (omega (arith, place, whole)))

  -- each names what those of all cells name
  pub cell_named : {n : ℕ} → EntriesNamed (entries_of_all off ix) n → EntriesNamed (cell_of off ix s) n
  cell_named {n} a = record { each = λ k g. subst (λ (e : ℕ). e < n) (sym (entry k g)) (a.each (get_or off s 0 + k) (place k g)) }

pub cell_corners : {v : List Float} {off ix : List ℕ} → RingsKept v off ix → (s : ℕ) → s + 1 < length off → Corners v (cell_of off ix s)
cell_corners {v} {off} {ix} a s h = record {
  few = le_trans (short off ix a.cut s h) a.few;
  named = λ k g. twice (get_or (cell_of off ix s) k 0) (length v) ((cell_named off ix a.cut s h a.named).each k g);
  bounded = λ k g. center_bounded (point_at v (get_or (cell_of off ix s) k 0))
      (ap (λ (e : ℕ). ok_center (point_at v e)) (entry off ix a.cut s h k g) ∙ a.kept.each (get_or off s 0 + k) (place off ix a.cut s h k g));
}
  where
    twice : (e n : ℕ) → e < n / 2 → 2 * e + 1 < n
    twice e n h = omega arith
