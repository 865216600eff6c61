-- Law: slices that hold a sheet of pieces have, cell by cell, the pieces' places (`cells_alike`), and so the sums of any form of sides (`sums_alike`); their offsets rise from 0
-- (`first_begin`, `offsets_rise`).
use Rattle.std.specs.Prelude.{◌≡◌, List, [], ◌∷◌, map, Float, take, drop, replicate}
use Rattle.std.proofs.Math.Path.{ap}
use Rattle.std.proofs.Common.{◌∙◌, get_or-take, length-take-le}
use Prim.Native.Nat.{ℕ, zero, suc, ◌+◌, ◌-◌, ◌*◌, ◌≤◌, ◌<◌}
use native.Mathlib.Omega.{arith}
use Rattle.std.specs.Float.{nan}
use Rattle.std.proofs.Math.ListN.{length, get_or, length-drop, get_or-append}
use Rattle.std.proofs.Math.Seq.{get_or-drop}
use Rattle.plane.specs.points.Flat.{point_at}
use Rattle.plane.specs.declared.points.Point.{Point}
use Rattle.plane.specs.declared.boxes.BoundingBox.{BoundingBox}
use Rattle.cell_memory.specs.layout.Cleared.{cleared_from}
use Rattle.walks.specs.shared.Cells.{cell_of}
use Rattle.cutting.specs.cuts.Numbers.{◌≈◌}
use Rattle.cutting.specs.cuts.Rings.{sum_by}
use Rattle.cutting.specs.cuts.Written.{round}
use Rattle.cutting.specs.sides.Area.{SideForm}
use Rattle.cutting.specs.sides.Alike.{SamePlaces, round_alike}
use Rattle.cutting_writer.specs.join.laws.Shown.{Shown, shown_kept}
use Rattle.cutting_laws.specs.theorem.MeshPieces.{numbers_from}
use Rattle.cutting_writer.specs.shown.laws.Inking.{origin}
use Rattle.cutting_writer.specs.shown.laws.Sheets.{AllStand}

pub cleared_below : {A : Type 0} (n i : ℕ) (a d : A) (l : List A) → i < n → n ≤ length l → get_or (cleared_from n a l) i d ≡ get_or l i d
cleared_below n i a d l h k = get_or-append (take n l) (replicate (length l - n) a) d i (omega (arith, length-take-le n l k)) ∙ get_or-take n l i d h

-- entries that show places one by one
from_places : (v : List Float) (es : List ℕ) (ps : List Point) → length es ≡ length ps → ((k : ℕ) → k < length ps → Shown v (get_or es k 0) (get_or ps k origin))
    → SamePlaces (map (point_at v) es) ps
from_places v [] [] e f = tt
from_places v [] (p ∷ ps) e f = absurd (omega arith)
from_places v (n ∷ es) [] e f = absurd (omega arith)
from_places v (n ∷ es) (p ∷ ps) e f = (f 0 (omega arith), from_places v es ps (omega arith) (λ k l. f (suc k) (omega arith)))

-- rings that are the same, one by one
abbrev pub AllAlike : List (List Point) → List (List Point) → Type 0
AllAlike [] [] = Unit {0}
AllAlike [] (p ∷ l) = ⊥
AllAlike (q ∷ m) [] = ⊥
AllAlike (q ∷ m) (p ∷ l) = SamePlaces q p × AllAlike m l

pub sums_alike : {b : BoundingBox} (f : SideForm b) (m l : List (List Point)) → AllAlike m l → sum_by (round f.of) m ≈ sum_by (round f.of) l
sums_alike f [] [] s = omega arith
sums_alike f [] (p ∷ l) s = absurd s
sums_alike f (q ∷ m) [] s = absurd s
sums_alike f (q ∷ m) (p ∷ l) s = omega (arith, round_alike f q p s.0, sums_alike f m l s.1)

module _ (ix ix₁ : List ℕ) (v v₁ : List Float) (n : ℕ) (off off₁ : List ℕ) (end last : ℕ) (same_entries : (i : ℕ) → i < end → get_or ix₁ i 0 ≡ get_or ix i 0) (long : end ≤ length ix₁)
    (same_numbers : (i : ℕ) → i < 2 * n → get_or v₁ i nan ≡ get_or v i nan) (same_offsets : (i : ℕ) → i ≤ last → get_or off₁ i 0 ≡ get_or off i 0)
  where
    -- the ring of a cell
    abbrev pub cell_ring : ℕ → List Point
    cell_ring s = map (point_at v₁) (cell_of off₁ ix₁ s)

    first_offset : (s begin : ℕ) (l : List (List Point)) → AllStand ix v n off s begin l end → get_or off s 0 ≡ begin
    first_offset s begin [] a = a.0
    first_offset s begin (ps ∷ l) a = a.0

    stand_most : (s begin : ℕ) (l : List (List Point)) → AllStand ix v n off s begin l end → begin ≤ end
    stand_most s begin [] a = omega (arith, a.1)
    stand_most s begin (ps ∷ l) a = let i = stand_most (suc s) (begin + length ps) l a.2 in omega arith

    cell_same : (s begin : ℕ) (ps : List Point) (l : List (List Point)) → s < last → AllStand ix v n off s begin (ps ∷ l) end → SamePlaces (cell_ring s) ps
    unfolding cell_of
    cell_same s begin ps l h a =
        let o = same_offsets s (omega arith) ∙ a.0 in
        let o' = same_offsets (s + 1) (omega arith) ∙ ap (λ (i : ℕ). get_or off i 0) (next s) ∙ first_offset (suc s) (begin + length ps) l a.2 in
        let most = stand_most (suc s) (begin + length ps) l a.2 in
        let few : begin + length ps - begin ≡ length ps = omega arith in
        rw (o, o', few)
        (from_places v₁ (take (length ps) (drop begin ix₁)) ps (length-take-le (length ps) (drop begin ix₁) (omega (arith, length-drop begin ix₁)))
        (λ k q.
        let w = a.1 k q in
        rw (get_or-take (length ps) (drop begin ix₁) k 0 q, get_or-drop begin ix₁ k 0, same_entries (begin + k) (omega arith))
        (shown_kept v v₁ n (get_or ix (begin + k) 0) (get_or ps k origin) same_numbers w.0 w.1)))
      where
        next : (s : ℕ) → s + 1 ≡ suc s
        next s = omega arith

    pub cells_alike : (s begin : ℕ) (l : List (List Point)) → s + length l ≤ last → AllStand ix v n off s begin l end → AllAlike (map cell_ring (numbers_from s (length l))) l
    cells_alike s begin [] h a = tt
    cells_alike s begin (ps ∷ l) h a = (cell_same s begin ps l (omega arith) a, cells_alike (suc s) (begin + length ps) l (omega arith) a.2)

    -- the offsets from place s on rise, and do not pass the end
    pub offsets_rise : (s begin : ℕ) (l : List (List Point)) → s + length l ≤ last → AllStand ix v n off s begin l end
        → (i : ℕ) → i ≤ length l → (get_or off₁ (s + i) 0 ≤ end) × (i < length l → get_or off₁ (s + i) 0 ≤ get_or off₁ (s + i + 1) 0)
    offsets_rise s begin l h a zero k =
        let z : s + 0 ≡ s = omega arith in
        let o = same_offsets s (omega arith) ∙ first_offset s begin l a in
        rw z (omega (arith, o, stand_most s begin l a), λ w. one_rise s begin l h a w o)
      where
        one_rise : (s begin : ℕ) (l : List (List Point)) → s + length l ≤ last → AllStand ix v n off s begin l end → 0 < length l → get_or off₁ s 0 ≡ begin
            → get_or off₁ s 0 ≤ get_or off₁ (s + 1) 0
        one_rise s begin [] h a w o = absurd (omega arith)
        one_rise s begin (ps ∷ l) h a w o =
            let u : suc s ≡ s + 1 = omega arith in
            let e = same_offsets (suc s) (omega arith) ∙ first_offset (suc s) (begin + length ps) l a.2 in
            rw (← u) (omega (arith, o, e))
    offsets_rise s begin [] h a (suc i) k = absurd (omega arith)
    offsets_rise s begin (ps ∷ l) h a (suc i) k =
        let q : s + suc i ≡ suc s + i = omega arith in
        let r = offsets_rise (suc s) (begin + length ps) l (omega arith) a.2 i (omega arith) in
        rw q (r.0, λ w. r.1 (omega arith))

    pub first_begin : (s begin : ℕ) (l : List (List Point)) → s + length l ≤ last → AllStand ix v n off s begin l end → get_or off₁ s 0 ≡ begin
    first_begin s begin l h a = same_offsets s (omega arith) ∙ first_offset s begin l a
