-- The sums over all rings: how they grow, and how large they can be.
use Rattle.std.specs.Prelude.{◌≡◌, Bool, not, ◌&&◌, List, [], ◌∷◌, map, ℕ, zero, suc, ◌+◌, ◌-◌, ◌*◌, ◌/◌, ◌^◌, ◌≤◌, ◌<◌, ltb, Float, drop, replicate}
use Rattle.std.proofs.Common.{sym, ◌∙◌, subst, zero-le, le_trans, le_of_eq, add-le-add, suc-mul, mul-le-mul_right, lt_of_le_of_lt, add-one, arith, lit≤, length-take, length-drop, pow-add}
use Rattle.std.proofs.Math.Path.{ap}
use Prim.{tt}
use Rattle.std.proofs.Math.Dec.{leb}
use Rattle.std.proofs.Math.ListN.{length, get_or}
use Rattle.std.proofs.lemmas.List.{length-replicate}
use Rattle.std.proofs.Math.Pow.{pow-lt}
use Rattle.base.specs.common.Binary64.{◌⊘◌}
use Rattle.plane.specs.points.Flat.{point_at}
use Rattle.plane.specs.boxes.Box.{corners_of}
use Rattle.plane.specs.boxes.Finite.{BoundedBox}
use Rattle.plane.specs.declared.boxes.BoundingBox.{BoundingBox}
use Rattle.ring_area.specs.long.Amount.{amount, weight}
use Rattle.ring_area.specs.long.Steps.{PutIn, Carried}
use Rattle.ring_area.specs.long.laws.Puts.{added_then}
use Rattle.ring_area.specs.Area.{rounded_half, area}
use Rattle.ring_area.specs.Steps.{Open, Corners, RingIn, SumFits, gains_of, losses_of}
use Rattle.ring_area.specs.laws.Bounds.{ring_gains, ring_losses}
use Rattle.ring_area.specs.laws.Settles.{total_is}
use Rattle.ring_area.specs.laws.Products.{added_none}
use Rattle.walks.specs.shared.Cells.{Cells, cell_of}
use Rattle.areas.specs.Steps.{RingsKept}
use Rattle.areas.specs.laws.Entries.{cell_corners}
use Rattle.ring_area.specs.limits.Long.{LongOf}
use Rattle.ring_area.specs.limits.laws.Limits.{apart_within}
use Rattle.ring_area.specs.limits.laws.Overs.{zeros_at, carried_long}
use Rattle.auditing.specs.limit.Limit.{BoxIn}
use Rattle.auditing.specs.limit.laws.Boxes.{box_gains, box_losses}
use Rattle.auditing.specs.total.Total.{rings_total, cell_gains, cell_losses, box_and_losses, box_and_gains, missing_of, apart, total_whole}
use Rattle.auditing.specs.total.Steps.{RingsIn, TotalIn}

-- ---- a ring of no corners
pub ring_none : (v : List Float) (cell p m : List ℕ) → length cell ≡ 0 → RingIn v cell p p m m
ring_none v [] p m h = record { added = added_none p 0; taken = added_none m 0 }
ring_none v (x ∷ r) p m h = absurd (omega arith)

-- ---- the rings of the sites below s
cell_long : (off ix : List ℕ) → Cells off (length ix) → (s : ℕ) → s + 1 < length off → length (cell_of off ix s) ≡ get_or off (s + 1) 0 - get_or off s 0
unfolding cell_of
cell_long off ix c s h =
    omega (arith, length-take (get_or off (s + 1) 0 - get_or off s 0) (drop (get_or off s 0) ix), length-drop (get_or off s 0) ix, c.rising s h, c.within (s + 1) h)

pub record RingsTo (v : List Float) (off ix : List ℕ) (s : ℕ) (p p₁ m m₁ : List ℕ) : Type 0 where
  pub most : s < length off
  pub taken : PutIn p p₁ (rings_total (cell_losses v off ix) s) (16 * get_or off s 0)
  pub added : PutIn m m₁ (rings_total (cell_gains v off ix) s) (16 * get_or off s 0)

pub rings_start : (v : List Float) (off ix p m : List ℕ) → Cells off (length ix) → RingsTo v off ix 0 p p m m
unfolding rings_total
rings_start v off ix p m c = record { most = c.some; taken = added_none p (16 * get_or off 0 0); added = added_none m (16 * get_or off 0 0) }

module _ {v : List Float} {off ix : List ℕ} {s : ℕ} {p p₁ m m₁ : List ℕ} (w : RingsTo v off ix s p p₁ m m₁) (k : RingsKept v off ix) (h : s + 1 < length off) where
  room : {l l₁ : List ℕ} {x : ℕ} {cell : List ℕ} → cell ≡ cell_of off ix s → Open l (16 * length ix) → PutIn l l₁ x (16 * get_or off s 0) → Open l₁ (16 * length cell)
  room {l} {l₁} {x} {cell} e o a = record {
    long = a.long ∙ o.long;
    room = record { each = λ i. omega (arith, a.grown i, o.room.each i, ap length e, cell_long off ix k.cut s h, k.cut.rising s h, k.cut.within (s + 1) h) };
  }

  pub ring_open : {cell : List ℕ} → cell ≡ cell_of off ix s → Open p (16 * length ix) → Open m (16 * length ix)
      → Corners v cell × Open m₁ (16 * length cell) × Open p₁ (16 * length cell)
  ring_open {cell} e a b = (subst (Corners v) (sym e) (cell_corners k s h), room e b w.added, room e a w.taken)

  one_more : {l l₁ l₂ : List ℕ} (f : ℕ → ℕ) (cell : List ℕ) {x : ℕ} → cell ≡ cell_of off ix s → x ≡ f s → PutIn l l₁ (rings_total f s) (16 * get_or off s 0) → PutIn l₁ l₂ x (16 * length cell)
      → PutIn l l₂ (rings_total f (s + 1)) (16 * get_or off (s + 1) 0)
  unfolding rings_total
  one_more {l} {l₁} {l₂} f cell {x} e g a b =
      rw (add-one s)
      (subst (λ (n : ℕ). PutIn l l₂ (rings_total f s + f s) n) puts (subst (λ (y : ℕ). PutIn l l₂ (rings_total f s + y) (16 * get_or off s 0 + 16 * length cell)) g (added_then a b)))
    where
      puts : 16 * get_or off s 0 + 16 * length cell ≡ 16 * get_or off (suc s) 0
      puts = omega (arith, ap length e, cell_long off ix k.cut s h, k.cut.rising s h, ap (λ (i : ℕ). get_or off i 0) (add-one s))

  pub rings_step : {p₂ m₂ cell : List ℕ} → cell ≡ cell_of off ix s → RingIn v cell m₁ m₂ p₁ p₂ → RingsTo v off ix (s + 1) p p₂ m m₂
  rings_step {cell = cell} e r = record {
    most = h;
    taken = one_more (cell_losses v off ix) cell e (ap (λ (c : List ℕ). losses_of (map (point_at v) c)) e) w.taken r.taken;
    added = one_more (cell_gains v off ix) cell e (ap (λ (c : List ℕ). gains_of (map (point_at v) c)) e) w.added r.added;
  }

-- by no more puts than 2 ^ 24 entries take
more_puts : {l l₁ : List ℕ} {x : ℕ} (n k : ℕ) → n ≤ k → PutIn l l₁ x n → PutIn l l₁ x k
more_puts {l} n k h a = record { total = a.total; long = a.long; grown = λ i. omega (arith, a.grown i); most = le_trans a.most (mul-le-mul_right (weight (length l)) h) }

pub rings_end : {v : List Float} {off ix : List ℕ} {s : ℕ} {p p₁ m m₁ : List ℕ} → RingsTo v off ix s p p₁ m m₁ → RingsKept v off ix → (n : ℕ) → n ≡ s → RingsIn v off ix n p p₁ m m₁
rings_end {v} {off} {ix} {s} {p} {p₁} {m} {m₁} w k n e =
    rw e (record { taken = more_puts (16 * get_or off s 0) (16 * 16777216) few w.taken; added = more_puts (16 * get_or off s 0) (16 * 16777216) few w.added })
  where
    few : 16 * get_or off s 0 ≤ 16 * 16777216
    few = omega (arith, k.cut.within s w.most, k.few)

-- ---- the box's too
pub open_rings : {l l₁ : List ℕ} {x n : ℕ} → n ≤ 2 ^ 24 → Open l (16 * 16777220) → PutIn l l₁ x 64 → Open l₁ (16 * n)
open_rings h o a = record { long = a.long ∙ o.long; room = record { each = λ i. omega (arith, a.grown i, o.room.each i) } }

pub open_box : {l : List ℕ} → Open l (16 * 16777220) → Open l 64
open_box o = record { long = o.long; room = record { each = λ i. omega (arith, o.room.each i) } }

pub open_nothing : Open (replicate 94 0) (16 * 16777220)
open_nothing = record { long = length-replicate {A = ℕ} 94 0; room = record { each = λ i. omega (arith, zeros_at i) } }

pub total_in : {b : BoundingBox} {v : List Float} {off ix p p₁ p₂ m m₁ m₂ : List ℕ} → BoxIn b p p₁ m m₁ → RingsIn v off ix (length off - 1) p₁ p₂ m₁ m₂ → TotalIn b v off ix p p₂ m m₂
unfolding box_and_losses box_and_gains
total_in x y = record { plus = added_then x.added y.taken; minus = added_then x.taken y.added }

-- ---- how large
sum_most : (f : ℕ → ℕ) (n w : ℕ) → ((s : ℕ) → s < n → f s ≤ w) → rings_total f n ≤ n * w
unfolding rings_total
sum_most f zero w h = zero-le
sum_most f (suc n) w h = more (rings_total f n) (f n) n w (sum_most f n w (λ s g. h s (omega arith))) (h n (omega arith))
  where
    more : (a b n w : ℕ) → a ≤ n * w → b ≤ w → a + b ≤ suc n * w
    more a b n w x y = let e : suc n * w ≡ n * w + w = suc-mul n w in omega arith

total_most : (a b n : ℕ) → a ≤ 2 ^ 2973 → b ≤ n * 2 ^ 2973 → n ≤ 65536 → a + b < 2 ^ 3008
total_most a b n x y z =
    lt_of_le_of_lt (le_trans (add-le-add x (le_trans y (mul-le-mul_right (2 ^ 2973) z))) (within (2 ^ 2973)))
    (subst (λ (k : ℕ). k < 2 ^ 3008) (pow-add 2 17 2973) (pow-lt {i = 2990} {j = 3008} (lit≤ tt)))
  where
    within : (w : ℕ) → w + 65536 * w ≤ 131072 * w
    within w = omega arith

module _ {b : BoundingBox} {v : List Float} {off ix p m : List ℕ} (B : BoundedBox 101 b) (k : RingsKept v off ix) (few : length off ≤ 65537)
    (t : TotalIn b v off ix (replicate 94 0) p (replicate 94 0) m) where
  fits : {l : List ℕ} {x : ℕ} → PutIn (replicate 94 0) l x (16 * 16777220) → x < 2 ^ 3008 → SumFits l
  fits {l} {x} a h = record {
    long = a.long ∙ length-replicate {A = ℕ} 94 0;
    room = record { each = λ i. omega (arith, a.grown i, zeros_at i) };
    fits = lt_of_le_of_lt (le_of_eq (total_is a)) h;
  }

  pub total_fits : SumFits p × SumFits m
  unfolding box_and_losses box_and_gains
  total_fits = (
    fits t.plus
        (total_most (gains_of (corners_of b)) (rings_total (cell_losses v off ix) (length off - 1)) (length off - 1) (box_gains b B)
        (sum_most (cell_losses v off ix) (length off - 1) (2 ^ 2973) (λ s g. ring_losses v (cell_of off ix s) (cell_corners k s (omega arith)))) (omega arith)),
    fits t.minus
        (total_most (losses_of (corners_of b)) (rings_total (cell_gains v off ix) (length off - 1)) (length off - 1) (box_losses b B)
        (sum_most (cell_gains v off ix) (length off - 1) (2 ^ 2973) (λ s g. ring_gains v (cell_of off ix s) (cell_corners k s (omega arith)))) (omega arith)),
  )

-- ---- two settled sums
pub within_is : (p m : ℕ) (l : List ℕ) {a b : List ℕ} {x y : Bool} → LongOf a (p - m) → LongOf b (m - p) → x ≡ ltb (amount l) (amount a) → y ≡ ltb (amount l) (amount b)
    → (box bits : ℕ) → amount l ≡ box / 2 ^ bits → (not x && not y) ≡ leb (apart p m * 2 ^ bits) box
within_is p m l {a} {b} {x} {y} c d e f box bits q =
    ap (λ (t : Bool). not t && not y) (e ∙ ap (λ (k : ℕ). ltb k (amount a)) q ∙ ap (ltb (box / 2 ^ bits)) c.value)
    ∙ ap (λ (t : Bool). not (ltb (box / 2 ^ bits) (p - m)) && not t) (f ∙ ap (λ (k : ℕ). ltb k (amount b)) q ∙ ap (ltb (box / 2 ^ bits)) d.value)
    ∙ apart_within box bits p m

-- the carries settled
module _ {b : BoundingBox} {v : List Float} {off ix p m p₁ m₁ : List ℕ} {c d : ℕ} (B : BoundedBox 101 b) (k : RingsKept v off ix) (few : length off ≤ 65537)
    (t : TotalIn b v off ix (replicate 94 0) p (replicate 94 0) m) (x : Carried p p₁ c) (y : Carried m m₁ d) where
  pub plus_is : LongOf p₁ (box_and_losses b v off ix)
  plus_is = let h = carried_long (total_fits B k few t).0 x in record { value = h.value ∙ total_is t.plus; settled = h.settled; long = h.long }

  pub minus_is : LongOf m₁ (box_and_gains b v off ix)
  minus_is = let h = carried_long (total_fits B k few t).1 y in record { value = h.value ∙ total_is t.minus; settled = h.settled; long = h.long }

  pub whole_is : {w : Bool} (box bits : ℕ) → w ≡ leb (apart (amount p₁) (amount m₁) * 2 ^ bits) box → w ≡ total_whole box bits b v off ix
  unfolding total_whole
  whole_is box bits e =
      e
      ∙ ap (λ (n : ℕ). leb (apart n (amount m₁) * 2 ^ bits) box) plus_is.value
      ∙ ap (λ (n : ℕ). leb (apart (box_and_losses b v off ix) n * 2 ^ bits) box) minus_is.value

  pub missing_is : {r a : Float} → r ≡ rounded_half (amount p₁) (amount m₁) → a ≡ area (corners_of b) → r ⊘ a ≡ missing_of b v off ix
  unfolding missing_of
  missing_is {r} {a} e f =
      ap (λ (z : Float). z ⊘ a) (e ∙ ap (λ (n : ℕ). rounded_half n (amount m₁)) plus_is.value ∙ ap (rounded_half (box_and_losses b v off ix)) minus_is.value)
      ∙ ap (λ (z : Float). rounded_half (box_and_losses b v off ix) (box_and_gains b v off ix) ⊘ z) f
