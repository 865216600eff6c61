-- The test on offsets: what it keeps from part to part and what it tells, and two offsets that cut out a cell.
use Rattle.std.specs.Prelude.{◌≡◌, refl, Bool, true, false, List, ℕ, ◌+◌, ◌-◌, ◌≤◌, ◌<◌, leb, length, get_or, take, drop}
use Rattle.std.specs.List.Sorted.{IsNonDecreasing}
use Rattle.std.proofs.Common.{◌∙◌, ⊎_elim, arith, leb-true, leb-false, length-take-le, length-drop, get_or-take, get_or-drop}
use Rattle.std.proofs.lemmas.List.{get_or_default}
use Rattle.std.proofs.lemmas.List.Sorted.{IsNonDecreasingBy-from_all_adjacent}
use Rattle.base.specs.common.Decide.{Says}
use Rattle.base.specs.common.laws.Decide.{lt_or_ge}
use Rattle.walks.specs.shared.Cells.{Cells}

-- of the entries before place n none is less than the one before it
abbrev pub RisingTo : List ℕ → ℕ → Type 0
RisingTo b n = (i : ℕ) → i + 1 < n → i + 1 < length b → get_or b i 0 ≤ get_or b (i + 1) 0

-- an entry of a part of a list
part_at : (off : List ℕ) (from to k : ℕ) → k < to - from → get_or (take (to - from) (drop from off)) k 0 ≡ get_or off (from + k) 0
part_at off from to k l = get_or-take _ _ k 0 l ∙ get_or-drop from off k 0

-- a part that does not fall, behind what does not fall as far as its first entry
pub rising_on : (off : List ℕ) (at to : ℕ) → to ≤ length off → RisingTo off (at + 1)
    → RisingTo (take (to - at) (drop at off)) (length (take (to - at) (drop at off))) → RisingTo off to
rising_on off at to r up part i l h =
    ⊎_elim
    (λ (b : i < at). up i (omega (arith, b)) h)
    (λ (b : at ≤ i).
    let len : length (take (to - at) (drop at off)) ≡ to - at = length-take-le (to - at) (drop at off) (rw (length-drop at off) (omega (arith, r))) in
    let x : at + (i - at) ≡ i = omega (arith, b) in
    let y : at + (i - at + 1) ≡ i + 1 = omega (arith, b) in
    let s = part (i - at) (rw len (omega (arith, l, b))) (rw len (omega (arith, l, b))) in
    rw (part_at off at to (i - at) (omega (arith, l, b)), part_at off at to (i - at + 1) (omega (arith, l, b)), x, y) at s)
    (lt_or_ge i at)

-- of what does not fall no part does
pub part_rising : (off : List ℕ) (room at to : ℕ) → to ≤ length off → Cells off room → RisingTo (take (to - at) (drop at off)) (length (take (to - at) (drop at off)))
part_rising off room at to r g k l h =
    let len : length (take (to - at) (drop at off)) ≡ to - at = length-take-le (to - at) (drop at off) (rw (length-drop at off) (omega (arith, r))) in
    let m : k + 1 < to - at = rw len at l in
    let y : at + k + 1 ≡ at + (k + 1) = omega arith in
    rw (part_at off at to k (omega (arith, m)), part_at off at to (k + 1) m) (rw y at (g.rising (at + k) (omega (arith, m, r))))

-- what does not fall as far as its end is in order
pub in_order : (off : List ℕ) (n : ℕ) → length off ≤ n → RisingTo off n → IsNonDecreasing off
in_order off n w up = IsNonDecreasingBy-from_all_adjacent (λ x. x) off (λ k d l.
    rw (get_or_default off k d 0 (omega arith), get_or_default off (k + 1) d 0 l) (up k (omega (arith, w)) l))

-- offsets that start at 0 and do not fall: the last of them is the largest, so it alone is asked
pub sorted_says : (off : List ℕ) (x room : ℕ) → 0 < length off → get_or off 0 0 ≡ 0 → IsNonDecreasing off → x ≡ get_or off (length off - 1) 0
    → Says (leb x room) (Cells off room)
sorted_says off x room some start up q = go (leb x room) refl
  where
    go : (b : Bool) → leb x room ≡ b → Says b (Cells off room)
    go true h = record {
      some = some;
      start = start;
      rising = λ i l. up i (i + 1) 0 (omega arith) l;
      within = λ i l. omega (arith, up i (length off - 1) 0 (omega arith) (omega arith), leb-true x room h);
    }
    go false h = λ ok. omega (arith, ok.within (length off - 1) (omega arith), leb-false x room h)

-- two offsets in order and within the list, as the code has them
pub record CutWithin (room from to : ℕ) : Type 0 where
  pub order : from ≤ to
  pub within : to ≤ room

pub between : (off : List ℕ) (room s from to : ℕ) → Cells off room → s + 1 < length off → from ≡ get_or off s 0 → to ≡ get_or off (s + 1) 0 → CutWithin room from to
between off room s from to g l p q = record { order = rw (p, q) (g.rising s l); within = rw q (g.within (s + 1) l) }
