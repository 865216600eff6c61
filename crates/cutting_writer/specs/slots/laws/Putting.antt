-- What is put into a slot is read there again (`put_made`), and a ring in slots grows by what is put behind it (`slots_put`).
use Rattle.std.specs.Prelude.{◌≡◌, List, [], ◌∷◌, ◌++◌, ℕ, zero, suc, ◌+◌, ◌≤◌, ◌<◌, length, set}
use Rattle.std.proofs.Math.Path.{refl, sym}
use Rattle.std.proofs.Common.{ap, ◌∙◌, add-zero, arith, get_or-set_same, get_or-set_other}
use Rattle.cutting.specs.cuts.Rings.{At}
use Rattle.cutting.specs.declared.corner.Corner.{Corner}
use Rattle.cutting.specs.declared.corner.Carrier.{Carrier}
use Rattle.cutting_writer.specs.declared.stream.Spot.{Spot}
use Rattle.cutting_writer.specs.stream.Stages.{Ring, at_of}
use Rattle.cutting_writer.specs.slots.Slots.{no_spot, spot_in, PutSlot, ring_in}

pub put_made : (f : List Spot) (k : ℕ) (v : Spot) → k < length f → PutSlot f k (at_of v) (set f k v)
put_made f k v low = record { there = ap at_of (get_or-set_same f k v no_spot low); others = λ j n. ap at_of (get_or-set_other f k j v no_spot n) }

pub slots_snoc : (f : List Spot) (a n : ℕ) → ring_in f a (suc n) ≡ ring_in f a n ++ (spot_in f (a + n) ∷ [])
slots_snoc f a zero = ap (λ (i : ℕ). spot_in f i ∷ []) (sym (add-zero a))
slots_snoc f a (suc n) =
    ap (λ (l : Ring). spot_in f a ∷ l)
    (slots_snoc f (suc a) n ∙ ap (λ (i : ℕ). ring_in f (suc a) n ++ (spot_in f i ∷ [])) (let q : suc a + n ≡ a + suc n = omega arith in q))

-- slots that are as they were have the same ring
pub slots_same : (f f₁ : List Spot) (a n : ℕ) → ((j : ℕ) → a ≤ j → j < a + n → spot_in f₁ j ≡ spot_in f j) → ring_in f₁ a n ≡ ring_in f a n
slots_same f f₁ a zero h = refl
slots_same f f₁ a (suc n) h =
    let rest = slots_same f f₁ (suc a) n (λ j l u. h j (omega arith) (omega arith)) in
    let one = h a (omega arith) (omega arith) in
    λ i. one i ∷ rest i

-- what is put behind a ring goes on with it
pub slots_put : {f f₁ : List Spot} {v : At Corner Carrier} (a n : ℕ) → PutSlot f (a + n) v f₁ → ring_in f₁ a (suc n) ≡ ring_in f a n ++ (v ∷ [])
slots_put {f} {f₁} {v} a n p =
    let old : ring_in f₁ a n ≡ ring_in f a n = slots_same f f₁ a n (λ j l u. p.others j (λ e. omega arith)) in
    let new : spot_in f₁ (a + n) ≡ v = p.there in
    slots_snoc f₁ a n ∙ (λ i. old i ++ (new i ∷ []))
