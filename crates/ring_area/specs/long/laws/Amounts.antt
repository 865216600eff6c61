-- A long number by its limbs: one limb more, the lowest limbs alone, a weight as a power of two.
use Rattle.std.specs.Prelude.{◌≡◌, refl, List, [], ◌∷◌, ℕ, zero, suc, ◌+◌, ◌-◌, ◌*◌, ◌^◌, ◌≤◌, ◌<◌, length, get_or, set, take, drop}
use Rattle.std.proofs.Common.{sym, ap, ◌∙◌, subst, le_trans, le_of_eq, mul_left_comm, mul_assoc, mul-add, mul-one, one-mul, add_assoc, le_of_suc-le-suc, mul-le-mul_left, arith, pow-add, pow_pos, pow_mono}
use Rattle.ring_area.specs.long.Amount.{base, amount, weight, WholeLimbs}

pub weight_is : (k : ℕ) → weight k ≡ 2 ^ (32 * k)
weight_is zero = refl
weight_is (suc k) = ap (λ (x : ℕ). base * x) (weight_is k) ∙ sym (pow-add 2 32 (32 * k)) ∙ ap (λ (x : ℕ). 2 ^ x) (place k)
  where
    place : (k : ℕ) → 32 + 32 * k ≡ 32 * suc k
    place k = omega arith

pub weight_mono : {j k : ℕ} → j ≤ k → weight j ≤ weight k
weight_mono {j} {k} h = le_trans (le_of_eq (weight_is j)) (le_trans (pow_mono (omega arith)) (le_of_eq (sym (weight_is k))))

pub weight_pos : (k : ℕ) → 0 < weight k
weight_pos k = subst (λ (x : ℕ). 0 < x) (sym (weight_is k)) (pow_pos (32 * k))

pub weight_add : (j k : ℕ) → weight (j + k) ≡ weight j * weight k
weight_add zero k = ap weight (plain k) ∙ sym (one-mul (weight k))
  where
    plain : (k : ℕ) → 0 + k ≡ k
    plain k = omega arith
weight_add (suc j) k = ap weight (over j k) ∙ ap (λ (x : ℕ). base * x) (weight_add j k) ∙ sym (mul_assoc base (weight j) (weight k))
  where
    over : (j k : ℕ) → suc j + k ≡ suc (j + k)
    over j k = omega arith

pub weight_from : (j k : ℕ) → j ≤ k → weight j * weight (k - j) ≡ weight k
weight_from j k h = sym (weight_add j (k - j)) ∙ ap weight (back j k h)
  where
    back : (j k : ℕ) → j ≤ k → j + (k - j) ≡ k
    back j k h = omega arith

-- n more in limb k is n * 2 ^ (32 k) more in all
pub amount_more : (l : List ℕ) (k n : ℕ) → k < length l → amount (set l k (get_or l k 0 + n)) ≡ amount l + n * weight k
amount_more [] k n h = absurd (none k h)
  where
    none : (k : ℕ) → k < 0 → ⊥
    none k h = omega arith
amount_more (w ∷ r) zero n h = let e : n * 1 ≡ n = mul-one n in omega (arith, e)
amount_more (w ∷ r) (suc k) n h =
    ap (λ (x : ℕ). w + base * x) (amount_more r k n (le_of_suc-le-suc h)) ∙ spread w base (amount r) n (weight k)
  where
    spread : (w b a n v : ℕ) → w + b * (a + n * v) ≡ w + b * a + n * (b * v)
    spread w b a n v =
        ap (λ (x : ℕ). w + x) (mul-add b a (n * v) ∙ ap (λ (x : ℕ). b * a + x) (mul_left_comm b n v))
        ∙ sym (add_assoc w (b * a) (n * (b * v)))

-- the lowest i limbs and one more
pub amount_take : (l : List ℕ) (i : ℕ) → i < length l → amount (take (suc i) l) ≡ amount (take i l) + get_or l i 0 * weight i
amount_take [] i h = absurd (none i h)
  where
    none : (i : ℕ) → i < 0 → ⊥
    none i h = omega arith
amount_take (w ∷ r) zero h = let e : w * 1 ≡ w = mul-one w in omega (arith, e)
amount_take (w ∷ r) (suc i) h =
    ap (λ (x : ℕ). w + base * x) (amount_take r i (le_of_suc-le-suc h)) ∙ spread w base (amount (take i r)) (get_or r i 0) (weight i)
  where
    spread : (w b a n v : ℕ) → w + b * (a + n * v) ≡ w + b * a + n * (b * v)
    spread w b a n v =
        ap (λ (x : ℕ). w + x) (mul-add b a (n * v) ∙ ap (λ (x : ℕ). b * a + x) (mul_left_comm b n v))
        ∙ sym (add_assoc w (b * a) (n * (b * v)))

-- the lowest j limbs, and the others
pub amount_split : (l : List ℕ) (j : ℕ) → amount l ≡ amount (take j l) + weight j * amount (drop j l)
amount_split l zero = plain (amount l)
  where
    plain : (a : ℕ) → a ≡ 0 + 1 * a
    plain a = omega arith
amount_split [] (suc j) = sym (none (weight j))
  where
    none : (v : ℕ) → 0 + base * v * 0 ≡ 0
    none v = omega arith
amount_split (w ∷ r) (suc j) = ap (λ (x : ℕ). w + base * x) (amount_split r j) ∙ spread w base (amount (take j r)) (weight j) (amount (drop j r))
  where
    spread : (w b a v d : ℕ) → w + b * (a + v * d) ≡ w + b * a + b * v * d
    spread w b a v d =
        ap (λ (x : ℕ). w + x) (mul-add b a (v * d) ∙ ap (λ (x : ℕ). b * a + x) (sym (mul_assoc b v d)))
        ∙ sym (add_assoc w (b * a) (b * v * d))

-- limbs that are all 0
pub amount_none : (l : List ℕ) → ((k : ℕ) → get_or l k 0 ≡ 0) → amount l ≡ 0
amount_none [] h = refl
amount_none (w ∷ r) h = let e : amount r ≡ 0 = amount_none r (λ k. h (suc k)) in omega (arith, h 0)

-- the lowest j limbs stay below the weight of the next
pub amount_below : (l : List ℕ) (j : ℕ) → WholeLimbs l → amount (take j l) < weight j
amount_below l zero s = omega arith
amount_below [] (suc j) s = let h : amount (take j []) < weight j = amount_below [] j s in omega arith
amount_below (w ∷ r) (suc j) s =
    let h : amount (take j r) < weight j = amount_below r j (record { each = λ k. s.each (suc k) }) in
    let g : base * suc (amount (take j r)) ≤ base * weight j = mul-le-mul_left base h in
    omega (arith, s.each 0)

-- the lowest limb and the rest
pub amount_first : (l : List ℕ) → amount l ≡ get_or l 0 0 + base * amount (drop 1 l)
amount_first [] = refl
amount_first (w ∷ r) = refl
