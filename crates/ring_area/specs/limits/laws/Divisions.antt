-- A division from the highest limb down: the limbs from i on hold the quotient of what they were, with r left over for the next below.
use Rattle.std.specs.Prelude.{◌≡◌, refl, List, ℕ, suc, ◌+◌, ◌-◌, ◌*◌, ◌/◌, ◌%◌, ◌^◌, ◌≤◌, ◌<◌, length, get_or, set, drop}
use Rattle.std.proofs.Common.{sym, ap, ◌∙◌, subst, ⊎_elim, add-mul, mul_assoc, mul-add, mul_comm, div-add-mod', div-lt_iff_lt-mul, mod-lt, le_trans, le_of_eq, mul-le-mul_right, arith, length-set, drop_of_length-le, shr-shr, drop-cons, drop-set-lt, get_or-set_same, get_or-set_other}
use Rattle.std.proofs.Math.Nat.{div-eq_of_lt-le, one-le-pow}
use Rattle.std.proofs.Math.Pow.{pow-lt}
use Rattle.base.specs.common.laws.Decide.{eq_or_ne}
use Rattle.ring_area.specs.long.Amount.{base, amount, WholeLimbs}
use Rattle.ring_area.specs.limits.Long.{Divided}

pub record Dividing (before now : List ℕ) (d r i : ℕ) : Type 0 where
  pub total : amount (drop i now) * d + r ≡ amount (drop i before)
  pub same : (k : ℕ) → k < i → get_or now k 0 ≡ get_or before k 0
  pub settled : (k : ℕ) → get_or now k 0 < base
  pub rest : r < d
  pub within : i ≤ length before
  pub long : length now ≡ length before

pub dividing_start : (l : List ℕ) (d : ℕ) → 0 < d → WholeLimbs l → Dividing l l d 0 (length l)
dividing_start l d h w = record {
  total =
      ap (λ (x : List ℕ). amount x * d + 0) (drop_of_length-le l (le_of_eq refl))
      ∙ none d
      ∙ sym (ap amount (drop_of_length-le l (le_of_eq refl)));
  same = λ k g. refl;
  settled = w.each;
  rest = h;
  within = le_of_eq refl;
  long = refl;
}
  where
    none : (d : ℕ) → 0 * d + 0 ≡ 0
    none d = omega arith

-- the limbs from j on
limb_first : (l : List ℕ) (j : ℕ) → j < length l → amount (drop j l) ≡ get_or l j 0 + base * amount (drop (suc j) l)
limb_first l j h = ap amount (drop-cons l j 0 h)

-- a remainder below d and a limb
pub dividend_small : (d r w : ℕ) → r < d → w < base → r * base + w < d * base
dividend_small d r w h g =
    let e : suc r * base ≤ d * base = mul-le-mul_right base h in
    let f : suc r * base ≡ r * base + base = more r base in
    omega arith
  where
    more : (r b : ℕ) → suc r * b ≡ r * b + b
    more r b = omega arith

pub dividend_fits : (d r w : ℕ) → r < d → d < base → w < base → r * base + w < 2 ^ 64
dividend_fits d r w h l g =
    let a = dividend_small d r w h g in
    let b : d * base ≤ base * base = mul-le-mul_right base (le_trans (step d) l) in
    omega arith
  where
    step : (d : ℕ) → d ≤ suc d
    step d = omega arith

module _ {before now : List ℕ} {d r i : ℕ} (a : Dividing before now d r i) where
  pub dividing_step : 0 < d → 0 < i → Dividing before (set now (i - 1) ((r * base + get_or now (i - 1) 0) / d)) d ((r * base + get_or now (i - 1) 0) % d) (i - 1)
  dividing_step z h = go (i - 1) (one i h)
    where
      one : (i : ℕ) → 0 < i → i ≡ suc (i - 1)
      one i h = omega arith

      go : (j : ℕ) → i ≡ suc j → Dividing before (set now j ((r * base + get_or now j 0) / d)) d ((r * base + get_or now j 0) % d) j
      go j e = record {
        total =
            ap (λ (t : ℕ). t * d + x % d)
            (limb_first (set now j v) j in_new
            ∙ ap (λ (t : ℕ). t + base * amount (drop (suc j) (set now j v))) (get_or-set_same now j v 0 in_now)
            ∙ ap (λ (t : List ℕ). v + base * amount t) (drop-set-lt (suc j) now j v (omega arith)))
            ∙ moved (amount (drop (suc j) now)) r (get_or now j 0) (amount (drop (suc j) before)) (subst (λ (k : ℕ). amount (drop k now) * d + r ≡ amount (drop k before)) e a.total)
            ∙ ap (λ (t : ℕ). t + base * amount (drop (suc j) before)) (a.same j (omega arith))
            ∙ sym (limb_first before j (omega (arith, a.within)));
        same = λ k g. get_or-set_other now j k v 0 (other k g) ∙ a.same k (omega arith);
        settled = λ k. ⊎_elim
            (λ q. subst (λ (t : ℕ). get_or (set now j v) t 0 < base) (sym q) (subst (λ (t : ℕ). t < base) (sym (get_or-set_same now j v 0 in_now)) ((div-lt_iff_lt-mul z).1 (small_enough))))
            (λ q. subst (λ (t : ℕ). t < base) (sym (get_or-set_other now j k v 0 q)) (a.settled k))
            (eq_or_ne k j);
        rest = mod-lt x z;
        within = omega (arith, a.within);
        long = length-set now j v ∙ a.long;
      }
        where
          x : ℕ
          x = r * base + get_or now j 0

          v : ℕ
          v = x / d

          in_now : j < length now
          in_now = omega (arith, a.within, a.long)

          in_new : j < length (set now j v)
          in_new = omega (arith, length-set now j v, in_now)

          other : (k : ℕ) → k < j → k ≡ j → ⊥
          other k g q = omega arith

          small_enough : x < base * d
          small_enough = subst (λ (t : ℕ). x < t) (mul_comm d base) (dividend_small d r (get_or now j 0) a.rest (a.settled j))

          moved : (q r w t : ℕ) → q * d + r ≡ t → ((r * base + w) / d + base * q) * d + (r * base + w) % d ≡ w + base * t
          moved q r w t e =
              let y = r * base + w in
              let f : (y / d + base * q) * d ≡ y / d * d + base * q * d = add-mul (y / d) (base * q) d in
              let g : base * q * d ≡ base * (q * d) = mul_assoc base q d in
              let k : y / d * d + y % d ≡ y = div-add-mod' y d in
              let m : base * (q * d + r) ≡ base * (q * d) + base * r = mul-add base (q * d) r in
              let n : base * (q * d + r) ≡ base * t = ap (λ (s : ℕ). base * s) e in
              let o : base * r ≡ r * base = mul_comm base r in
              omega arith

  pub dividing_end : i ≡ 0 → Divided before now d
  dividing_end z =
      let t : amount now * d + r ≡ amount before = subst (λ (k : ℕ). amount (drop k now) * d + r ≡ amount (drop k before)) z a.total in
      record {
        value = sym (quotient (amount now) d (amount before) r t a.rest);
        settled = record { each = a.settled };
        long = a.long;
      }
    where
      quotient : (q d n r : ℕ) → q * d + r ≡ n → r < d → n / d ≡ q
      quotient q d n r e h = div-eq_of_lt-le d (omega arith) (let f : (q + 1) * d ≡ q * d + d = more q d in omega arith)
        where
          more : (q d : ℕ) → (q + 1) * d ≡ q * d + d
          more q d = add-mul q 1 d ∙ ap (λ (x : ℕ). q * d + x) (plain d)
            where
              plain : (d : ℕ) → 1 * d ≡ d
              plain d = omega arith

-- by 2 ^ a, then by 2 ^ b
pub divided_twice : {l m n : List ℕ} (a b c : ℕ) → a + b ≡ c → Divided l m (2 ^ a) → Divided m n (2 ^ b) → Divided l n (2 ^ c)
divided_twice {l} a b c e x y = record {
  value = y.value ∙ ap (λ (t : ℕ). t / 2 ^ b) x.value ∙ shr-shr (amount l) a b ∙ ap (λ (t : ℕ). amount l / 2 ^ t) e;
  settled = y.settled;
  long = y.long ∙ x.long;
}

pub power_good : (p b : ℕ) → p ≡ 2 ^ b → b < 32 → (0 < p) × (p < base)
power_good p b e h = (subst (λ (x : ℕ). 0 < x) (sym e) (one-le-pow b 2 (omega arith)), subst (λ (x : ℕ). x < base) (sym e) (pow-lt h))

-- half of the power, then the rest
pub scaled : {l m n : List ℕ} (bits p q : ℕ) → p ≡ 2 ^ (bits / 2) → q ≡ 2 ^ (bits - bits / 2) → Divided l m p → Divided m n q → Divided l n (2 ^ bits)
scaled {l} {m} {n} bits p q e f x y =
    divided_twice (bits / 2) (bits - bits / 2) bits (whole bits) (subst (Divided l m) e x) (subst (Divided m n) f y)
  where
    whole : (b : ℕ) → b / 2 + (b - b / 2) ≡ b
    whole b = omega arith
