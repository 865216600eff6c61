-- Carries settled from the lowest limb up: after i turns the lowest i limbs are settled, the others are as they were, and c goes on to the next.
use Rattle.std.specs.Prelude.{◌≡◌, refl, List, ℕ, suc, ◌+◌, ◌*◌, ◌/◌, ◌%◌, ◌^◌, ◌≤◌, ◌<◌, length, get_or, set, take}
use Rattle.std.proofs.Common.{sym, ap, ◌∙◌, subst, ⊎_elim, mul_assoc, add-mul, div-add-mod', arith, add-one, lit<, length-set, take_all, get_or-set_same, get_or-set_other}
use Prim.{tt}
use Rattle.std.proofs.Math.ListN.{get_or-eq_default}
use Rattle.std.proofs.lemmas.List.{take-set-le}
use Rattle.base.specs.common.laws.Decide.{eq_or_ne, lt_or_ge}
use Rattle.ring_area.specs.long.Amount.{base, amount, weight}
use Rattle.ring_area.specs.long.Steps.{PutRoom, Carried}
use Rattle.ring_area.specs.long.laws.Amounts.{amount_take}

pub record Carrying (before now : List ℕ) (c i : ℕ) : Type 0 where
  pub total : amount (take i now) + c * weight i ≡ amount (take i before)
  pub same : (k : ℕ) → i ≤ k → get_or now k 0 ≡ get_or before k 0
  pub settled : (k : ℕ) → k < i → get_or now k 0 < base
  pub small : c ≤ base
  pub within : i ≤ length before
  pub long : length now ≡ length before

pub carrying_start : (b : List ℕ) → Carrying b b 0 0
carrying_start b = record {
  total = refl;
  same = λ k h. refl;
  settled = λ k h. absurd (omega arith);
  small = omega arith;
  within = omega arith;
  long = refl;
}

module _ {b now : List ℕ} {c i : ℕ} (h : Carrying b now c i) where
  -- the sum that is made
  pub carrying_fits : PutRoom b 0 → get_or now i 0 + c < 2 ^ 64
  carrying_fits r = omega (arith, h.same i (omega arith), r.each i, h.small)

  pub carrying_step : i < length now → PutRoom b 0 → Carrying b (set now i ((get_or now i 0 + c) % base)) ((get_or now i 0 + c) / base) (i + 1)
  carrying_step g r =
      let v = x % base in
      let w = h.same i (omega arith) in
      rw (add-one i)
      (record {
        total =
            ap (λ (z : ℕ). z + x / base * (base * weight i))
            (amount_take (set now i v) i (omega (arith, length-set now i v))
            ∙ ap (λ (l : List ℕ). amount l + get_or (set now i v) i 0 * weight i) (take-set-le i now i v (omega arith))
            ∙ ap (λ (z : ℕ). amount (take i now) + z * weight i) (get_or-set_same now i v 0 g))
            ∙ moved (amount (take i now)) (get_or now i 0) c (weight i)
            ∙ ap (λ (z : ℕ). z + get_or now i 0 * weight i) h.total
            ∙ ap (λ (z : ℕ). amount (take i b) + z * weight i) w
            ∙ sym (amount_take b i (omega (arith, h.long)));
        same = λ k l. get_or-set_other now i k v 0 (past k l) ∙ h.same k (omega arith);
        settled = λ k l. ⊎_elim
            (λ e. subst (λ (z : ℕ). get_or (set now i v) z 0 < base) (sym e) (subst (λ (z : ℕ). z < base) (sym (get_or-set_same now i v 0 g)) (small x)))
            (λ n. subst (λ (z : ℕ). z < base) (sym (get_or-set_other now i k v 0 n)) (h.settled k (below k l n)))
            (eq_or_ne k i);
        small = carry_small x (carrying_fits r);
        within = omega (arith, h.long);
        long = length-set now i v ∙ h.long;
      })
    where
      x : ℕ
      x = get_or now i 0 + c

      past : (k : ℕ) → suc i ≤ k → k ≡ i → ⊥
      past k l e = omega arith

      below : (k : ℕ) → k < suc i → (k ≡ i → ⊥) → k < i
      below k l n = ⊎_elim (λ a. a) (λ a. absurd (n (omega arith))) (lt_or_ge k i)

      small : (x : ℕ) → x % base < base
      small x = omega arith

      carry_small : (x : ℕ) → x < 2 ^ 64 → x / base ≤ base
      carry_small x l = omega arith

      moved : (t n c w : ℕ) → t + (n + c) % base * w + (n + c) / base * (base * w) ≡ t + c * w + n * w
      moved t n c w =
          let e : (n + c) / base * base + (n + c) % base ≡ n + c = div-add-mod' (n + c) base in
          let f : ((n + c) / base * base + (n + c) % base) * w ≡ (n + c) / base * base * w + (n + c) % base * w = add-mul ((n + c) / base * base) ((n + c) % base) w in
          let g : (n + c) / base * base * w ≡ (n + c) / base * (base * w) = mul_assoc ((n + c) / base) base w in
          let j : ((n + c) / base * base + (n + c) % base) * w ≡ (n + c) * w = ap (λ (z : ℕ). z * w) e in
          let k : (n + c) * w ≡ n * w + c * w = add-mul n c w in
          omega (arith, f, g, j, k)

  pub carrying_end : length now ≤ i → Carried b now c
  carrying_end g =
      let e : i ≡ length b = omega (arith, h.within, h.long) in
      record {
        total =
            ap (λ (z : ℕ). amount now + c * weight z) (sym e)
            ∙ ap (λ (l : List ℕ). amount l + c * weight i) (sym (take_all i now g))
            ∙ h.total
            ∙ ap amount (take_all i b (omega (arith, h.long)));
        settled = record {
          each = λ k. ⊎_elim (h.settled k) (λ l. subst (λ (z : ℕ). z < base) (sym (get_or-eq_default now 0 (omega (arith, h.long)))) (lit< tt)) (lt_or_ge k i);
        };
        long = h.long;
      }
