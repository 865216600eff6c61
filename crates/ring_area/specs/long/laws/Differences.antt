-- A difference made from the lowest limb up: after i turns the lowest i limbs hold a less b, with r borrowed from the next.
use Rattle.std.specs.Prelude.{◌≡◌, refl, List, ℕ, suc, ◌+◌, ◌-◌, ◌*◌, ◌/◌, ◌%◌, ◌≤◌, ◌<◌, length, get_or, set, take}
use Rattle.std.proofs.Common.{sym, ap, ◌∙◌, subst, ⊎_elim, mul_assoc, add-mul, arith, add-one, lit<, length-set, take_all, get_or-set_same, get_or-set_other}
use Prim.{tt}
use Rattle.std.proofs.Math.ListN.{get_or-eq_default}
use Rattle.std.proofs.lemmas.List.{take-set-le}
use Rattle.base.specs.common.laws.Decide.{eq_or_ne, lt_or_ge}
use Rattle.ring_area.specs.long.Amount.{base, amount, weight, WholeLimbs}
use Rattle.ring_area.specs.long.Steps.{Differs}
use Rattle.ring_area.specs.long.laws.Amounts.{amount_take}

pub record Differing (a b before now : List ℕ) (r i : ℕ) : Type 0 where
  pub total : amount (take i now) + amount (take i b) ≡ amount (take i a) + r * weight i
  pub settled : (k : ℕ) → k < i → get_or now k 0 < base
  pub borrowed : r ≤ 1
  pub within : i ≤ length before
  pub long : length now ≡ length before

pub differing_start : (a b now : List ℕ) → Differing a b now now 0 0
differing_start a b now = record {
  total = refl;
  settled = λ k h. absurd (omega arith);
  borrowed = omega arith;
  within = omega arith;
  long = refl;
}

module _ {a b before now : List ℕ} {r i : ℕ} (h : Differing a b before now r i) (A : length a ≡ length before) (B : length b ≡ length before) where
  pub differing_step : WholeLimbs a → WholeLimbs b → i < length now
      → Differing a b before (set now i ((get_or a i 0 + base - get_or b i 0 - r) % base)) (1 - (get_or a i 0 + base - get_or b i 0 - r) / base) (i + 1)
  differing_step sa sb g =
      let v = x % base in
      let q = 1 - x / base in
      rw (add-one i)
      (record {
        total =
            ap (λ (z : ℕ). z + amount (take (suc i) b))
            (amount_take (set now i v) i (omega (arith, length-set now i v))
            ∙ ap (λ (l : List ℕ). amount l + get_or (set now i v) i 0 * weight i) (take-set-le i now i v (omega arith))
            ∙ ap (λ (z : ℕ). amount (take i now) + z * weight i) (get_or-set_same now i v 0 g))
            ∙ ap (λ (z : ℕ). amount (take i now) + v * weight i + z) (amount_take b i (omega (arith, h.long)))
            ∙ step (amount (take i now)) (amount (take i b)) (amount (take i a)) v (get_or b i 0) (get_or a i 0) q (weight i) h.total
            (limb (get_or a i 0) (get_or b i 0) r (sa.each i) (sb.each i) h.borrowed)
            ∙ ap (λ (z : ℕ). z + q * (base * weight i)) (sym (amount_take a i (omega (arith, h.long))));
        settled = λ k l. ⊎_elim
            (λ e. subst (λ (z : ℕ). get_or (set now i v) z 0 < base) (sym e) (subst (λ (z : ℕ). z < base) (sym (get_or-set_same now i v 0 g)) (small x)))
            (λ n. subst (λ (z : ℕ). z < base) (sym (get_or-set_other now i k v 0 n)) (h.settled k (below k l n)))
            (eq_or_ne k i);
        borrowed = one x;
        within = omega (arith, h.long);
        long = length-set now i v ∙ h.long;
      })
    where
      x : ℕ
      x = get_or a i 0 + base - get_or b i 0 - r

      small : (x : ℕ) → x % base < base
      small x = omega arith

      one : (x : ℕ) → 1 - x / base ≤ 1
      one x = omega arith

      below : (k : ℕ) → k < suc i → (k ≡ i → ⊥) → k < i
      below k l n = ⊎_elim (λ a. a) (λ a. absurd (n (omega arith))) (lt_or_ge k i)

      limb : (a b r : ℕ) → a < base → b < base → r ≤ 1 → r + (a + base - b - r) % base + b ≡ a + (1 - (a + base - b - r) / base) * base
      limb a b r la lb lr = omega arith

      step : (t u s v b a q w : ℕ) → t + u ≡ s + r * w → r + v + b ≡ a + q * base → t + v * w + (u + b * w) ≡ s + a * w + q * (base * w)
      step t u s v b a q w e f =
          let g : (r + v + b) * w ≡ (a + q * base) * w = ap (λ (z : ℕ). z * w) f in
          let j : (r + v + b) * w ≡ (r + v) * w + b * w = add-mul (r + v) b w in
          let k : (r + v) * w ≡ r * w + v * w = add-mul r v w in
          let m : (a + q * base) * w ≡ a * w + q * base * w = add-mul a (q * base) w in
          let n : q * base * w ≡ q * (base * w) = mul_assoc q base w in
          omega (arith, e, g, j, k, m, n)

  pub differing_end : length now ≤ i → Differs a b before now r
  differing_end g =
      let e : i ≡ length before = omega (arith, h.within, h.long) in
      record {
        total =
            ap (λ (l : List ℕ). amount l + amount b) (sym (take_all i now g))
            ∙ ap (λ (l : List ℕ). amount (take i now) + amount l) (sym (take_all i b (omega (arith, h.long))))
            ∙ h.total
            ∙ ap (λ (l : List ℕ). amount l + r * weight i) (take_all i a (omega (arith, h.long)))
            ∙ ap (λ (z : ℕ). amount a + r * weight z) e;
        settled = record {
          each = λ k. ⊎_elim (h.settled k) (λ l. subst (λ (z : ℕ). z < base) (sym (get_or-eq_default now 0 (omega (arith, h.long)))) (lit< tt)) (lt_or_ge k i);
        };
        long = h.long;
        borrowed = h.borrowed;
      }
