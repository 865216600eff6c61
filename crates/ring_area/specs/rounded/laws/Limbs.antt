-- A long number's size and its leading bits, from its limbs.
use Rattle.std.specs.Prelude.{◌≡◌, refl, Bool, true, false, ◌&&◌, List, [], ◌∷◌, ℕ, zero, suc, ◌+◌, ◌-◌, ◌*◌, ◌/◌, ◌%◌, ◌^◌, ◌≤◌, ◌<◌, eqb, length, get_or, take, drop}
use Rattle.std.proofs.Common.{sym, ap, ◌∙◌, subst, ⊎_elim, le_trans, le_of_eq, lt_of_lt_of_le, lt_of_le_of_lt, add_comm, add-zero, mul_comm, mul_assoc, suc-mul, zero-mul, mul-le-mul_right, one-mul, mul-div_cancel, arith, lit≤, length-take, pow-add, pow_pos, pow_mono, shr_lt, shr-shr, drop-drop, get_or-drop, get_or-take, eqb-true}
use Rattle.std.proofs.Math.Nat.{add-mul-div_left, add-mul-mod_self_left}
use Rattle.std.proofs.Math.Arith.{digits_div, digits_mod}
use Rattle.std.specs.Int.Count.{count_leading_zeros}
use Rattle.std.proofs.lemmas.Nat.{leading_top, mod-pow-add}
use Rattle.std.specs.Float.Ieee.{size}
use Rattle.std.proofs.Math.ListN.{get_or-eq_default}
use Rattle.std.proofs.Math.Seq.{take-length}
use Rattle.std.proofs.lemmas.Bool.{eqb-false}
use Rattle.base.specs.common.Decide.{Says}
use Rattle.base.specs.common.laws.Decide.{lt_or_ge, eq_or_ne}
use Rattle.ring_area.specs.long.Amount.{base, amount, weight, lifted, WholeLimbs}
use Rattle.ring_area.specs.long.laws.Amounts.{weight_is, amount_take, amount_split, amount_none, amount_below, amount_first}
use Rattle.ring_area.specs.long.laws.Lifted.{lifted_long, lifted_below, lifted_at}
use Rattle.ring_area.specs.rounded.Rounded.{UpTo, LeadingBits}
use Rattle.ring_area.specs.rounded.laws.Sizes.{size_is, size_zero}

-- ---- looked at from the top: the limbs from n on are 0
pub record Clear (l : List ℕ) (n : ℕ) : Type 0 where
  pub within : n ≤ length l
  pub none : (k : ℕ) → n ≤ k → get_or l k 0 ≡ 0

pub clear_start : (l : List ℕ) → Clear l (length l)
clear_start l = record { within = omega arith; none = λ k h. get_or-eq_default l 0 h }

module _ {l : List ℕ} {n : ℕ} (c : Clear l n) where
  pub clear_step : 0 < n → get_or l (n - 1) 0 ≡ 0 → Clear l (n - 1)
  clear_step h e = record {
    within = omega (arith, c.within);
    none = λ k g. ⊎_elim (λ m. rw m e) (λ m. c.none k (past k g m)) (eq_or_ne k (n - 1));
  }
    where
      past : (k : ℕ) → n - 1 ≤ k → (k ≡ n - 1 → ⊥) → n ≤ k
      past k g m = ⊎_elim (λ a. absurd (m (omega arith))) (λ a. a) (lt_or_ge k n)

  -- the same of the number that has limb 0 of these at limb j
  lifted_none : (j k : ℕ) → j + n ≤ k → get_or (lifted j l) k 0 ≡ 0
  lifted_none j k h = lifted_at j l k (omega arith) ∙ c.none (k - j) (omega arith)

  pub clear_found : (j : ℕ) → 0 < n → (get_or l (n - 1) 0 ≡ 0 → ⊥) → UpTo (lifted j l) (j + n)
  clear_found j h e = record {
    within = omega (arith, c.within, lifted_long j l);
    none = lifted_none j;
    some = λ g. subst (λ (x : ℕ). 0 < x) (sym (lifted_at j l (j + n - 1) (omega arith) ∙ ap (λ (k : ℕ). get_or l k 0) (last j n h))) (above (get_or l (n - 1) 0) e);
  }
    where
      last : (j n : ℕ) → 0 < n → j + n - 1 - j ≡ n - 1
      last j n h = omega arith

      above : (x : ℕ) → (x ≡ 0 → ⊥) → 0 < x
      above x e = ⊎_elim (λ a. absurd (e (omega arith))) (λ a. a) (lt_or_ge x 1)

  pub clear_end : (j : ℕ) → n ≤ 0 → UpTo (lifted j l) 0
  clear_end j h = record {
    within = omega arith;
    none = λ k g. ⊎_elim (lifted_below j l k) (λ m. lifted_none j k (omega arith)) (lt_or_ge k j);
    some = λ g. absurd (omega arith);
  }

-- ---- looked at from below: the limbs before i are 0
zero_limbs : (l : List ℕ) → amount l ≡ 0 → (k : ℕ) → get_or l k 0 ≡ 0
zero_limbs [] h k = refl
zero_limbs (w ∷ r) h zero = omega arith
zero_limbs (w ∷ r) h (suc k) = zero_limbs r (omega arith) k

pub record ClearTo (l : List ℕ) (i : ℕ) : Type 0 where
  pub none : (k : ℕ) → k < i → get_or l k 0 ≡ 0

pub clear_to_start : (j : ℕ) (l : List ℕ) → ClearTo (lifted j l) j
clear_to_start j l = record { none = lifted_below j l }

module _ {l : List ℕ} {i : ℕ} (j : ℕ) (c : ClearTo l i) where
  -- x is limb i
  module _ {x : ℕ} (e : x ≡ get_or l i 0) (h : i < j) where
    pub clear_to_step : x ≡ 0 → ClearTo l (i + 1)
    clear_to_step z = record {
      none = λ k g. ⊎_elim (λ m. rw m (sym e ∙ z)) (λ m. c.none k (before k g m)) (eq_or_ne k i);
    }
      where
        before : (k : ℕ) → k < i + 1 → (k ≡ i → ⊥) → k < i
        before k g m = ⊎_elim (λ a. a) (λ a. absurd (m (omega arith))) (lt_or_ge k i)

    pub clear_to_not : (x ≡ 0 → ⊥) → amount (take j l) ≡ 0 → ⊥
    clear_to_not n z = n (e ∙ sym (get_or-take j l i 0 h) ∙ zero_limbs (take j l) z i)

  pub clear_to_end : j ≤ i → amount (take j l) ≡ 0
  clear_to_end h =
      amount_none (take j l)
      (λ k. ⊎_elim
      (λ g. get_or-take j l k 0 g ∙ c.none k (omega arith))
      (λ g. get_or-eq_default (take j l) 0 (omega (arith, length-take j l)))
      (lt_or_ge k j))

-- ---- the size
pub none_used : (l : List ℕ) → UpTo l 0 → size (amount l) ≡ 0
none_used l u = ap size (amount_none l (λ k. u.none k (omega arith))) ∙ size_zero

module _ (l : List ℕ) (m : ℕ) (u : UpTo l (suc m)) (s : WholeLimbs l) where
  some : 0 < get_or l m 0
  some = subst (λ (k : ℕ). 0 < get_or l k 0) (back m) (u.some (omega arith))
    where
      back : (m : ℕ) → suc m - 1 ≡ m
      back m = omega arith

  whole : amount l ≡ amount (take m l) + get_or l m 0 * weight m
  whole =
      amount_split l (suc m)
      ∙ ap (λ (a : ℕ). amount (take (suc m) l) + weight (suc m) * a) (amount_none (drop (suc m) l) (λ k. get_or-drop (suc m) l k 0 ∙ u.none (suc m + k) (omega arith)))
      ∙ off (amount (take (suc m) l)) (weight (suc m))
      ∙ amount_take l m (omega (arith, u.within))
    where
      off : (a w : ℕ) → a + w * 0 ≡ a
      off a w = omega arith

  module _ (j : ℕ) (low : 2 ^ j ≤ get_or l m 0) (high : get_or l m 0 < 2 ^ suc j) where
    at : (i : ℕ) → 2 ^ (i + 32 * m) ≡ 2 ^ i * weight m
    at i = pow-add 2 i (32 * m) ∙ ap (λ (w : ℕ). 2 ^ i * w) (sym (weight_is m))

    pub used_size : size (amount l) ≡ suc (j + 32 * m)
    used_size =
        size_is (amount l) (j + 32 * m)
        (le_trans (le_of_eq (at j)) (le_trans (mul-le-mul_right (weight m) low) (omega (arith, whole))))
        (lt_of_lt_of_le (one_more (amount l) (amount (take m l)) (get_or l m 0) (weight m) whole (amount_below l m s))
        (le_trans (mul-le-mul_right (weight m) high) (le_of_eq (sym (at (suc j)) ∙ ap (λ (k : ℕ). 2 ^ k) (over j (32 * m))))))
      where
        over : (j k : ℕ) → suc j + k ≡ suc (j + k)
        over j k = omega arith

        one_more : (a t x w : ℕ) → a ≡ t + x * w → t < w → a < suc x * w
        one_more a t x w e h =
            let f : suc x * w ≡ x * w + w = suc-mul x w in
            omega arith

-- 64 less the leading zeros of the highest limb
pub bits_used : (l : List ℕ) (n y : ℕ) → UpTo l n → WholeLimbs l → 0 < n → y ≡ get_or l (n - 1) 0 → 32 * n + 32 - count_leading_zeros 64 y ≡ size (amount l)
bits_used l zero y u s h e = absurd (omega arith)
bits_used l (suc m) y u s h e =
    let f : y ≡ get_or l m 0 = e ∙ ap (λ (k : ℕ). get_or l k 0) (back m) in
    let top = leading_top 64 (get_or l m 0) (some l m u s) (lt_of_lt_of_le (s.each m) (lit≤ tt)) in
    ap (λ (z : ℕ). 32 * suc m + 32 - count_leading_zeros 64 z) f
    ∙ count (count_leading_zeros 64 (get_or l m 0)) m top.0 top.1
    ∙ sym (used_size l m u s top.0 top.2 top.3)
  where
    back : (m : ℕ) → suc m - 1 ≡ m
    back m = omega arith

    count : (z m j : ℕ) → z + suc j ≡ 64 → 32 * suc m + 32 - z ≡ suc (j + 32 * m)
    count z m j e = omega arith

-- ---- the leading bits: j and b are t cut by 32, C is 2 ^ (32 - b)
module _ (l : List ℕ) (s : WholeLimbs l) (j b : ℕ) where
  -- the limbs from j on, and what is below
  parts : amount l ≡ amount (drop j l) * 2 ^ (32 * j) + amount (take j l)
  parts =
      amount_split l j
      ∙ add_comm (amount (take j l)) (weight j * amount (drop j l))
      ∙ ap (λ (x : ℕ). x + amount (take j l)) (mul_comm (weight j) (amount (drop j l)) ∙ ap (λ (w : ℕ). amount (drop j l) * w) (weight_is j))

  below : amount (take j l) < 2 ^ (32 * j)
  below = lt_of_lt_of_le (amount_below l j s) (le_of_eq (weight_is j))

  upper : amount l / 2 ^ (32 * j) ≡ amount (drop j l)
  upper = ap (λ (x : ℕ). x / 2 ^ (32 * j)) parts ∙ digits_div (amount (drop j l)) below

  pub cut_whole : amount l / 2 ^ (b + 32 * j) ≡ amount (drop j l) / 2 ^ b
  cut_whole = ap (λ (x : ℕ). amount l / 2 ^ x) (add_comm b (32 * j)) ∙ sym (shr-shr (amount l) (32 * j) b) ∙ ap (λ (x : ℕ). x / 2 ^ b) upper

  pub cut_rest : amount l % 2 ^ (b + 32 * j) ≡ amount (drop j l) % 2 ^ b * 2 ^ (32 * j) + amount (take j l)
  cut_rest =
      mod-pow-add (amount l) b (32 * j)
      ∙ ap (λ (x : ℕ). x % 2 ^ b * 2 ^ (32 * j) + amount l % 2 ^ (32 * j)) upper
      ∙ ap (λ (x : ℕ). amount (drop j l) % 2 ^ b * 2 ^ (32 * j) + x) (ap (λ (x : ℕ). x % 2 ^ (32 * j)) parts ∙ digits_mod (amount (drop j l)) below)

-- limb i and those above
step : (l : List ℕ) (i : ℕ) → amount (drop i l) ≡ get_or l i 0 + base * amount (drop (i + 1) l)
step l i =
    amount_first (drop i l)
    ∙ ap (λ (x : ℕ). x + base * amount (drop 1 (drop i l))) (get_or-drop i l 0 0 ∙ ap (λ (k : ℕ). get_or l k 0) (add-zero i))
    ∙ ap (λ (r : List ℕ). get_or l i 0 + base * amount r) (drop-drop 1 i l)

-- D is 2 ^ b, and D * C is 2 ^ 32
module _ (b : ℕ) (B : b < 32) where
  split : 2 ^ b * 2 ^ (32 - b) ≡ base
  split = sym (pow-add 2 b (32 - b)) ∙ ap (λ (x : ℕ). 2 ^ x) (back b B)
    where
      back : (b : ℕ) → b < 32 → b + (32 - b) ≡ 32
      back b h = omega arith

  quotient : base / 2 ^ b ≡ 2 ^ (32 - b)
  quotient = ap (λ (x : ℕ). x / 2 ^ b) (sym split ∙ mul_comm (2 ^ b) (2 ^ (32 - b))) ∙ mul-div_cancel (2 ^ (32 - b)) (pow_pos b)

  moved : (M : ℕ) → base * M ≡ 2 ^ b * (base / 2 ^ b * M)
  moved M = ap (λ (x : ℕ). x * M) (sym split ∙ ap (λ (x : ℕ). 2 ^ b * x) (sym quotient)) ∙ mul_assoc (2 ^ b) (base / 2 ^ b) M

  shifted : (w M : ℕ) → (w + base * M) / 2 ^ b ≡ w / 2 ^ b + base / 2 ^ b * M
  shifted w M = ap (λ (x : ℕ). (w + x) / 2 ^ b) (moved M) ∙ add-mul-div_left w (base / 2 ^ b * M) (pow_pos b)

  lowest : (w M : ℕ) → (w + base * M) % 2 ^ b ≡ w % 2 ^ b
  lowest w M = ap (λ (x : ℕ). (w + x) % 2 ^ b) (moved M) ∙ add-mul-mod_self_left w (2 ^ b) (base / 2 ^ b * M)

  at_least_one : 0 < base / 2 ^ b
  at_least_one = lt_of_lt_of_le (pow_pos (32 - b)) (le_of_eq (sym quotient))

  -- three limbs are enough
  module _ (l : List ℕ) (j : ℕ) (small : amount (drop j l) / 2 ^ b < 2 ^ 54) where
    tail : amount (drop (j + 1) l) ≡ get_or l (j + 1) 0 + base * get_or l (j + 2) 0 + base * base * amount (drop (j + 3) l)
    tail =
        let a = step l (j + 1) in
        let c = step l (j + 1 + 1) in
        let p : j + 1 + 1 ≡ j + 2 = omega arith in
        let q : j + 1 + 1 + 1 ≡ j + 3 = omega arith in
        let c' : amount (drop (j + 2) l) ≡ get_or l (j + 2) 0 + base * amount (drop (j + 3) l) = rw p at (rw q at c) in
        let a' : amount (drop (j + 1) l) ≡ get_or l (j + 1) 0 + base * amount (drop (j + 2) l) = rw p at a in
        omega (arith, a', c')

    bound : base / 2 ^ b * amount (drop (j + 1) l) < 2 ^ 54
    bound =
        le_less (amount (drop j l) / 2 ^ b) (get_or l j 0 / 2 ^ b) (base / 2 ^ b * amount (drop (j + 1) l))
        (ap (λ (x : ℕ). x / 2 ^ b) (step l j) ∙ shifted (get_or l j 0) (amount (drop (j + 1) l))) small
      where
        le_less : (h a c : ℕ) → h ≡ a + c → h < 2 ^ 54 → c < 2 ^ 54
        le_less h a c e l = omega arith

    tail_small : amount (drop (j + 1) l) < 2 ^ 54
    tail_small = lt_of_le_of_lt (le_trans (le_of_eq (sym (one-mul (amount (drop (j + 1) l))))) (mul-le-mul_right (amount (drop (j + 1) l)) at_least_one)) bound

    no_more : amount (drop (j + 3) l) ≡ 0
    no_more = go (amount (drop (j + 1) l)) (get_or l (j + 1) 0 + base * get_or l (j + 2) 0) (amount (drop (j + 3) l)) tail tail_small
      where
        go : (t a r : ℕ) → t ≡ a + base * base * r → t < 2 ^ 54 → r ≡ 0
        go t a r e h = omega arith

    pub two_above : amount (drop (j + 1) l) ≡ get_or l (j + 1) 0 + base * get_or l (j + 2) 0
    two_above = tail ∙ ap (λ (x : ℕ). get_or l (j + 1) 0 + base * get_or l (j + 2) 0 + base * base * x) no_more ∙ none (get_or l (j + 1) 0 + base * get_or l (j + 2) 0)
      where
        none : (a : ℕ) → a + base * base * 0 ≡ a
        none a = omega arith

    pub three_limbs : amount (drop j l) / 2 ^ b ≡ get_or l j 0 / 2 ^ b + (get_or l (j + 1) 0 + base * get_or l (j + 2) 0) * (base / 2 ^ b)
    three_limbs =
        ap (λ (x : ℕ). x / 2 ^ b) (step l j)
        ∙ shifted (get_or l j 0) (amount (drop (j + 1) l))
        ∙ ap (λ (x : ℕ). get_or l j 0 / 2 ^ b + x) (mul_comm (base / 2 ^ b) (amount (drop (j + 1) l)) ∙ ap (λ (x : ℕ). x * (base / 2 ^ b)) two_above)

    pub one_limb : amount (drop j l) % 2 ^ b ≡ get_or l j 0 % 2 ^ b
    one_limb = ap (λ (x : ℕ). x % 2 ^ b) (step l j) ∙ lowest (get_or l j 0) (amount (drop (j + 1) l))

-- ---- the answer, as the code has its parts
pub record LimbParts (l : List ℕ) (t low down above : ℕ) : Type 0 where
  pub first : low ≡ get_or l (t / 32) 0
  pub power : down ≡ 2 ^ (t % 32)
  pub next : above ≡ get_or l (t / 32 + 1) 0 + base * get_or l (t / 32 + 1 + 1) 0

module _ {l : List ℕ} {t low down above : ℕ} (s : WholeLimbs l) (h : amount l < 2 ^ (54 + t)) (p : LimbParts l t low down above) where
  cut : t ≡ t % 32 + 32 * (t / 32)
  cut = omega arith

  small : amount (drop (t / 32) l) / 2 ^ (t % 32) < 2 ^ 54
  small = subst (λ (x : ℕ). x < 2 ^ 54) (ap (λ (x : ℕ). amount l / 2 ^ x) cut ∙ cut_whole l s (t / 32) (t % 32)) (shr_lt 54 t h)

  pub leading_whole : low / down + above * (base / down) ≡ amount l / 2 ^ t
  leading_whole =
      rw (p.first, p.power, p.next ∙ ap (λ (k : ℕ). get_or l (t / 32 + 1) 0 + base * get_or l k 0) two)
      (sym (three_limbs (t % 32) (omega arith) l (t / 32) small)
      ∙ sym (cut_whole l s (t / 32) (t % 32))
      ∙ ap (λ (x : ℕ). amount l / 2 ^ x) (sym cut))
    where
      two : t / 32 + 1 + 1 ≡ t / 32 + 2
      two = omega arith

  pub leading_small : low / down + above * (base / down) < 2 ^ 54
  leading_small = lt_of_le_of_lt (le_of_eq leading_whole) (shr_lt 54 t h)

  remainder : amount l % 2 ^ t ≡ low % down * 2 ^ (32 * (t / 32)) + amount (take (t / 32) l)
  remainder =
      ap (λ (x : ℕ). amount l % 2 ^ x) cut
      ∙ cut_rest l s (t / 32) (t % 32)
      ∙ ap (λ (x : ℕ). x * 2 ^ (32 * (t / 32)) + amount (take (t / 32) l)) (one_limb (t % 32) (omega arith) l (t / 32) small)
      ∙ rw (p.first, p.power) refl

  exact_says : (e : Bool) → Says e (amount (take (t / 32) l) ≡ 0) → Says (e && eqb (low % down) 0) (amount l % 2 ^ t ≡ 0)
  exact_says e q = go e q (eqb (low % down) 0) refl
    where
      all : (x a r w : ℕ) → r ≡ x * w + a → x ≡ 0 → a ≡ 0 → r ≡ 0
      all x a r w f y z = let m : x * w ≡ 0 = ap (λ (k : ℕ). k * w) y ∙ zero-mul w in omega arith

      last : (x a r w : ℕ) → r ≡ x * w + a → r ≡ 0 → a ≡ 0
      last x a r w f y = omega arith

      first : (x a r w : ℕ) → r ≡ x * w + a → 0 < w → r ≡ 0 → x ≡ 0
      first zero a r w f g y = refl
      first (suc x) a r w f g y = let m : suc x * w ≡ x * w + w = suc-mul x w in absurd (omega arith)

      go : (e : Bool) → Says e (amount (take (t / 32) l) ≡ 0) → (d : Bool) → eqb (low % down) 0 ≡ d → Says (e && d) (amount l % 2 ^ t ≡ 0)
      go true q true f = all (low % down) (amount (take (t / 32) l)) (amount l % 2 ^ t) (2 ^ (32 * (t / 32))) remainder (eqb-true (low % down) 0 f) q
      go true q false f = λ z. eqb-false (low % down) 0 f (first (low % down) (amount (take (t / 32) l)) (amount l % 2 ^ t) (2 ^ (32 * (t / 32))) remainder (pow_pos (32 * (t / 32))) z)
      go false q d f = λ z. q (last (low % down) (amount (take (t / 32) l)) (amount l % 2 ^ t) (2 ^ (32 * (t / 32))) remainder z)

  pub leading_bits : (e : Bool) → Says e (amount (take (t / 32) l) ≡ 0) → LeadingBits (amount l) t (low / down + above * (base / down)) (e && eqb (low % down) 0)
  leading_bits e q = record { bits = leading_whole; rest = exact_says e q; small = leading_small }

-- a number of 94 limbs
pub amount_under : (l : List ℕ) → WholeLimbs l → length l ≤ 94 → amount l < 2 ^ 3008
amount_under l s h =
    lt_of_lt_of_le (subst (λ (r : List ℕ). amount r < weight (length l)) (take-length l) (amount_below l (length l) s))
    (le_trans (le_of_eq (weight_is (length l))) (pow_mono (most (length l) h)))
  where
    most : (n : ℕ) → n ≤ 94 → 32 * n ≤ 3008
    most n h = omega arith
