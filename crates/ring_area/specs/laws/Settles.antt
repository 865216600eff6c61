-- A sum in limbs that were all 0, and its carries settled.
use Rattle.std.specs.Prelude.{◌≡◌, refl, List, ℕ, zero, suc, ◌+◌, ◌*◌, ◌^◌, ◌≤◌, ◌<◌, length, get_or, replicate}
use Rattle.std.proofs.Common.{sym, ap, ◌∙◌, subst, ⊎_elim, le_trans, le_of_eq, lt_of_le_of_lt, lt_of_lt_of_le, add-zero, zero-mul, suc-mul, arith, lit≤}
use Rattle.std.proofs.lemmas.List.{length-replicate, get_or-replicate}
use Rattle.std.proofs.Math.ListN.{get_or-eq_default}
use Rattle.std.proofs.Math.Pow.{pow-lt}
use Rattle.std.proofs.Math.Seq.{take-length}
use Rattle.base.specs.common.laws.Decide.{lt_or_ge}
use Rattle.ring_area.specs.long.Amount.{amount, weight, WholeLimbs}
use Rattle.ring_area.specs.long.Steps.{PutIn, Carried}
use Rattle.ring_area.specs.long.laws.Amounts.{weight_is, amount_none, amount_below}
use Rattle.ring_area.specs.Steps.{Open, SumFits}

-- ---- limbs that are all 0
abbrev pub zeros : ℕ → List ℕ
zeros n = replicate n 0

pub none : (n k : ℕ) → get_or (zeros n) k 0 ≡ 0
none n k = ⊎_elim (λ h. get_or-replicate {A = ℕ} n k 0 0 h) (λ h. get_or-eq_default (zeros n) 0 (le_trans (le_of_eq (length-replicate {A = ℕ} n 0)) h)) (lt_or_ge k n)

pub open_zeros : (n : ℕ) → n ≤ 2 ^ 24 → Open (replicate 94 0) (16 * n)
open_zeros n h = record { long = length-replicate {A = ℕ} 94 0; room = record { each = λ k. omega (arith, none 94 k) } }

pub total_is : {l : List ℕ} {x n : ℕ} → PutIn (replicate 94 0) l x n → amount l ≡ x
total_is {l} {x} a = a.total ∙ ap (λ (z : ℕ). z + x) (amount_none (replicate 94 0) (none 94)) ∙ plain x
  where
    plain : (x : ℕ) → 0 + x ≡ x
    plain x = omega arith

-- a sum of at most 2 ^ 2973
pub summed : {l : List ℕ} {x : ℕ} (n : ℕ) → n ≤ 2 ^ 24 → x ≤ 2 ^ 2973 → PutIn (replicate 94 0) l x (16 * n) → SumFits l
summed {l} {x} n h g a = record {
  long = a.long ∙ length-replicate {A = ℕ} 94 0;
  room = record { each = λ k. omega (arith, a.grown k, none 94 k) };
  fits = lt_of_le_of_lt (le_of_eq (total_is a)) (lt_of_le_of_lt g (pow-lt {i = 2973} {j = 3008} (lit≤ tt)));
}

-- ---- carries
whole_weight : weight 94 ≡ 2 ^ 3008
whole_weight = weight_is 94

pub not_out : (a b c w : ℕ) → a + c * w ≡ b → b < w → c ≡ 0
not_out a b zero w e h = refl
not_out a b (suc c) w e h = let m : suc c * w ≡ c * w + w = suc-mul c w in absurd (omega arith)

pub none_out : {b c : ℕ} (a w : ℕ) → c ≡ 0 → a + c * w ≡ b → a ≡ b
none_out a w z e = sym (add-zero a) ∙ ap (λ (x : ℕ). a + x) (sym (ap (λ (k : ℕ). k * w) z ∙ zero-mul w)) ∙ e

pub carried_same : {l l₁ : List ℕ} {c : ℕ} → SumFits l → Carried l l₁ c → amount l₁ ≡ amount l
carried_same {l} {l₁} {c} s h =
    let w : weight (length l) ≡ 2 ^ 3008 = ap weight s.long ∙ whole_weight in
    none_out (amount l₁) (weight (length l)) (not_out (amount l₁) (amount l) c (weight (length l)) h.total (lt_of_lt_of_le s.fits (le_of_eq (sym w)))) h.total

pub under_weight : (l : List ℕ) → WholeLimbs l → amount l < weight (length l)
under_weight l s = subst (λ (r : List ℕ). amount r < weight (length l)) (take-length l) (amount_below l (length l) s)
