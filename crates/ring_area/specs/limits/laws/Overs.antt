-- What one long number is over another, by what was borrowed.
use Rattle.std.specs.Prelude.{◌≡◌, refl, not, List, ℕ, zero, suc, ◌+◌, ◌-◌, ◌*◌, ◌≤◌, ◌<◌, ltb, eqb, length, get_or, replicate}
use Rattle.std.proofs.Common.{sym, ap, ◌∙◌, subst, ⊎_elim, le_trans, le_of_eq, zero-mul, one-mul, add-zero, arith, lit<, lt-ltb, le-ltb, ne_eqb}
use Rattle.std.proofs.lemmas.List.{length-replicate, get_or-replicate}
use Rattle.std.proofs.Math.ListN.{get_or-eq_default}
use Rattle.base.specs.common.laws.Decide.{lt_or_ge}
use Rattle.ring_area.specs.long.Amount.{base, amount, weight}
use Rattle.ring_area.specs.long.Steps.{Carried, Differs}
use Rattle.ring_area.specs.long.laws.Amounts.{amount_none}
use Rattle.ring_area.specs.Steps.{SumFits}
use Rattle.ring_area.specs.laws.Settles.{carried_same, under_weight}
use Rattle.ring_area.specs.limits.Long.{LongOf}

abbrev zeros : List ℕ
zeros = replicate 94 0

pub zeros_at : (k : ℕ) → get_or zeros k 0 ≡ 0
zeros_at k = ⊎_elim (λ h. get_or-replicate {A = ℕ} 94 k 0 0 h) (λ h. get_or-eq_default zeros 0 (le_trans (le_of_eq (length-replicate {A = ℕ} 94 0)) h)) (lt_or_ge k 94)

pub zeros_long : LongOf (replicate 94 0) 0
zeros_long = record {
  value = amount_none zeros zeros_at;
  settled = record { each = λ k. subst (λ (x : ℕ). x < base) (sym (zeros_at k)) (lit< tt) };
  long = length-replicate {A = ℕ} 94 0;
}

-- nothing borrowed: a is no less than b; else it is less
kept : (o a b r w : ℕ) → o + b ≡ a + r * w → r ≡ 0 → (b ≤ a) × (o ≡ a - b)
kept o a b r w e z =
    let f : o + b ≡ a = e ∙ ap (λ (k : ℕ). a + k) (ap (λ (k : ℕ). k * w) z ∙ zero-mul w) ∙ add-zero a in
    (omega arith, omega arith)

borrowing : (o a b r w : ℕ) → o + b ≡ a + r * w → (r ≡ 0 → ⊥) → r ≤ 1 → o < w → a < b
borrowing o a b r w e n h l =
    let one : r ≡ 1 = ⊎_elim (λ x. absurd (n (omega arith))) (λ x. omega arith) (lt_or_ge r 1) in
    let f : o + b ≡ a + w = e ∙ ap (λ (k : ℕ). a + k) (ap (λ (k : ℕ). k * w) one ∙ one-mul w) in
    omega arith

module _ {a b before out : List ℕ} {r : ℕ} (d : Differs a b before out r) where
  out_small : amount out < weight (length before)
  out_small = subst (λ (k : ℕ). amount out < weight k) d.long (under_weight out d.settled)

  pub over_kept : length before ≡ 94 → r ≡ 0 → LongOf out (amount a - amount b)
  over_kept l z = record { value = (kept (amount out) (amount a) (amount b) r (weight (length before)) d.total z).1; settled = d.settled; long = d.long ∙ l }

  pub over_none : (r ≡ 0 → ⊥) → LongOf (replicate 94 0) (amount a - amount b)
  over_none n =
      let h = borrowing (amount out) (amount a) (amount b) r (weight (length before)) d.total n d.borrowed out_small in
      subst (LongOf (replicate 94 0)) (sym (nothing (amount a) (amount b) h)) zeros_long
    where
      nothing : (a b : ℕ) → a < b → a - b ≡ 0
      nothing a b h = omega arith

  pub less_is : not (eqb r 0) ≡ ltb (amount a) (amount b)
  less_is = go r refl
    where
      go : (q : ℕ) → r ≡ q → not (eqb q 0) ≡ ltb (amount a) (amount b)
      go zero e = sym (le-ltb (amount a) (amount b) (kept (amount out) (amount a) (amount b) r (weight (length before)) d.total e).0)
      go (suc q) e =
          ap not (ne_eqb (suc q) 0 (no q))
          ∙ sym (lt-ltb (amount a) (amount b) (borrowing (amount out) (amount a) (amount b) r (weight (length before)) d.total (λ z. no q (sym e ∙ z)) d.borrowed out_small))
        where
          no : (q : ℕ) → suc q ≡ 0 → ⊥
          no q z = omega arith

-- ---- sums whose carries are settled
pub carried_long : {l m : List ℕ} {c : ℕ} → SumFits l → Carried l m c → LongOf m (amount l)
carried_long s h = record { value = carried_same s h; settled = h.settled; long = h.long ∙ s.long }

-- a long number is what it amounts to
pub long_self : {l : List ℕ} {n : ℕ} → LongOf l n → LongOf l (amount l)
long_self a = record { value = refl; settled = a.settled; long = a.long }

pub carried_over : {a a₁ b b₁ r : List ℕ} {c d : ℕ} → SumFits a → SumFits b → Carried a a₁ c → Carried b b₁ d → LongOf r (amount a₁ - amount b₁) → LongOf r (amount a - amount b)
carried_over {a} {a₁} {b} {b₁} {r} s t x y h = record {
  value = h.value ∙ ap (λ (k : ℕ). k - amount b₁) (carried_same s x) ∙ ap (λ (k : ℕ). amount a - k) (carried_same t y);
  settled = h.settled;
  long = h.long;
}
