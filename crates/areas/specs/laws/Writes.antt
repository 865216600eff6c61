-- The slice written place by place.
use Rattle.std.specs.Prelude.{◌≡◌, refl, List, ℕ, zero, suc, ◌+◌, ◌-◌, ◌≤◌, ◌<◌, Float, length, get_or, set}
use Rattle.std.proofs.Math.Path.{sym, ap}
use Rattle.std.proofs.Common.{◌∙◌, subst, ⊎_elim, arith, length-set, ext_get_or, get_or-set_same, get_or-set_other, lt-ltb, le-ltb}
use Rattle.base.specs.common.Binary64 as B
use Rattle.base.specs.common.laws.Decide.{eq_or_ne, lt_or_ge}
use Rattle.ring_area.specs.Area.{ring_area}
use Rattle.walks.specs.shared.Cells.{cell_of}
use Rattle.areas.specs.Promise.{area_at, listed}

-- ---- a list by its numbers
listed_length : (f : ℕ → Float) (i n : ℕ) → length (listed f i n) ≡ n
unfolding listed
listed_length f i zero = refl
listed_length f i (suc n) = ap suc (listed_length f (suc i) n)

listed_at : (f : ℕ → Float) (i n k : ℕ) (z : Float) → k < n → get_or (listed f i n) k z ≡ f (i + k)
unfolding listed
listed_at f i zero k z h = absurd (omega arith)
listed_at f i (suc n) zero z h = ap f (plain i)
  where
    plain : (i : ℕ) → i ≡ i + 0
    plain i = omega arith
listed_at f i (suc n) (suc k) z h = listed_at f (suc i) n k z (omega arith) ∙ ap f (over i k)
  where
    over : (i k : ℕ) → suc i + k ≡ i + suc k
    over i k = omega arith

-- ---- the places below i are written
pub record AreasTo (f : ℕ → Float) (old now : List Float) (i : ℕ) : Type 0 where
  pub most : i ≤ length old
  pub long : length now ≡ length old
  pub each : (k : ℕ) → k < i → get_or now k B.zero ≡ f k

pub writing_start : (f : ℕ → Float) (old : List Float) → AreasTo f old old 0
writing_start f old = record { most = omega arith; long = refl; each = λ k h. absurd (omega arith) }

module _ {f : ℕ → Float} {old now : List Float} {i : ℕ} (w : AreasTo f old now i) where
  pub writing_step : {x : Float} → i < length now → x ≡ f i → AreasTo f old (set now i x) (i + 1)
  writing_step {x} h e = record {
    most = omega (arith, w.long);
    long = length-set now i x ∙ w.long;
    each = λ k g. ⊎_elim
        (λ q. subst (λ (j : ℕ). get_or (set now i x) j B.zero ≡ f j) (sym q) (get_or-set_same now i x B.zero h ∙ e))
        (λ n. get_or-set_other now i k x B.zero n ∙ w.each k (before k g n))
        (eq_or_ne k i);
  }
    where
      before : (k : ℕ) → k < i + 1 → (k ≡ i → ⊥) → k < i
      before k g n = ⊎_elim (λ a. a) (λ a. absurd (n (omega arith))) (lt_or_ge k i)

  pub writing_end : length now ≤ i → now ≡ listed f 0 (length old)
  writing_end h =
      ext_get_or B.zero now (listed f 0 (length old)) (w.long ∙ sym (listed_length f 0 (length old)))
      (λ k g. w.each k (omega arith) ∙ ap f (plain k) ∙ sym (listed_at f 0 (length old) k B.zero (omega (arith, w.long))))
    where
      plain : (k : ℕ) → k ≡ 0 + k
      plain k = omega arith

-- ---- one place
module _ (v : List Float) (off ix : List ℕ) (s n : ℕ) (e : n ≡ length off - 1) where
  pub past_last : n ≤ s → B.zero ≡ area_at v off ix s
  unfolding area_at
  past_last h = sym (rw (le-ltb s (length off - 1) (omega arith)) refl)

  pub of_cell : (cell : List ℕ) → s < n → cell ≡ cell_of off ix s → ring_area v cell ≡ area_at v off ix s
  unfolding area_at
  of_cell cell h q = ap (ring_area v) q ∙ sym (rw (lt-ltb s (length off - 1) (omega arith)) refl)
