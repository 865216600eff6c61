-- What the scan of the hull asks for, and what its tests answer.
use Rattle.std.specs.Prelude.{◌≡◌, refl, Bool, true, false, not, ◌&&◌, List, ◌≢◌, ℕ, ◌+◌, ◌/◌, ◌≤◌, ◌<◌, ℤ, length, get_or}
use Rattle.std.proofs.Common.{sym, ◌∙◌, ⊎_elim, arith}
use Rattle.std.specs.Bool.{beq}
use Rattle.base.specs.common.Pick.{pick}
use Rattle.base.specs.common.Decide.{Says}
use Rattle.base.specs.common.laws.Decide.{eq_or_ne}
use Rattle.base.specs.numbers.Numbers.{EMPTY}
use Rattle.grid.specs.Plane.{WithinAt, SiteAt}
use Rattle.grid.specs.laws.Machine.{differ}

-- coordinates within the profile, and a hull that names sites
pub record HullSites (grid : List ℤ) (hull : List ℕ) : Type 0 where
  pub within : (s : ℕ) → s < length grid / 2 → WithinAt grid s
  pub small : length hull < EMPTY
  pub sites : (i : ℕ) → i < length hull → get_or hull i 0 < length grid / 2

pub site_at_lem : {grid : List ℤ} {hull : List ℕ} → HullSites grid hull → (i s : ℕ) → i < length hull → s ≡ get_or hull i 0 → SiteAt grid s
site_at_lem {grid} n i s l q =
    let h : s < length grid / 2 = rw q (n.sites i l) in
    record { there = omega arith; within = n.within s h }

-- "down before and up after"
pub says_start : (b c before after : Bool) → b ≡ before → c ≡ after → Says (not b && c) ((before ≡ false) × (after ≡ true))
says_start true c before after q r = λ h. differ (q ∙ h.0)
says_start false true before after q r = (sym q, sym r)
says_start false false before after q r = λ h. differ (sym (r ∙ h.1))

-- "in one run, not right"
alike : (b c : Bool) → not (beq b c) ≡ true → b ≡ c → ⊥
alike true true h q = differ (sym h)
alike true false h q = differ q
alike false true h q = differ (sym q)
alike false false h q = differ (sym h)

same : (b c : Bool) → not (beq b c) ≡ false → b ≡ c
same true true h = refl
same true false h = absurd (differ h)
same false true h = absurd (differ h)
same false false h = refl

pub says_between : (b c before after right : Bool) → b ≡ before → c ≡ after → not (beq b c) ≡ true → before ≡ after → right ≡ false
says_between b c before after right q r n e = absurd (alike b c n (q ∙ e ∙ sym r))

pub says_corner : (b c d before after right : Bool) → b ≡ before → c ≡ after → not (beq b c) ≡ false → d ≡ right → Says (not d) (before ≡ after → right ≡ false)
says_corner b c true before after right q r n z = λ h. differ (z ∙ h (sym q ∙ same b c n ∙ r))
says_corner b c false before after right q r n z = λ _. sym z

-- ---- places with P, counted up to the second
module _ (P : ℕ → Type 0) (i n : ℕ) where
  -- of those below i there is none, or one and perhaps more
  pub record RunBegun : Type 0 where
    pub none : n ≡ 0 → (j : ℕ) → j < i → P j → ⊥
    pub some : n ≢ 0 → (j : ℕ) × (j < i) × P j

module _ {P : ℕ → Type 0} {i n : ℕ} (g : RunBegun P i n) where
  pub begun_next : (b : Bool) → Says b (P i) → RunBegun P (i + 1) (pick b (λ _. n + 1) (λ _. n))
  begun_next true s = record { none = λ q. absurd (omega arith); some = λ _. (i, omega arith, s) }
  begun_next false s = record {
    none = λ q j l h. ⊎_elim (λ e. s (rw e at h)) (λ e. g.none q j (omega arith) h) (eq_or_ne j i);
    some = λ q. let w = g.some q in (w.0, omega (arith, w.1), w.2);
  }

  pub lone : (b : Bool) → Says b (P i) → pick b (λ _. n + 1) (λ _. n) ≤ 1 → P i → (j : ℕ) → j < i → P j → ⊥
  lone true s l h j k p = g.none (omega arith) j k p
  lone false s l h j k p = s h

  pub second : (b : Bool) → Says b (P i) → n ≤ 1 → 1 < pick b (λ _. n + 1) (λ _. n) → (P i → (j : ℕ) → j < i → P j → ⊥) → ⊥
  second true s l h alone = let w = g.some (λ q. omega arith) in alone s w.0 w.1 w.2
  second false s l h alone = omega arith
