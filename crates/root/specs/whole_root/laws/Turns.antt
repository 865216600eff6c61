-- The schoolbook root on plain numbers: a turn keeps `Schoolbook`, and after 53 turns the last comparison gives `NearWhole`.
use Rattle.std.specs.Prelude.{◌≡◌, Bool, not, ℕ, suc, ◌+◌, ◌-◌, ◌*◌, ◌/◌, ◌%◌, ◌^◌, ◌≤◌, ◌<◌, T, leb}
use Rattle.std.proofs.Math.Path.{refl}
use Rattle.std.proofs.Common.{sym, ap, ◌∙◌, pow-suc, mul_assoc, lt_of_lt_of_le, arith, leb→le, pow_mono}
use Rattle.std.proofs.Math.Bool.{true, false}
use Rattle.std.proofs.Math.Dec.{nleb→lt}
use Rattle.base.specs.common.Pick.{pick}
use Rattle.root.specs.whole_root.Near.{sq, NearWhole}
use Rattle.root.specs.whole_root.Turn.{brought_down, tried, taken, settled, next_page, after, Schoolbook, Narrow}
use Rattle.root.specs.whole_root.laws.Rounds.{near_down, near_up}
use Rattle.root.specs.declared.whole_root.Page.{Page}

-- the digit of a page with a pair brought down
module _ (p : Page) where
  pub settled_zero : p.left ≤ 2 * p.root → settled p ≡ p
  unfolding settled
  settled_zero h = go (leb (tried p) p.left) (leb→le (tried p) p.left)
    where
      go : (t : Bool) → (T t → tried p ≤ p.left) → pick t (λ _. taken p) (λ _. p) ≡ p
      go true y = let no : tried p ≤ p.left = y tt in absurd (omega arith)
      go false _ = refl

  pub settled_one : 2 * p.root < p.left → settled p ≡ taken p
  unfolding settled
  settled_one h = go (leb (tried p) p.left) (nleb→lt (tried p) p.left)
    where
      go : (t : Bool) → (T (not t) → p.left < tried p) → pick t (λ _. taken p) (λ _. p) ≡ taken p
      go true _ = refl
      go false n = let no : p.left < tried p = n tt in absurd (omega arith)

pub begins : (m : ℕ) → m < 2 ^ 54 → Schoolbook m 0 (after m 0)
unfolding after
begins m h = record { value = omega arith; room = h; less = omega arith; short = omega arith }

-- the pairs brought down, with the next one
same : (root left rest w : ℕ) → w ≡ (root * root + left) * 2 ^ 54 + rest → w * 4 ≡ (root * 2 * (root * 2) + (left * 4 + rest / 2 ^ 52)) * 2 ^ 54 + rest % 2 ^ 52 * 4
same root left rest w e = omega arith

more : (m i w : ℕ) → m * 4 ^ i ≡ w → m * 4 ^ suc i ≡ w * 4
more m i w e = ap (λ (x : ℕ). m * x) (pow-suc 4 i) ∙ sym (mul_assoc m (4 ^ i) 4) ∙ ap (λ (x : ℕ). x * 4) e

-- twice the root and one is what the square grows by
grows : (r l : ℕ) → 2 * r + 1 ≤ l → r * r + l ≡ (r + 1) * (r + 1) + (l - (2 * r + 1))
grows r l h = omega arith

module _ {m i : ℕ} {p : Page} (s : Schoolbook m i p) where
  brought : m * 4 ^ suc i ≡ (sq (p.root * 2) + (p.left * 4 + p.rest / 2 ^ 52)) * 2 ^ 54 + p.rest % 2 ^ 52 * 4
  brought = more m i _ s.value ∙ same p.root p.left p.rest _ refl

  digit_zero : p.left * 4 + p.rest / 2 ^ 52 < 2 * (p.root * 2) + 1 → Schoolbook m (suc i) (brought_down p)
  digit_zero h = record {
    value = brought;
    room = omega arith;
    less = omega arith;
    short = omega (arith, s.short);
  }

  digit_one : 2 * (p.root * 2) + 1 ≤ p.left * 4 + p.rest / 2 ^ 52 → Schoolbook m (suc i) (taken (brought_down p))
  digit_one h = record {
    value = brought ∙ ap (λ (x : ℕ). x * 2 ^ 54 + p.rest % 2 ^ 52 * 4) (grows (p.root * 2) (p.left * 4 + p.rest / 2 ^ 52) h);
    room = omega arith;
    less = omega (arith, s.less, s.room);
    short = omega (arith, s.short);
  }

  pub turns : Schoolbook m (suc i) (next_page p)
  unfolding settled
  turns = go (leb (tried b) b.left) (leb→le (tried b) b.left) (nleb→lt (tried b) b.left)
    where
      b : Page
      b = brought_down p

      go : (t : Bool) → (T t → tried b ≤ b.left) → (T (not t) → b.left < tried b)
          → Schoolbook m (suc i) (pick t (λ _. taken b) (λ _. b))
      go true y _ = digit_one (y tt)
      go false _ n = digit_zero (n tt)

  -- before the last turn and every one before it
  pub narrow : i < 53 → Narrow p
  narrow h =
      let most : i ≤ 52 = omega arith in
      record { root = lt_of_lt_of_le s.short (pow_mono most); left = s.less; rest = s.room }

-- after the last turn: all of m * 2 ^ 52 is brought down, and the rounding is down where what is left is at most the root, else up
module _ {m : ℕ} {p : Page} (s : Schoolbook m 53 p) where
  whole : sq p.root + p.left ≡ m * 2 ^ 52
  whole = go m (sq p.root + p.left) p.rest s.value s.room
    where
      go : (m v r : ℕ) → m * 4 ^ 53 ≡ v * 2 ^ 54 + r → r < 2 ^ 54 → v ≡ m * 2 ^ 52
      go m v r e h = omega arith

  pub stays : 2 ^ 52 ≤ m → p.left ≤ p.root → NearWhole (m * 2 ^ 52) p.root
  stays h l = near_down p.root (m * 2 ^ 52) (omega (arith, whole)) (omega (arith, whole)) (omega arith)

  pub goes_up_lem : p.root < p.left → NearWhole (m * 2 ^ 52) (p.root + 1)
  goes_up_lem l = near_up p.root (m * 2 ^ 52) (omega (arith, whole)) (omega (arith, whole, s.less))
