-- A number read digit by digit; and what the arguments ask for, case by case.
use Rattle.std.specs.Prelude.{◌≡◌, refl, Some, None, Bool, true, false, ◌&&◌, List, [], ◌∷◌, ◌≢◌, ℕ, zero, suc, ◌+◌, ◌-◌, ◌*◌, ◌≤◌, ◌<◌, leb, length, get_or, drop}
use Rattle.std.proofs.Common.{sym, ap, ◌∙◌, arith, add-one}
use borrow.Author.Tests.{eq-eqb, ne_eqb, lt-ltb, le-ltb, le-leb, lt-leb, leb-true}
use Rattle.base.specs.common.Pick.{pick}
use Rattle.printing.specs.parts.Text.{value}
use Rattle.reasons.specs.declared.Question.TheVariants.{Nothing}
use Rattle.why.specs.site_words.Words.{is_digit, all_digits, number_from, site_word, ask_one, ask_two, command_of}

-- ---- a digit

pub below_digit : (c : ℕ) → c < 48 → is_digit c ≡ false
below_digit c h = rw (lt-leb 48 c h)

pub digit_by : (c : ℕ) → 48 ≤ c → is_digit c ≡ leb c 57
digit_by c h = rw (le-leb 48 c h)

pub digit_least : (c : ℕ) → is_digit c ≡ true → 48 ≤ c
digit_least c h = go (leb 48 c) refl h
  where
    go : (x : Bool) → leb 48 c ≡ x → x && leb c 57 ≡ true → 48 ≤ c
    go true q r = leb-true 48 c q
    go false q r = let z : ◌≡◌ {A = ℕ} 0 1 = cc in absurd (omega arith)

pub digit_most : (c : ℕ) → is_digit c ≡ true → c ≤ 57
digit_most c h = go (leb 48 c) refl h
  where
    go : (x : Bool) → leb 48 c ≡ x → x && leb c 57 ≡ true → c ≤ 57
    go true q r = leb-true c 57 r
    go false q r = let z : ◌≡◌ {A = ℕ} 0 1 = cc in absurd (omega arith)

-- ---- a number

value_least : (v : ℕ) (s : List ℕ) → v ≤ value v s
value_least v [] = omega arith
value_least v (c ∷ s) = omega (arith, value_least (v * 10 + (c - 48)) s)

pub number_other : (v c : ℕ) (s : List ℕ) → is_digit c ≡ false → number_from v (c ∷ s) ≡ None
unfolding number_from
number_other v c s h = rw h

pub number_next : (v c : ℕ) (s : List ℕ) → is_digit c ≡ true → number_from v (c ∷ s) ≡ number_from (v * 10 + (c - 48)) s
unfolding number_from
number_next v c s h = rw h

pub number_large : (v : ℕ) (s : List ℕ) → 4294967296 ≤ v → number_from v s ≡ None
unfolding number_from
number_large v s h = rw (le-ltb (value v s) 4294967296 (omega (arith, value_least v s))) (go (all_digits s))
  where
    go : (x : Bool) → pick (x && false) (λ _. Some (value v s)) (λ _. None) ≡ None
    go true = refl
    go false = refl

pub number_end : (v : ℕ) → v < 4294967296 → number_from v [] ≡ Some v
unfolding number_from
number_end v h = rw (lt-ltb v 4294967296 h)

pub number_none : (s : List ℕ) → length s ≡ 0 → site_word s ≡ None
number_none [] h = refl
number_none (c ∷ s) h = absurd (omega arith)

pub number_some : (s : List ℕ) → length s ≢ 0 → site_word s ≡ number_from 0 s
number_some [] h = absurd (h refl)
number_some (c ∷ s) h = refl

-- ---- a number read as far as place i
drop_next : (l : List ℕ) (i : ℕ) → i < length l → drop i l ≡ get_or l i 0 ∷ drop (suc i) l
drop_next [] i h = absurd (omega arith)
drop_next (x ∷ l) zero h = refl
drop_next (x ∷ l) (suc i) h = drop_next l i (omega arith)

drop_one : (l : List ℕ) (i : ℕ) → i < length l → drop i l ≡ get_or l i 0 ∷ drop (i + 1) l
drop_one l i h = drop_next l i h ∙ ap (λ (k : ℕ). get_or l i 0 ∷ drop k l) (sym (add-one i))

drop_none : (l : List ℕ) (i : ℕ) → length l ≤ i → drop i l ≡ []
drop_none [] zero h = refl
drop_none [] (suc i) h = refl
drop_none (x ∷ l) zero h = absurd (omega arith)
drop_none (x ∷ l) (suc i) h = drop_none l i (omega arith)

pub record ReadTo (word : List ℕ) (v i : ℕ) : Type 0 where
  pub same : site_word word ≡ number_from v (drop i word)
  pub small : v < 4294967296

pub reading_start : (word : List ℕ) → length word ≢ 0 → ReadTo word 0 0
reading_start word h = record { same = number_some word h; small = omega arith }

module _ {word : List ℕ} {v i : ℕ} (r : ReadTo word v i) where
  module _ (h : i < length word) where
    here : site_word word ≡ number_from v (get_or word i 0 ∷ drop (i + 1) word)
    here = r.same ∙ ap (number_from v) (drop_one word i h)

    pub reading_other : is_digit (get_or word i 0) ≡ false → site_word word ≡ None
    reading_other d = here ∙ number_other v (get_or word i 0) (drop (i + 1) word) d

    module _ (d : is_digit (get_or word i 0) ≡ true) where
      next : site_word word ≡ number_from (v * 10 + (get_or word i 0 - 48)) (drop (i + 1) word)
      next = here ∙ number_next v (get_or word i 0) (drop (i + 1) word) d

      pub reading_large : 4294967296 ≤ v * 10 + (get_or word i 0 - 48) → site_word word ≡ None
      reading_large l = next ∙ number_large _ (drop (i + 1) word) l

      pub reading_step : v * 10 + (get_or word i 0 - 48) < 4294967296 → ReadTo word (v * 10 + (get_or word i 0 - 48)) (i + 1)
      reading_step l = record { same = next; small = l }

  pub reading_end : length word ≤ i → site_word word ≡ Some v
  reading_end h = r.same ∙ ap (number_from v) (drop_none word i h) ∙ number_end v r.small

-- ---- the arguments

module _ (count : ℕ) (first second : List ℕ) where
  pub no_words : count < 2 → command_of count first second ≡ Some Nothing
  unfolding command_of
  no_words h = rw (lt-ltb count 2 h)

  pub one_word : 2 ≤ count → count ≡ 2 → command_of count first second ≡ ask_one (site_word first)
  unfolding command_of
  one_word h e = rw (le-ltb count 2 h, eq-eqb count 2 e)

  module _ (h : 2 ≤ count) (n : count ≢ 2) where
    pub two_words : count ≡ 3 → command_of count first second ≡ ask_two (site_word first) (site_word second)
    unfolding command_of
    two_words e = rw (le-ltb count 2 h, ne_eqb count 2 n, eq-eqb count 3 e)

    pub more_words : count ≢ 3 → command_of count first second ≡ None
    unfolding command_of
    more_words m = rw (le-ltb count 2 h, ne_eqb count 2 n, ne_eqb count 3 m)
