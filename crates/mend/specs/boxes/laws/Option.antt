-- The option's functions, case by case.
use Rattle.std.proofs.Math.Path.{◌≡◌, refl}
use Rattle.std.proofs.Common.{sym, ◌∙◌, ⊎_elim, arith}
use Rattle.std.specs.Prelude.{Bool, List, [], ◌∷◌, ◌≢◌, ℕ, get_or}
use Rattle.std.proofs.Math.Bool.{true, false}
use Rattle.std.proofs.Math.Dec.{eqb}
use Rattle.std.proofs.Math.ListN.{length}
use borrow.Author.Tests.{eq-eqb, ne_eqb, eqb-true}
use Rattle.base.specs.common.laws.Decide.{eq_or_ne}
use Rattle.base.specs.numbers.Numbers.{refused_count, refused_box}
use Rattle.octets.specs.hex.Hex.{all_hex, byte_of, unhex}
use Rattle.form.specs.Form.{float}
use Rattle.form.specs.boxes.FormBox.{box_by}
use Rattle.mend.specs.boxes.Option.{box_kind, is_box, option_record, word_at, outline_of, gives, keeps_box, number_with}

-- rule 3 by the kind and the four numbers
pub keeps_is : (s : List ℕ) → length s ≡ 33
    → (box_by (get_or s 0 0) (float (word_at s 1) ∷ float (word_at s 9) ∷ float (word_at s 17) ∷ float (word_at s 25) ∷ [])).sound ≡ keeps_box (outline_of s)
unfolding outline_of
keeps_is [] h = absurd (omega arith)
keeps_is (kind ∷ body) h = go (eqb kind 7) refl
  where
    go : (b : Bool) → eqb kind 7 ≡ b
        → (box_by kind (float (word_at body 0) ∷ float (word_at body 8) ∷ float (word_at body 16) ∷ float (word_at body 24) ∷ [])).sound ≡ keeps_box (outline_of (kind ∷ body))
    go true e = rw e
    go false e = rw e

-- ---- whether one is given

pub none_given : (s : List ℕ) → length s ≡ 0 → gives (outline_of s) ≡ false
unfolding outline_of
none_given [] h = refl
none_given (kind ∷ body) h = absurd (omega arith)

pub one_given : (s : List ℕ) → length s ≢ 0 → gives (outline_of s) ≡ true
unfolding outline_of
one_given [] h = absurd (h refl)
one_given (kind ∷ body) h = go (eqb kind 7) refl
  where
    go : (b : Bool) → eqb kind 7 ≡ b → gives (outline_of (kind ∷ body)) ≡ true
    go true e = rw e
    go false e = rw e

-- ---- the number

module _ (s : List ℕ) (n : ℕ) where
  pub number_none : length s ≢ 33 → number_with s n ≡ n
  unfolding number_with
  number_none h = rw (ne_eqb (length s) 33 h)

  pub number_kept : length s ≡ 33 → keeps_box (outline_of s) ≡ true → number_with s n ≡ n
  unfolding number_with
  number_kept h k = rw (eq-eqb (length s) 33 h, k)

  pub number_first : length s ≡ 33 → keeps_box (outline_of s) ≡ false → n ≡ refused_count → number_with s n ≡ n
  unfolding number_with
  number_first h k e = rw (eq-eqb (length s) 33 h, k, eq-eqb n refused_count e)

  pub number_box : length s ≡ 33 → keeps_box (outline_of s) ≡ false → n ≢ refused_count → number_with s n ≡ refused_box
  unfolding number_with
  number_box h k e = rw (eq-eqb (length s) 33 h, k, ne_eqb n refused_count e)

  pub number_zero : number_with s n ≡ 0 → n ≡ 0
  number_zero z = ⊎_elim known (λ h. sym (number_none h) ∙ z) (eq_or_ne (length s) 33)
    where
      known : length s ≡ 33 → n ≡ 0
      known h = go (keeps_box (outline_of s)) refl
        where
          go : (b : Bool) → keeps_box (outline_of s) ≡ b → n ≡ 0
          go true k = sym (number_kept h k) ∙ z
          go false k = ⊎_elim (λ e. sym (number_first h k e) ∙ z) (λ e. absurd (omega (arith, number_box h k e, z))) (eq_or_ne n refused_count)

-- ---- the digits

module _ (w : List ℕ) where
  pub other_length : length w ≢ 66 → is_box w ≡ false
  unfolding is_box
  other_length h = rw (ne_eqb (length w) 66 h)

  pub no_digits : length w ≡ 66 → all_hex w ≡ false → is_box w ≡ false
  unfolding is_box
  no_digits h d = rw (eq-eqb (length w) 66 h, d)

  pub by_kind : length w ≡ 66 → all_hex w ≡ true → is_box w ≡ box_kind (byte_of (get_or w 0 0) (get_or w 1 0))
  unfolding is_box
  by_kind h d = rw (eq-eqb (length w) 66 h, d)

  pub not_given : option_record false w ≡ []
  unfolding option_record
  not_given = refl

  pub no_box : is_box w ≡ false → option_record true w ≡ []
  unfolding option_record
  no_box h = rw h

  pub is_given : is_box w ≡ true → option_record true w ≡ unhex w
  unfolding option_record
  is_given h = rw h

  pub box_long : is_box w ≡ true → length w ≡ 66
  unfolding is_box
  box_long h = go (eqb (length w) 66) refl h
    where
      go : (b : Bool) → eqb (length w) 66 ≡ b → is_box w ≡ true → length w ≡ 66
      go true e t = eqb-true (length w) 66 e
      go false e t = let z : ◌≡◌ {A = Bool} false true = rw e at t in let y : ◌≡◌ {A = ℕ} 0 1 = cc in absurd (omega arith)

  pub box_kind_lem : is_box w ≡ true → box_kind (byte_of (get_or w 0 0) (get_or w 1 0)) ≡ true
  unfolding is_box
  box_kind_lem h = go (eqb (length w) 66) (all_hex w) refl refl h
    where
      go : (a b : Bool) → eqb (length w) 66 ≡ a → all_hex w ≡ b → is_box w ≡ true → box_kind (byte_of (get_or w 0 0) (get_or w 1 0)) ≡ true
      go true true e d t = rw (e, d) at t
      go true false e d t = let z : ◌≡◌ {A = Bool} false true = rw (e, d) at t in let y : ◌≡◌ {A = ℕ} 0 1 = cc in absurd (omega arith)
      go false b e d t = let z : ◌≡◌ {A = Bool} false true = rw e at t in let y : ◌≡◌ {A = ℕ} 0 1 = cc in absurd (omega arith)
