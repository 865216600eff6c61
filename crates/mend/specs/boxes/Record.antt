-- Theorem: what the option gives is nothing, or the bytes of a box that can stand first in a form.
use Rattle.std.specs.Prelude.{◌≡◌, refl, Bool, true, false, List, [], ◌∷◌, ◌++◌, ℕ, ◌+◌, ◌^◌, ◌<◌, eqb, length, take, drop}
use Rattle.std.proofs.Common.{sym, ap, ap₂, ◌∙◌, append_assoc, inl, inr, arith, take-append-drop, length-drop, length-take-le, drop-drop, take_all, eqb-true}
use Rattle.octets.specs.Bytes.{Bytes, le}
use Rattle.octets.specs.laws.Bytes.{le_word, word_small, bytes_take, bytes_drop}
use Rattle.octets.specs.hex.Hex.{unhex}
use Rattle.octets.specs.hex.laws.Unhex.{unhex_length, unhex_at}
use Rattle.form.specs.Form.{OutlineFits, MayBegin, outline_bytes}
use Rattle.mend.specs.boxes.Option.{IsRecord, IsOption, box_kind, is_box, option_record, word_at, outline_of}
use Rattle.mend.specs.boxes.laws.Option.{not_given, no_box, is_given, box_long, box_kind_lem}

-- ---- a record's body

module _ (body : List ℕ) (long : length body ≡ 32) (h : Bytes body) where
  piece_long : (i : ℕ) → i + 8 < 33 → length (take 8 (drop i body)) ≡ 8
  piece_long i l = length-take-le 8 (drop i body) (omega (arith, length-drop i body))

  piece_bytes : (i : ℕ) → Bytes (take 8 (drop i body))
  piece_bytes i = bytes_take 8 (drop i body) (bytes_drop i body h)

  piece : (i : ℕ) → i + 8 < 33 → le 8 (word_at body i) ≡ take 8 (drop i body)
  piece i l = ap (λ (n : ℕ). le n (word_at body i)) (sym (piece_long i l)) ∙ le_word (take 8 (drop i body)) (piece_bytes i)

  small : (i : ℕ) → i + 8 < 33 → word_at body i < 2 ^ 64
  small i l =
      let x : word_at body i < 256 ^ length (take 8 (drop i body)) = word_small (take 8 (drop i body)) (piece_bytes i) in
      let y : word_at body i < 256 ^ 8 = rw (piece_long i l) at x in
      y

  -- the four pieces are the whole
  join : (i j : ℕ) → i + 8 ≡ j → take 8 (drop i body) ++ drop j body ≡ drop i body
  join i j e =
      ap (λ (t : List ℕ). take 8 (drop i body) ++ t) (sym (drop-drop 8 i body ∙ ap (λ (k : ℕ). drop k body) e)) ∙ take-append-drop 8 (drop i body)

  whole : take 8 body ++ take 8 (drop 8 body) ++ take 8 (drop 16 body) ++ take 8 (drop 24 body) ≡ body
  whole =
      let a = take 8 body in
      let b = take 8 (drop 8 body) in
      let c = take 8 (drop 16 body) in
      ap (λ (t : List ℕ). a ++ b ++ c ++ t) (take_all 8 (drop 24 body) (omega (arith, length-drop 24 body)))
      ∙ append_assoc (a ++ b) c (drop 24 body)
      ∙ ap (λ (t : List ℕ). (a ++ b) ++ t) (join 16 24 (omega arith))
      ∙ append_assoc a b (drop 16 body)
      ∙ ap (λ (t : List ℕ). a ++ t) (join 8 16 (omega arith))
      ∙ join 0 8 (omega arith)

  body_back : le 8 (word_at body 0) ++ le 8 (word_at body 8) ++ le 8 (word_at body 16) ++ le 8 (word_at body 24) ≡ body
  body_back =
      let w : ℕ → List ℕ = λ i. le 8 (word_at body i) in
      let t : ℕ → List ℕ = λ i. take 8 (drop i body) in
      ap (λ (z : List ℕ). z ++ w 8 ++ w 16 ++ w 24) (piece 0 (omega arith))
      ∙ ap (λ (z : List ℕ). t 0 ++ z ++ w 16 ++ w 24) (piece 8 (omega arith))
      ∙ ap (λ (z : List ℕ). t 0 ++ t 8 ++ z ++ w 24) (piece 16 (omega arith))
      ∙ ap (λ (z : List ℕ). t 0 ++ t 8 ++ t 16 ++ z) (piece 24 (omega arith))
      ∙ whole

-- ---- a record

is_one : (k : ℕ) → box_kind k ≡ true → eqb k 7 ≡ false → k ≡ 1
is_one k h e = go (eqb k 1) refl
  where
    go : (b : Bool) → eqb k 1 ≡ b → k ≡ 1
    go true f = eqb-true k 1 f
    go false f = let z : ◌≡◌ {A = Bool} false true = rw (f, e) at h in let y : ◌≡◌ {A = ℕ} 0 1 = cc in absurd (omega arith)

-- its box has these bytes, and fits
pub record AsBox (s : List ℕ) : Type 0 where
  pub back : outline_bytes (outline_of s) ≡ s
  pub fits : OutlineFits (outline_of s)
  pub begins : MayBegin false (outline_of s)

pub holds : (s : List ℕ) → IsRecord s → AsBox s
unfolding outline_of
holds [] r = absurd (omega (arith, r.long))
holds (kind ∷ body) r = go (eqb kind 7) refl
  where
    long : length body ≡ 32
    long = omega (arith, r.long)

    bytes : Bytes body
    bytes = r.bytes.1

    back : le 8 (word_at body 0) ++ le 8 (word_at body 8) ++ le 8 (word_at body 16) ++ le 8 (word_at body 24) ≡ body
    back = body_back body long bytes

    fits : (word_at body 0 < 2 ^ 64) × (word_at body 8 < 2 ^ 64) × (word_at body 16 < 2 ^ 64) × (word_at body 24 < 2 ^ 64)
    fits = (small body long bytes 0 (omega arith), small body long bytes 8 (omega arith), small body long bytes 16 (omega arith), small body long bytes 24 (omega arith))

    go : (b : Bool) → eqb kind 7 ≡ b → AsBox (kind ∷ body)
    go true e = record { back = rw e (ap₂ (λ (k : ℕ) (t : List ℕ). k ∷ t) (sym (eqb-true kind 7 e)) back); fits = rw e fits; begins = rw e tt }
    go false e = record { back = rw e (ap₂ (λ (k : ℕ) (t : List ℕ). k ∷ t) (sym (is_one kind r.kind e)) back); fits = rw e fits; begins = rw e tt }

-- ---- the option

bytes_of : (s : List ℕ) → Bytes (unhex s)
bytes_of [] = tt
bytes_of (a ∷ []) = tt
bytes_of (a ∷ b ∷ s) = (omega arith, bytes_of s)

pub is_option_lem : (given : Bool) (digits : List ℕ) → IsOption (option_record given digits)
is_option_lem false digits = inl (not_given digits)
is_option_lem true digits = go (is_box digits) refl
  where
    go : (b : Bool) → is_box digits ≡ b → IsOption (option_record true digits)
    go false e = inl (no_box digits e)
    go true e =
        rw (is_given digits e)
        (inr (record {
          long = unhex_length 33 digits (omega (arith, box_long digits e));
          kind = ap box_kind (unhex_at 0 digits (omega (arith, box_long digits e))) ∙ box_kind_lem digits e;
          bytes = bytes_of digits;
        }))
