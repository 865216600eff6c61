-- Bytes in hexadecimal digits: two to a byte, and one byte more.
use Rattle.std.specs.Prelude.{◌≡◌, refl, ℕ, suc, ◌+◌, ◌-◌, ◌*◌, ◌/◌, ◌%◌, ◌≤◌, ◌<◌, length, get_or, take, drop, set}
use Rattle.std.proofs.Common.{sym, ap, ◌∙◌, ⊎_elim, arith, add-one, take-append-drop, take-suc}
use mathlib.Core.List.{List, [], ◌∷◌, ◌++◌, reverse, reverse-cons}
use Rattle.std.proofs.lemmas.List.{length-reverse}
use Rattle.std.proofs.Math.ListN.{get_or-append}
use Rattle.std.proofs.Math.Seq.{take-length, get_or-append_seam}
use Rattle.base.specs.common.laws.Decide.{lt_or_ge}
use Rattle.octets.specs.Wrote.{Wrote}
use Rattle.octets.specs.hex.Hex.{hex, hex_digit}

pub hex_length : (s : List ℕ) → length (hex s) ≡ 2 * length s
unfolding hex
hex_length [] = refl
hex_length (b ∷ s) = omega (arith, hex_length s)

hex_append : (s t : List ℕ) → hex (s ++ t) ≡ hex s ++ hex t
unfolding hex
hex_append [] t = refl
hex_append (b ∷ s) t = ap (λ (l : List ℕ). hex_digit (b / 16) ∷ hex_digit (b % 16) ∷ l) (hex_append s t)

pub hex_more : (s : List ℕ) (i : ℕ) → i < length s → hex (take (i + 1) s) ≡ hex (take i s) ++ hex (get_or s i 0 ∷ [])
hex_more s i h = ap (λ (k : ℕ). hex (take k s)) (add-one i) ∙ ap hex (take-suc s i 0 h) ∙ hex_append (take i s) (get_or s i 0 ∷ [])

-- from the last to the first
turned_at_lem : (s : List ℕ) (i : ℕ) → i < length s → get_or (reverse s) i 0 ≡ get_or s (length s - 1 - i) 0
turned_at_lem [] i h = absurd (omega arith)
turned_at_lem (b ∷ s) i h = ap (λ (l : List ℕ). get_or l i 0) (reverse-cons b s) ∙ ⊎_elim (before (turned_at_lem s i)) last (lt_or_ge i (length s))
  where
    before : (i < length s → get_or (reverse s) i 0 ≡ get_or s (length s - 1 - i) 0) → i < length s → get_or (reverse s ++ (b ∷ [])) i 0 ≡ get_or (b ∷ s) (suc (length s) - 1 - i) 0
    before f l =
        let e : suc (length s) - 1 - i ≡ suc (length s - 1 - i) = omega arith in
        get_or-append (reverse s) (b ∷ []) 0 i (omega (arith, length-reverse s)) ∙ f l ∙ sym (ap (λ (k : ℕ). get_or (b ∷ s) k 0) e)

    last : length s ≤ i → get_or (reverse s ++ (b ∷ [])) i 0 ≡ get_or (b ∷ s) (suc (length s) - 1 - i) 0
    last g =
        let e : suc (length s) - 1 - i ≡ 0 = omega arith in
        let f : i ≡ length (reverse s) = omega (arith, length-reverse s) in
        ap (λ (k : ℕ). get_or (reverse s ++ (b ∷ [])) k 0) f ∙ get_or-append_seam (reverse s) b [] 0 ∙ sym (ap (λ (k : ℕ). get_or (b ∷ s) k 0) e)

pub turned_more : (s : List ℕ) (i : ℕ) → i < length s → hex (take (i + 1) (reverse s)) ≡ hex (take i (reverse s)) ++ hex (get_or s (length s - 1 - i) 0 ∷ [])
turned_more s i h =
    hex_more (reverse s) i (omega (arith, length-reverse s)) ∙ ap (λ (b : ℕ). hex (take i (reverse s)) ++ hex (b ∷ [])) (turned_at_lem s i h)

pub hex_whole : (s : List ℕ) (i : ℕ) → hex (take (length s) s) ≡ hex (take i s) ++ hex (drop i s)
hex_whole s i = ap hex (take-length s ∙ sym (take-append-drop i s)) ∙ hex_append (take i s) (drop i s)

pub hex_none : (s : List ℕ) → hex (take 0 s) ≡ []
unfolding hex
hex_none s = refl

-- two stores
pub two_wrote : (l : List ℕ) (at x y : ℕ) → Wrote l (set (set l at x) (at + 1) y) at (at + 2) (x ∷ y ∷ [])
two_wrote l at x y = record { list = ap (λ (k : ℕ). set (set l at x) k y) (add-one at); place = refl }

pub byte_wrote : {x y : ℕ} (b : ℕ) (l : List ℕ) (at : ℕ) → x ≡ hex_digit (b / 16) → y ≡ hex_digit (b % 16) → Wrote l (set (set l at x) (at + 1) y) at (at + 2) (hex (b ∷ []))
unfolding hex
byte_wrote {x} {y} b l at p q = rw (← p, ← q) (two_wrote l at x y)
