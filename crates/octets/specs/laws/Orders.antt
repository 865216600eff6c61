-- A number and its bytes, both ways, in either order.
use Rattle.std.specs.Prelude.{◌≡◌, Bool, true, false, ℕ, ◌^◌, ◌<◌, length}
use Rattle.std.proofs.Common.{sym, ap, ◌∙◌}
use mathlib.Core.List.{List, [], ◌∷◌, ◌++◌, reverse, reverse-cons, reverse-reverse}
use Rattle.std.proofs.lemmas.List.{length-reverse}
use Rattle.octets.specs.Bytes.{Bytes, word, le}
use Rattle.octets.specs.Orders.{spelt, word_in}
use Rattle.octets.specs.laws.Bytes.{length_le, word_le, le_word, word_small}

pub length_spelt : (little : Bool) (n x : ℕ) → length (spelt little n x) ≡ n
length_spelt true n x = length_le n x
length_spelt false n x = length-reverse (le n x) ∙ length_le n x

bytes_append : (s t : List ℕ) → Bytes s → Bytes t → Bytes (s ++ t)
bytes_append [] t h g = g
bytes_append (b ∷ s) t h g = (h.0, bytes_append s t h.1 g)

bytes_reverse : (s : List ℕ) → Bytes s → Bytes (reverse s)
bytes_reverse [] h = tt
bytes_reverse (b ∷ s) h = rw (reverse-cons b s) (bytes_append (reverse s) (b ∷ []) (bytes_reverse s h.1) (h.0, tt))

pub word_spelt : (little : Bool) (n x : ℕ) → x < 256 ^ n → word_in little (spelt little n x) ≡ x
word_spelt true n x h = word_le n x h
word_spelt false n x h = ap word (reverse-reverse (le n x)) ∙ word_le n x h

pub spelt_word : (little : Bool) (s : List ℕ) → Bytes s → spelt little (length s) (word_in little s) ≡ s
spelt_word true s h = le_word s h
spelt_word false s h =
    let same : le (length (reverse s)) (word (reverse s)) ≡ reverse s = le_word (reverse s) (bytes_reverse s h) in
    ap (λ (n : ℕ). reverse (le n (word (reverse s)))) (sym (length-reverse s)) ∙ ap reverse same ∙ reverse-reverse s

pub word_in_small : (little : Bool) (s : List ℕ) → Bytes s → word_in little s < 256 ^ length s
word_in_small true s h = word_small s h
word_in_small false s h = rw (← length-reverse s) (word_small (reverse s) (bytes_reverse s h))
