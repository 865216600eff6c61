-- A number and its bytes, both ways; parts of bytes; the bytes of each.
use Rattle.std.specs.Prelude.{◌≡◌, refl, List, [], ◌∷◌, ◌++◌, ℕ, zero, suc, ◌+◌, ◌*◌, ◌/◌, ◌%◌, ◌^◌, ◌<◌, length, take, drop}
use Rattle.std.proofs.Common.{sym, ap, ◌∙◌, append_assoc, arith, pow-suc}
use Rattle.octets.specs.Bytes.{Bytes, word, le, each}

pub length_le : (n x : ℕ) → length (le n x) ≡ n
length_le zero x = refl
length_le (suc n) x = ap suc (length_le n (x / 256))

pub bytes_le : (n x : ℕ) → Bytes (le n x)
bytes_le zero x = tt
bytes_le (suc n) x = (omega arith, bytes_le n (x / 256))

pub word_le : (n x : ℕ) → x < 256 ^ n → word (le n x) ≡ x
word_le zero x h = omega arith
word_le (suc n) x h =
    let g : x < 256 ^ n * 256 = rw (pow-suc 256 n) at h in
    omega (arith, word_le n (x / 256) (omega arith))

pub le_word : (s : List ℕ) → Bytes s → le (length s) (word s) ≡ s
le_word [] h = refl
le_word (b ∷ s) h =
    let e : (b + 256 * word s) % 256 ≡ b = omega arith in
    let f : (b + 256 * word s) / 256 ≡ word s = omega arith in
    rw (e, f, le_word s h.1)

pub word_small : (s : List ℕ) → Bytes s → word s < 256 ^ length s
word_small [] h = omega arith
word_small (b ∷ s) h = rw (pow-suc 256 (length s)) (omega (arith, word_small s h.1))

pub bytes_take : (n : ℕ) (t : List ℕ) → Bytes t → Bytes (take n t)
bytes_take zero t h = tt
bytes_take (suc n) [] h = tt
bytes_take (suc n) (b ∷ t) h = (h.0, bytes_take n t h.1)

pub bytes_drop : (n : ℕ) (t : List ℕ) → Bytes t → Bytes (drop n t)
bytes_drop zero t h = h
bytes_drop (suc n) [] h = tt
bytes_drop (suc n) (b ∷ t) h = bytes_drop n t h.1

pub each_append : {A : Type 0} (f : A → List ℕ) (s t : List A) → each f (s ++ t) ≡ each f s ++ each f t
each_append f [] t = refl
each_append f (a ∷ s) t = ap (λ (l : List ℕ). f a ++ l) (each_append f s t) ∙ sym (append_assoc (f a) (each f s) (each f t))
