-- The bytes of digits one by one, and the digits of a text one by one.
use Rattle.std.specs.Prelude.{◌≡◌, refl, true, false, List, [], ◌∷◌, ◌++◌, ℕ, zero, suc, ◌+◌, ◌*◌, ◌≤◌, ◌<◌, length, get_or, take, drop, set}
use Rattle.std.proofs.Common.{sym, ap, ◌∙◌, append-nil, arith, zero-add, add-one, drop_of_length-le, take_all, drop-cons, lt-ltb, le-ltb}
use Rattle.std.proofs.lemmas.List.Edits.{sets}
use Rattle.std.proofs.Math.Seq.{length-sets, drop-length}
use Rattle.base.specs.common.laws.Stores.{sets_all, sets_more}
use Rattle.octets.specs.hex.Hex.{digit_value, all_hex, byte_of, unhex}

-- ---- bytes

pub unhex_length : (n : ℕ) (s : List ℕ) → length s ≡ 2 * n → length (unhex s) ≡ n
unhex_length zero [] h = refl
unhex_length (suc n) [] h = absurd (omega arith)
unhex_length n (a ∷ []) h = absurd (omega arith)
unhex_length zero (a ∷ b ∷ s) h = absurd (omega arith)
unhex_length (suc n) (a ∷ b ∷ s) h = ap suc (unhex_length n s (omega arith))

pub unhex_at : (i : ℕ) (s : List ℕ) → 2 * i + 1 < length s → get_or (unhex s) i 0 ≡ byte_of (get_or s (2 * i) 0) (get_or s (2 * i + 1) 0)
unhex_at i [] h = absurd (omega arith)
unhex_at i (a ∷ []) h = absurd (omega arith)
unhex_at zero (a ∷ b ∷ s) h = refl
unhex_at (suc i) (a ∷ b ∷ s) h =
    let x : 2 * suc i ≡ suc (suc (2 * i)) = omega arith in
    let y : 2 * suc i + 1 ≡ suc (suc (2 * i + 1)) = omega arith in
    rw (y, x) (unhex_at i s (omega arith))

-- the loop that reads them: the first i stand in the list
pub record Unhexing (text l m : List ℕ) (i : ℕ) : Type 0 where
  pub long : length text ≡ 2 * length l
  pub within : i ≤ length l
  pub list : m ≡ sets l 0 (take i (unhex text))

pub reading_length : {text l m : List ℕ} {i : ℕ} → Unhexing text l m i → length m ≡ length l
reading_length {text} {l} {m} {i} r = ap length r.list ∙ length-sets l 0 (take i (unhex text))

pub reading_step : {text l m : List ℕ} {i b : ℕ} → Unhexing text l m i → i < length l → b ≡ byte_of (get_or text (2 * i) 0) (get_or text (2 * i + 1) 0) → Unhexing text l (set m i b) (i + 1)
reading_step {text} {l} {m} {i} {b} r h e =
    let vs = unhex text in
    let at : b ≡ get_or vs i 0 = e ∙ sym (unhex_at i text (omega (arith, r.long))) in
    let more : set (sets l 0 (take i vs)) (0 + i) (get_or vs i 0) ≡ sets l 0 (take (suc i) vs) = sets_more vs l 0 i 0 (omega (arith, unhex_length (length l) text r.long)) in
    let same : set m i b ≡ set (sets l 0 (take i vs)) (0 + i) (get_or vs i 0) = rw (r.list, at, zero-add i) in
    record { long = r.long; within = omega arith; list = rw (add-one i) (same ∙ more) }

pub reading_end : {text l m : List ℕ} {i : ℕ} → Unhexing text l m i → length l ≤ i → m ≡ unhex text
reading_end {text} {l} {m} {i} r h =
    let vs = unhex text in
    let n = unhex_length (length l) text r.long in
    r.list ∙ ap (sets l 0) (take_all i vs (omega arith)) ∙ sets_all vs l (omega arith)
    ∙ ap (λ (t : List ℕ). vs ++ t) (drop_of_length-le l {i = length vs} (omega arith)) ∙ append-nil vs

-- ---- digits

pub digits_more : (s : List ℕ) (i : ℕ) → i < length s → digit_value (get_or s i 0) < 16 → all_hex (drop i s) ≡ all_hex (drop (i + 1) s)
digits_more s i h d =
    ap all_hex (drop-cons s i 0 h) ∙ rw (lt-ltb (digit_value (get_or s i 0)) 16 d, add-one i)

pub digits_none : (s : List ℕ) (i : ℕ) → i < length s → 16 ≤ digit_value (get_or s i 0) → all_hex (drop i s) ≡ false
digits_none s i h d = ap all_hex (drop-cons s i 0 h) ∙ rw (le-ltb (digit_value (get_or s i 0)) 16 d)

pub digits_end : (s : List ℕ) (i : ℕ) → i ≡ length s → all_hex (drop i s) ≡ true
digits_end s i e = ap (λ (k : ℕ). all_hex (drop k s)) e ∙ ap all_hex (drop-length s)
