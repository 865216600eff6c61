-- `octets::hex::all_digits` meets its contract: a text is all digits where each of its characters is one.
use Rattle.std.proofs.Common.{◌≡◌, ◌<◌, ◌↔◌, Bool, true, false, List, [], ◌∷◌, ℕ, IsTrue, ltb, refl, sym, lt-ltb, rules}
use Rattle.std.specs.List.{All}
use Rattle.std.proofs.lemmas.List.Elements.{All-nil, All-cons, All-head, All-tail}
use borrow.Author.Tests.{ltb-true}
use Rattle.base.specs.common.laws.And.{and_left, and_right}
use Rattle.octets.specs.hex.Hex.{digit_value, all_hex}
use Rattle.octets.proofs.hex.all_digits.Goals as goal

all_told : (s : List ℕ) → All (λ d. digit_value d < 16) s → all_hex s ≡ true
all_told [] h = refl
all_told (d ∷ s) h = rw (lt-ltb (digit_value d) 16 (All-head (λ k. digit_value k < 16) d s h)) (all_told s (All-tail (λ k. digit_value k < 16) d s h))

told_all : (s : List ℕ) → all_hex s ≡ true → All (λ d. digit_value d < 16) s
told_all [] h = All-nil (λ d. digit_value d < 16)
told_all (d ∷ s) h =
    All-cons (λ k. digit_value k < 16) d s (ltb-true (digit_value d) 16 (and_left (ltb (digit_value d) 16) (all_hex s) h))
    (told_all s (and_right (ltb (digit_value d) 16) (all_hex s) h))

agree : (a b : Bool) → (a ≡ true → b ≡ true) → (b ≡ true → a ≡ true) → a ≡ b
agree true b f g = sym (f refl)
agree false true f g = g refl
agree false false f g = refl

pub returns : goal.returns
returns c =
    let s = c.args.text.now in
    let h : IsTrue c.all.result ↔ All (λ d. digit_value d < 16) s = search rules in
    agree c.all.result (all_hex s) (λ t. all_told s (h.0 t)) (λ e. h.1 (told_all s e))
