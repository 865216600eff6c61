-- The reverse of a list, place by place.
use Rattle.std.specs.Prelude.{ℕ, suc, ◌+◌, ◌-◌, ◌≤◌, ◌<◌, ◌≡◌, length, get_or}
use Rattle.std.proofs.Common.{ap, ◌∙◌, ⊎_elim, arith, zero-add}
use mathlib.Core.List.{List, [], ◌∷◌, reverse, reverse_aux}
use Rattle.base.specs.common.laws.Decide.{lt_or_ge}

past_reversed : (l r : List ℕ) (j : ℕ) → get_or (reverse_aux l r) (length l + j) 0 ≡ get_or r j 0
past_reversed [] r j = rw (zero-add j)
past_reversed (x ∷ l) r j =
    let e : suc (length l) + j ≡ length l + suc j = omega arith in
    rw e (past_reversed l (x ∷ r) (suc j))

get_d_reversed : (l r : List ℕ) (k : ℕ) → k < length l → get_or (reverse_aux l r) k 0 ≡ get_or l (length l - 1 - k) 0
get_d_reversed [] r k h = absurd (omega arith)
get_d_reversed (x ∷ l) r k h =
    ⊎_elim
    (λ (g : k < length l).
    let e : suc (length l) - 1 - k ≡ suc (length l - 1 - k) = omega arith in
    rw e (get_d_reversed l (x ∷ r) k g))
    (λ (g : length l ≤ k).
    let e : suc (length l) - 1 - k ≡ 0 = omega arith in
    let f : k ≡ length l + 0 = omega arith in
    rw e (ap (λ (n : ℕ). get_or (reverse_aux l (x ∷ r)) n 0) f ∙ past_reversed l (x ∷ r) 0))
    (lt_or_ge k (length l))

pub get_d_reverse : (l : List ℕ) (k : ℕ) → k < length l → get_or (reverse l) k 0 ≡ get_or l (length l - 1 - k) 0
get_d_reverse l k h = get_d_reversed l [] k h
