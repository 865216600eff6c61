-- What a library's search tells, read as the lowest number that a test takes: `find` over the numbers below n, with n where there is none; `position` in a list; and `any` below n.
use Rattle.std.specs.Prelude.{◌≡◌, Bool, true, false, List, ℕ, ◌≤◌, ◌<◌, Option, None, Some, MatchOption, MatchBool, length, get_or}
use Rattle.std.specs.Option.{unwrap_or}
use Rattle.std.specs.List.{AllWithin, HoldsAt, range_with_len}
use Rattle.std.proofs.Common.{sym, ap, subst, ◌∙◌, arith}
use Rattle.std.proofs.lemmas.List.FromFn.{length-range_with_len, get_or-range_with_len}
use Rattle.ring_area.specs.lowest.Lowest.{lowest, any_below}
use Rattle.ring_area.specs.lowest.laws.Loops.{no_both, lowest_is, some_below, none_below}

-- r is the lowest below n that p takes, if there is one
abbrev pub FirstTaken : (ℕ → Bool) → ℕ → Option ℕ → Type 0
FirstTaken p n r = MatchOption r ((k : ℕ) → 0 ≤ k → k < n → p k ≡ false) (λ i. (0 ≤ i) × (i < n) × (p i ≡ true) × ((k : ℕ) → 0 ≤ k → k < i → p k ≡ false))

pub found : (p : ℕ → Bool) (n : ℕ) (r : Option ℕ) {q : ℕ} → FirstTaken p n r → q ≡ unwrap_or r n → q ≡ lowest p n
found p n None h e = rw e (lowest_is p (record { within = omega arith; before = λ k g. h k (omega arith) g; at = λ g. absurd (omega arith) }))
found p n (Some i) h e = rw e (lowest_is p (record { within = omega (arith, h.1); before = λ k g. h.3 k (omega arith) g; at = λ _ f. no_both (sym h.2 ∙ f) }))

-- the same by places of a list, t telling of an element
pub placed : (p : ℕ → Bool) (t : ℕ → Bool) (xs : List ℕ) (r : Option ℕ) {q : ℕ} → ((k : ℕ) → k < length xs → p k ≡ t (get_or xs k 0))
    → MatchOption r (AllWithin (λ x. t x ≡ false) xs 0 (length xs)) (λ i. (i < length xs) × HoldsAt (λ x. t x ≡ true) xs i × AllWithin (λ x. t x ≡ false) xs 0 i)
    → q ≡ unwrap_or r (length xs) → q ≡ lowest p (length xs)
placed p t xs None e h = found p (length xs) None (λ k _ g. e k g ∙ h k 0 (omega arith) g)
placed p t xs (Some i) e h = found p (length xs) (Some i) (omega arith, h.0, e i h.0 ∙ h.1 0, λ k _ g. e k (omega (arith, h.0)) ∙ h.2 k 0 (omega arith) g)

-- whether there is one below n
pub anywhere : (p : ℕ → Bool) (n : ℕ) (r : Bool)
    → MatchBool r ((k : ℕ) × (k < length (range_with_len 0 n)) × HoldsAt (λ x. p x ≡ true) (range_with_len 0 n) k) (AllWithin (λ x. p x ≡ false) (range_with_len 0 n) 0 (length (range_with_len 0 n)))
    → r ≡ any_below p n
anywhere p n true h =
    let l : h.0 < n = omega (arith, h.1, length-range_with_len 0 n) in
    let e : get_or (range_with_len 0 n) h.0 0 ≡ h.0 = get_or-range_with_len 0 n h.0 0 l ∙ omega arith in
    sym (some_below p h.0 l (ap p (sym e) ∙ h.2 0))
anywhere p n false h =
    sym (none_below p n (λ k l. let e : get_or (range_with_len 0 n) k 0 ≡ k = get_or-range_with_len 0 n k 0 l ∙ omega arith in
    ap p (sym e) ∙ h k 0 (omega arith) (omega (arith, length-range_with_len 0 n))))
