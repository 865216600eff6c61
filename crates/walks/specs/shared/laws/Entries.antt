-- What a search in a cell for an entry finds, and how many entries two cells share, by the library's functions on lists.
use Rattle.std.specs.Prelude.{◌≡◌, refl, ◌==◌, Bool, true, false, List, [], ◌∷◌, ℕ, suc, ◌+◌, ltb, cond, length, Some, None, is_some}
use Rattle.std.specs.List.{list_any, position_or_len, count_by}
use Rattle.std.proofs.Common.{sym, ◌∙◌, ⊎_elim, arith, lt-ltb, le-ltb, eq-eqb, ne_eqb, zero-add}
use Rattle.std.proofs.lemmas.List.Sums.{sum_by-cons}
use Rattle.base.specs.common.Pick.{pick}
use Rattle.base.specs.common.Count.{same, occ}
use Rattle.base.specs.common.laws.Count.{same_cases}
use Rattle.base.specs.common.laws.Decide.{lt_or_ge}
use Rattle.walks.specs.shared.Cells.{holds_of, shared_of}

-- x is one of the entries
pub any_holds : (b : List ℕ) (x : ℕ) → list_any (λ y. y == x) b ≡ holds_of b x
any_holds [] x = refl
any_holds (y ∷ b) x =
    ⊎_elim
    (λ w. rw (eq-eqb y x (sym w.0)) (sym (lt-ltb 0 (same x y + occ x b) (omega (arith, w.1)))))
    (λ w. rw (ne_eqb y x (λ q. w.0 (sym q)), w.1, zero-add) (any_holds b x))
    (same_cases x y)

-- the first place of x comes before the end exactly where x is one of the entries
pub first_holds : (b : List ℕ) (x : ℕ)
    → is_some (cond (ltb (position_or_len (λ y. y == x) b) (length b)) (Some (position_or_len (λ y. y == x) b)) None) ≡ holds_of b x
first_holds b x = some (ltb (position_or_len (λ y. y == x) b) (length b)) (position_or_len (λ y. y == x) b) ∙ before b
  where
    some : (c : Bool) (n : ℕ) → is_some (cond c (Some n) None) ≡ c
    some true n = refl
    some false n = refl

    step : (m n : ℕ) → ltb (1 + m) (suc n) ≡ ltb m n
    step m n = ⊎_elim (λ l. lt-ltb (1 + m) (suc n) (omega (arith, l)) ∙ sym (lt-ltb m n l)) (λ l. le-ltb (1 + m) (suc n) (omega (arith, l)) ∙ sym (le-ltb m n l)) (lt_or_ge m n)

    before : (b : List ℕ) → ltb (position_or_len (λ y. y == x) b) (length b) ≡ holds_of b x
    before [] = refl
    before (y ∷ b) =
        ⊎_elim
        (λ w. rw (eq-eqb y x (sym w.0)) (lt-ltb 0 (suc (length b)) (omega arith) ∙ sym (lt-ltb 0 (same x y + occ x b) (omega (arith, w.1)))))
        (λ w. rw (ne_eqb y x (λ q. w.0 (sym q)), w.1, zero-add) (step (position_or_len (λ y. y == x) b) (length b) ∙ before b))
        (same_cases x y)

-- each entry of a that b holds is counted once
pub counted_shared : (a b : List ℕ) → count_by (λ x. holds_of b x) a ≡ shared_of a b
unfolding shared_of
counted_shared [] b = refl
counted_shared (x ∷ a) b = sum_by-cons (λ y. cond {A = ℕ} (holds_of b y) 1 0) x a ∙ omega (arith, one (holds_of b x), counted_shared a b)
  where
    one : (c : Bool) → cond {A = ℕ} c 1 0 ≡ pick {A = ℕ} c (λ _. 1) (λ _. 0)
    one true = refl
    one false = refl
