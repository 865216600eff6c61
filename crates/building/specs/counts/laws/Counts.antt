-- Nine stores at the beginning of a slice, and the rest cleared.
use Rattle.std.specs.Prelude.{◌≡◌, refl, List, [], ◌∷◌, ℕ, ◌-◌, ◌≤◌, length, get_or, set, drop, replicate}
use Rattle.std.proofs.Common.{◌∙◌, arith, length-set}
use Rattle.definition.specs.declared.Reused.{Reused}
use Rattle.cell_memory.specs.layout.Cleared.{cleared_from, padded}
use Rattle.base.specs.numbers.Numbers.{EMPTY}
use Rattle.building.specs.counts.Counts.{counts_of}

abbrev pub six_in : List ℕ → ℕ → ℕ → ℕ → ℕ → ℕ → ℕ → List ℕ
six_in l a b c d e f = set (set (set (set (set (set l 0 a) 1 b) 2 c) 3 d) 4 e) 5 f

abbrev pub nine_in : List ℕ → ℕ → ℕ → ℕ → ℕ → ℕ → ℕ → ℕ → ℕ → ℕ → List ℕ
nine_in l a b c d e f g h i = set (set (set (six_in l a b c d e f) 6 g) 7 h) 8 i

nine : (l : List ℕ) (a b c d e f g h i : ℕ) → 9 ≤ length l → nine_in l a b c d e f g h i ≡ a ∷ b ∷ c ∷ d ∷ e ∷ f ∷ g ∷ h ∷ i ∷ drop 9 l
nine [] a b c d e f g h i k = absurd (omega arith)
nine (p ∷ []) a b c d e f g h i k = absurd (omega arith)
nine (p ∷ q ∷ []) a b c d e f g h i k = absurd (omega arith)
nine (p ∷ q ∷ r ∷ []) a b c d e f g h i k = absurd (omega arith)
nine (p ∷ q ∷ r ∷ s ∷ []) a b c d e f g h i k = absurd (omega arith)
nine (p ∷ q ∷ r ∷ s ∷ t ∷ []) a b c d e f g h i k = absurd (omega arith)
nine (p ∷ q ∷ r ∷ s ∷ t ∷ u ∷ []) a b c d e f g h i k = absurd (omega arith)
nine (p ∷ q ∷ r ∷ s ∷ t ∷ u ∷ v ∷ []) a b c d e f g h i k = absurd (omega arith)
nine (p ∷ q ∷ r ∷ s ∷ t ∷ u ∷ v ∷ w ∷ []) a b c d e f g h i k = absurd (omega arith)
nine (p ∷ q ∷ r ∷ s ∷ t ∷ u ∷ v ∷ w ∷ x ∷ l) a b c d e f g h i k = refl

nine_long : (l : List ℕ) (a b c d e f g h i : ℕ) → length (nine_in l a b c d e f g h i) ≡ length l
nine_long l a b c d e f g h i = simp length-set

pub counted : (l : List ℕ) (vertices : ℕ) (owners : List ℕ) (lost : ℕ) (u : Reused) (l' : List ℕ) → 9 ≤ length l → length owners ≡ 4
    → l' ≡ cleared_from 9 EMPTY (nine_in l vertices (get_or owners 0 0) (get_or owners 1 0) (get_or owners 2 0) (get_or owners 3 0) lost u.extensions u.firsts u.seconds)
    → l' ≡ padded (length l) EMPTY (counts_of vertices owners lost u)
counted l vertices owners lost u l' h n q =
    q ∙ rw (
      nine_long l vertices (get_or owners 0 0) (get_or owners 1 0) (get_or owners 2 0) (get_or owners 3 0) lost u.extensions u.firsts u.seconds,
      nine l vertices (get_or owners 0 0) (get_or owners 1 0) (get_or owners 2 0) (get_or owners 3 0) lost u.extensions u.firsts u.seconds h,
    ) (whole owners n)
  where
    whole : (os : List ℕ) → length os ≡ 4 → vertices ∷ get_or os 0 0 ∷ get_or os 1 0 ∷ get_or os 2 0 ∷ get_or os 3 0 ∷ lost ∷ u.extensions ∷ u.firsts ∷ u.seconds
        ∷ replicate (length l - 9) EMPTY ≡ padded (length l) EMPTY (counts_of vertices os lost u)
    whole [] e = absurd (omega arith)
    whole (a ∷ []) e = absurd (omega arith)
    whole (a ∷ b ∷ []) e = absurd (omega arith)
    whole (a ∷ b ∷ c ∷ []) e = absurd (omega arith)
    whole (a ∷ b ∷ c ∷ d ∷ []) e = refl
    whole (a ∷ b ∷ c ∷ d ∷ x ∷ r) e = absurd (omega arith)
