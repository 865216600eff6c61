-- Theorem: kind 2 on whole numbers, and that it is what `certified` and `whole` ask: where no side that is not along an edge comes more often than the same side back, the sides cancel.
use Rattle.std.specs.Prelude.{◌≡◌, Bool, ◌&&◌, ◌||◌, ◌⊎◌, ℕ, ◌+◌, ◌≤◌}
use Rattle.std.proofs.Math.Path.{refl, ap}
use Rattle.std.proofs.Common.{sym, ◌∙◌, inl, inr, ⊎_elim}
use Rattle.std.proofs.Math.Bool.{true, false}
use mathlib.Core.List.{List, [], ◌∷◌}
use native.Mathlib.Omega.{arith}
use Rattle.std.proofs.Math.Dec.{eqb}
use borrow.Author.Tests.{eqb-true}
use Rattle.base.specs.common.Pick.{pick}
use Rattle.base.specs.common.laws.And.{and_left, and_right}
use Rattle.base.specs.common.laws.Decide.{eq_or_ne}
use Rattle.certifying.specs.cover.Sums.{WholePlace, OfSide, sum_from, sum_ring, sum_all}
use Rattle.certifying.specs.cover.Cover.{BothOnEdge}
use Rattle.certifying.specs.cover.Counts.{sum_listed, one_where, times_in, cancelled}

pub record WholeSide : Type 0 where
  pub from : WholePlace
  pub to : WholePlace

abbrev pub way_back : WholeSide → WholeSide
way_back s = record { from = s.to; to = s.from }

-- ---- sides can be told apart
abbrev place : ℕ → ℕ → WholePlace
place x y = record { x = x; y = y }

abbrev side : WholePlace → WholePlace → WholeSide
side p q = record { from = p; to = q }

same_place : (p q : WholePlace) → p.x ≡ q.x → p.y ≡ q.y → p ≡ q
same_place p q e f = ap (λ (n : ℕ). place n p.y) e ∙ ap (λ (n : ℕ). place q.x n) f

place_told : (p q : WholePlace) → (p ≡ q) ⊎ (p ≡ q → ⊥)
place_told p q =
    ⊎_elim (λ e. ⊎_elim (λ f. inl (same_place p q e f)) (λ n. inr (λ g. n (ap (λ (z : WholePlace). z.y) g))) (eq_or_ne p.y q.y))
    (λ n. inr (λ g. n (ap (λ (z : WholePlace). z.x) g))) (eq_or_ne p.x q.x)

pub told : (s u : WholeSide) → (s ≡ u) ⊎ (s ≡ u → ⊥)
told s u =
    ⊎_elim (λ e. ⊎_elim (λ f. inl (both e f)) (λ n. inr (λ g. n (ap (λ (z : WholeSide). z.to) g))) (place_told s.to u.to)) (λ n. inr (λ g. n (ap (λ (z : WholeSide). z.from) g)))
    (place_told s.from u.from)
  where
    both : s.from ≡ u.from → s.to ≡ u.to → s ≡ u
    both e f = ap (λ (p : WholePlace). side p s.to) e ∙ ap (λ (p : WholePlace). side u.from p) f

-- ---- along an edge
module _ (l t r b : ℕ) where
  unfoldable pub along_edge : WholePlace → WholePlace → Bool
  along_edge p q = (eqb p.x l && eqb q.x l) || (eqb p.x r && eqb q.x r) || (eqb p.y t && eqb q.y t) || (eqb p.y b && eqb q.y b)

  four : {A B C D : Type 0} (u v w z : Bool) → (u || v || w || z) ≡ true → (u ≡ true → A) → (v ≡ true → B) → (w ≡ true → C) → (z ≡ true → D) → A ⊎ B ⊎ C ⊎ D
  four true v w z h a c d e = inl (a refl)
  four false true w z h a c d e = inr (inl (c refl))
  four false false true z h a c d e = inr (inr (inl (d refl)))
  four false false false z h a c d e = inr (inr (inr (e h)))

  pub sure : (p q : WholePlace) → along_edge p q ≡ true → BothOnEdge l t r b p q
  unfolding along_edge
  sure p q h =
      four (eqb p.x l && eqb q.x l) (eqb p.x r && eqb q.x r) (eqb p.y t && eqb q.y t) (eqb p.y b && eqb q.y b) h (ends p.x q.x l) (ends p.x q.x r)
      (ends p.y q.y t) (ends p.y q.y b)
    where
      ends : (m n e : ℕ) → (eqb m e && eqb n e) ≡ true → (m ≡ e) × (n ≡ e)
      ends m n e k = (eqb-true m e (and_left (eqb m e) (eqb n e) k), eqb-true n e (and_right (eqb m e) (eqb n e) k))

-- ---- the sides that are not along an edge
module _ (along_edge : WholePlace → WholePlace → Bool) where
  unfoldable pub keep : WholePlace → WholePlace → List WholeSide → List WholeSide
  keep p q m = pick (along_edge p q) (λ _. m) (λ _. record { from = p; to = q } ∷ m)

  unfoldable pub off_from : WholePlace → WholePlace → List WholePlace → List WholeSide → List WholeSide
  off_from a p [] m = keep p a m
  off_from a p (q ∷ r) m = keep p q (off_from a q r m)

  unfoldable pub off_ring : List WholePlace → List WholeSide → List WholeSide
  off_ring [] m = m
  off_ring (p ∷ r) m = off_from p p r m

  unfoldable pub off_all : List (List WholePlace) → List WholeSide
  off_all [] = []
  off_all (r ∷ rs) = off_ring r (off_all rs)

  abbrev pub off : OfSide → OfSide
  off f p q = pick (along_edge p q) (λ _. 0) (λ _. f p q)

  module _ (f : OfSide) where
    abbrev by : WholeSide → ℕ
    by s = f s.from s.to

    kept : (p q : WholePlace) (m : List WholeSide) → sum_listed told by (keep p q m) ≡ off f p q + sum_listed told by m
    unfolding keep sum_listed
    kept p q m = go (along_edge p q)
      where
        go : (c : Bool) → sum_listed told by (pick c (λ _. m) (λ _. record { from = p; to = q } ∷ m)) ≡ pick c (λ _. 0) (λ _. f p q) + sum_listed told by m
        go true = zero_plus _
          where
            zero_plus : (n : ℕ) → n ≡ 0 + n
            zero_plus n = omega arith
        go false = refl

    in_from : (a p : WholePlace) (r : List WholePlace) (m : List WholeSide) → sum_listed told by (off_from a p r m) ≡ sum_from (off f) a p r + sum_listed told by m
    unfolding off_from sum_from
    in_from a p [] m = kept p a m
    in_from a p (q ∷ r) m = kept p q (off_from a q r m) ∙ go _ _ _ _ (in_from a q r m)
      where
        go : (u s v w : ℕ) → s ≡ v + w → u + s ≡ u + v + w
        go u s v w e = omega arith

    in_ring : (r : List WholePlace) (m : List WholeSide) → sum_listed told by (off_ring r m) ≡ sum_ring (off f) r + sum_listed told by m
    unfolding off_ring sum_ring
    in_ring [] m = zero_plus _
      where
        zero_plus : (n : ℕ) → n ≡ 0 + n
        zero_plus n = omega arith
    in_ring (p ∷ r) m = in_from p p r m

    in_all : (rs : List (List WholePlace)) → sum_listed told by (off_all rs) ≡ sum_all (off f) rs
    unfolding off_all sum_all sum_listed
    in_all [] = refl
    in_all (r ∷ rs) = in_ring r (off_all rs) ∙ ap (λ (n : ℕ). sum_ring (off f) r + n) (in_all rs)

  -- how often a side comes, as a sum
  times_listed : (s : WholeSide) (l : List WholeSide) → times_in told s l ≡ sum_listed told (λ u. one_where told s (record { from = u.from; to = u.to })) l
  unfolding times_in sum_listed
  times_listed s [] = refl
  times_listed s (u ∷ l) = ap (λ (n : ℕ). one_where told s u + n) (times_listed s l)

  pub times_sum : (s : WholeSide) (rs : List (List WholePlace)) → times_in told s (off_all rs) ≡ sum_all (off (λ p q. one_where told s (record { from = p; to = q }))) rs
  times_sum s rs = times_listed s (off_all rs) ∙ in_all (λ p q. one_where told s (record { from = p; to = q })) rs

  -- kind 2: no side comes more often than the same side back
  abbrev pub NoSurplus : List (List WholePlace) → Type 0
  NoSurplus rs = (s : WholeSide) → times_in told s (off_all rs) ≤ times_in told (way_back s) (off_all rs)

  pub sides_cancel : (rs : List (List WholePlace)) → NoSurplus rs → (f : OfSide) → sum_all (off f) rs ≡ sum_all (off (λ p q. f q p)) rs
  sides_cancel rs h f = sym (in_all f rs) ∙ cancelled told way_back (λ s. refl) (off_all rs) h (by f) ∙ in_all (λ p q. f q p) rs
