-- What sums over the sides of rings do: two are added, so many times one is taken, a sum above 0 has a side that is; rings are closed.
use Rattle.std.specs.Prelude.{◌≡◌, ℕ, ◌+◌, ◌*◌, ◌≤◌, ◌<◌}
use Rattle.std.proofs.Math.Path.{refl, ap}
use Rattle.std.proofs.Common.{◌∙◌}
use mathlib.Core.List.{List, [], ◌∷◌}
use Rattle.std.proofs.Math.Logic.{⊎_elim}
use native.Mathlib.Omega.{arith}
use Rattle.base.specs.common.laws.Decide.{lt_or_ge}
use Rattle.certifying.specs.cover.Sums.{WholePlace, OfSide, sum_from, sum_ring, sum_all, EveryCorner}

-- ---- a sum of two
add_from : (f g : OfSide) (a p : WholePlace) (r : List WholePlace) → sum_from (λ x y. f x y + g x y) a p r ≡ sum_from f a p r + sum_from g a p r
unfolding sum_from
add_from f g a p [] = refl
add_from f g a p (q ∷ r) = go (f p q) (g p q) _ _ _ (add_from f g a q r)
  where
    go : (u v s m n : ℕ) → s ≡ m + n → u + v + s ≡ u + m + (v + n)
    go u v s m n e = omega arith

pub add_ring : (f g : OfSide) (r : List WholePlace) → sum_ring (λ x y. f x y + g x y) r ≡ sum_ring f r + sum_ring g r
unfolding sum_ring
add_ring f g [] = refl
add_ring f g (p ∷ r) = add_from f g p p r

pub add_all : (f g : OfSide) (rs : List (List WholePlace)) → sum_all (λ x y. f x y + g x y) rs ≡ sum_all f rs + sum_all g rs
unfolding sum_all
add_all f g [] = refl
add_all f g (r ∷ rs) = go _ _ _ _ _ _ (add_ring f g r) (add_all f g rs)
  where
    go : (a b c d m n : ℕ) → a ≡ c + d → b ≡ m + n → a + b ≡ c + m + (d + n)
    go a b c d m n e h = omega arith

-- ---- so many times a sum
module _ (f : OfSide) (n : ℕ) where
  times_from : (a p : WholePlace) (r : List WholePlace) → sum_from (λ x y. n * f x y) a p r ≡ n * sum_from f a p r
  unfolding sum_from
  times_from a p [] = refl
  times_from a p (q ∷ r) = ap (λ (k : ℕ). n * f p q + k) (times_from a q r) ∙ go (f p q) (sum_from f a q r)
    where
      go : (u v : ℕ) → n * u + n * v ≡ n * (u + v)
      go u v = omega arith

  times_ring : (r : List WholePlace) → sum_ring (λ x y. n * f x y) r ≡ n * sum_ring f r
  unfolding sum_ring
  times_ring [] = none n
    where
      none : (n : ℕ) → 0 ≡ n * 0
      none n = omega arith
  times_ring (p ∷ r) = times_from p p r

  pub times : (rs : List (List WholePlace)) → sum_all (λ x y. n * f x y) rs ≡ n * sum_all f rs
  unfolding sum_all
  times [] = none n
    where
      none : (n : ℕ) → 0 ≡ n * 0
      none n = omega arith
  times (r ∷ rs) = go _ _ _ _ (times_ring r) (times rs)
    where
      go : (a b u v : ℕ) → a ≡ n * u → b ≡ n * v → a + b ≡ n * (u + v)
      go a b u v e g = omega arith

-- ---- equal on every side
module _ (f g : OfSide) (same : (a b : WholePlace) → f a b ≡ g a b) where
  same_from : (a p : WholePlace) (r : List WholePlace) → sum_from f a p r ≡ sum_from g a p r
  unfolding sum_from
  same_from a p [] = same p a
  same_from a p (q ∷ r) = ap (λ (n : ℕ). n + sum_from f a q r) (same p q) ∙ ap (λ (n : ℕ). g p q + n) (same_from a q r)

  pub same_ring : (r : List WholePlace) → sum_ring f r ≡ sum_ring g r
  unfolding sum_ring
  same_ring [] = refl
  same_ring (p ∷ r) = same_from p p r

  pub same_all : (rs : List (List WholePlace)) → sum_all f rs ≡ sum_all g rs
  unfolding sum_all
  same_all [] = refl
  same_all (r ∷ rs) = ap (λ (n : ℕ). n + sum_all f rs) (same_ring r) ∙ ap (λ (n : ℕ). sum_ring g r + n) (same_all rs)

-- ---- a sum above 0 has a side that is
module _ (P : WholePlace → Type 0) (f : OfSide) where
  abbrev pub SideFound : Type 0
  SideFound = (a : WholePlace) × (b : WholePlace) × P a × P b × (0 < f a b)

  found_from : (a p : WholePlace) (r : List WholePlace) → P a → P p → EveryCorner P r → 0 < sum_from f a p r → SideFound
  unfolding sum_from
  found_from a p [] ha hp h m = (p, a, hp, ha, m)
  found_from a p (q ∷ r) ha hp h m = ⊎_elim (λ k. (p, q, hp, h.0, k)) (λ k. found_from a q r ha h.0 h.1 (rest (f p q) (sum_from f a q r) m k)) (lt_or_ge 0 (f p q))
    where
      rest : (u v : ℕ) → 0 < u + v → u ≤ 0 → 0 < v
      rest u v h k = omega arith

  pub found : (r : List WholePlace) → EveryCorner P r → 0 < sum_ring f r → SideFound
  unfolding sum_ring
  found [] h m = absurd (none m)
    where
      none : 0 < 0 → ⊥
      none h = omega arith
  found (p ∷ r) h m = found_from p p r h.0 h.0 h.1 m

-- ---- rings are closed: what is taken where sides start is taken where sides end
module _ (F : WholePlace → ℕ) where
  closed_from : (a p : WholePlace) (r : List WholePlace) → sum_from (λ x y. F x) a p r + F a ≡ F p + sum_from (λ x y. F y) a p r
  unfolding sum_from
  closed_from a p [] = refl
  closed_from a p (q ∷ r) = go (F p) (F q) (F a) _ _ (closed_from a q r)
    where
      go : (u v w m n : ℕ) → m + w ≡ v + n → u + m + w ≡ u + (v + n)
      go u v w m n e = omega arith

  pub closed_ring_lem : (r : List WholePlace) → sum_ring (λ x y. F x) r ≡ sum_ring (λ x y. F y) r
  unfolding sum_ring
  closed_ring_lem [] = refl
  closed_ring_lem (p ∷ r) = go (F p) _ _ (closed_from p p r)
    where
      go : (u m n : ℕ) → m + u ≡ u + n → m ≡ n
      go u m n e = omega arith

  pub closed : (rs : List (List WholePlace)) → sum_all (λ x y. F x) rs ≡ sum_all (λ x y. F y) rs
  unfolding sum_all
  closed [] = refl
  closed (r ∷ rs) = ap (λ (n : ℕ). n + sum_all (λ x y. F x) rs) (closed_ring_lem r) ∙ ap (λ (n : ℕ). sum_ring (λ x y. F y) r + n) (closed rs)
