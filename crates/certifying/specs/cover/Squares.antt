-- Theorem: `Near` is said of squared distances.
use Rattle.std.specs.Prelude.{◌≡◌, ℕ, ◌+◌, ◌-◌, ◌*◌, ◌≤◌}
use Rattle.std.proofs.Common.{⊎_elim, arith}
use Rattle.base.specs.common.laws.Decide.{lt_or_ge}
use Rattle.certifying.specs.cover.Sums.{WholePlace}
use Rattle.certifying.specs.cover.Certified.{Near}

-- the square of the difference of two numbers
abbrev pub square_apart : ℕ → ℕ → ℕ
square_apart u w = (u - w + (w - u)) * (u - w + (w - u))

gap_is : (u w : ℕ) → u * u + w * w ≡ square_apart u w + 2 * (u * w)
gap_is u w =
    ⊎_elim
    (λ h. let q : w ≡ u + (w - u) = omega arith in let z : u - w ≡ 0 = omega arith in over u w (w - u) (u - w) q z)
    (λ h. let q : u ≡ w + (u - w) = omega arith in let z : w - u ≡ 0 = omega arith in under u w (u - w) (w - u) q z)
    (lt_or_ge u w)
  where
    over : (u w e f : ℕ) → w ≡ u + e → f ≡ 0 → u * u + w * w ≡ (f + e) * (f + e) + 2 * (u * w)
    over u w e f q z = rw (q, z) (omega arith)

    under : (u w e f : ℕ) → u ≡ w + e → f ≡ 0 → u * u + w * w ≡ (e + f) * (e + f) + 2 * (u * w)
    under u w e f q z = rw (q, z) (omega arith)

abbrev pub squared : WholePlace → WholePlace → ℕ
squared p q = square_apart p.x q.x + square_apart p.y q.y

module _ (s o : WholePlace) (B : ℕ) (q : WholePlace) where
  pub to_near : squared q s ≤ squared q o + B → Near s o B q
  to_near =
      go (square_apart q.x s.x) (square_apart q.y s.y) (square_apart q.x o.x) (square_apart q.y o.y) (gap_is q.x s.x) (gap_is q.y s.y) (gap_is q.x o.x)
      (gap_is q.y o.y)
    where
      go : (e f g h : ℕ) → q.x * q.x + s.x * s.x ≡ e + 2 * (q.x * s.x) → q.y * q.y + s.y * s.y ≡ f + 2 * (q.y * s.y) → q.x * q.x + o.x * o.x ≡ g + 2 * (q.x * o.x)
          → q.y * q.y + o.y * o.y ≡ h + 2 * (q.y * o.y) → e + f ≤ g + h + B → Near s o B q
      go e f g h a b c d k = omega arith

  pub from_near : Near s o B q → squared q s ≤ squared q o + B
  from_near =
      go (square_apart q.x s.x) (square_apart q.y s.y) (square_apart q.x o.x) (square_apart q.y o.y) (gap_is q.x s.x) (gap_is q.y s.y) (gap_is q.x o.x)
      (gap_is q.y o.y)
    where
      go : (e f g h : ℕ) → q.x * q.x + s.x * s.x ≡ e + 2 * (q.x * s.x) → q.y * q.y + s.y * s.y ≡ f + 2 * (q.y * s.y) → q.x * q.x + o.x * o.x ≡ g + 2 * (q.x * o.x)
          → q.y * q.y + o.y * o.y ≡ h + 2 * (q.y * o.y) → Near s o B q → e + f ≤ g + h + B
      go e f g h a b c d k = omega arith
