-- One axis of the bisector's test on whole numbers: a value is the first less the second. `clear`: what lies far enough on one side of all corners takes off at least the product of the two
-- gaps. `gained`: along the other axis at most twice the square of the corners' reach is added. Both hold of the rounded numbers because rounding keeps the order.
use Rattle.std.specs.Prelude.{◌≡◌, ℕ, ◌+◌, ◌-◌, ◌*◌, ◌≤◌, ◌<◌}
use Rattle.std.proofs.Common.{ap, ◌∙◌, ⊎_elim, le_trans, le_of_eq, mul_comm, mul-le-mul, arith}
use Rattle.base.specs.common.laws.Decide.{lt_or_ge}
use Rattle.certifying.specs.windows.laws.Grid.{sum_grid, product_grid, sum_mono, product_mono, sum_none, product_none, sum_twice}

-- ---- small things
none_of : {n : ℕ} → n ≤ 0 → sum_grid n ≡ 0
none_of {n} h = ap sum_grid (nil n h) ∙ sum_none
  where
    nil : (n : ℕ) → n ≤ 0 → n ≡ 0
    nil n h = omega arith

some_of : {n : ℕ} → 0 < sum_grid n → 0 < n
some_of {n} h = ⊎_elim (λ l. absurd (no (sum_grid n) h (none_of (low n l)))) (λ l. l) (lt_or_ge n 1)
  where
    no : (g : ℕ) → 0 < g → g ≡ 0 → ⊥
    no g h e = omega arith

    low : (n : ℕ) → n < 1 → n ≤ 0
    low n l = omega arith

-- ---- the parts of a bisector's term: o - s, and (v - s) + (v - o)
module _ (s s' o o' v v' : ℕ) where
  abbrev pub way_plus : ℕ
  way_plus = sum_grid (o + s' - (o' + s))

  abbrev pub way_minus : ℕ
  way_minus = sum_grid (o' + s - (o + s'))

  abbrev pub twice_plus : ℕ
  twice_plus = sum_grid (sum_grid (v + s' - (v' + s)) + sum_grid (v + o' - (v' + o)) - (sum_grid (v' + s - (v + s')) + sum_grid (v' + o - (v + o'))))

  abbrev pub twice_minus : ℕ
  twice_minus = sum_grid (sum_grid (v' + s - (v + s')) + sum_grid (v' + o - (v + o')) - (sum_grid (v + s' - (v' + s)) + sum_grid (v + o' - (v' + o))))

-- ---- o is at x or beyond, and v at m or before
pub record ClearBy (way twice takenWay takenTwice p q : ℕ) : Type 0 where
  pub far : p ≤ way
  pub back : q ≤ takenTwice
  pub no_way : takenWay ≡ 0
  pub no_twice : twice ≡ 0

module _ (s s' o o' v v' x x' m m' : ℕ) (at : x + o' ≤ x' + o) (to : v + m' ≤ v' + m) where
  abbrev pub first_gap : ℕ
  first_gap = sum_grid (x + s' - (x' + s))

  abbrev pub second_gap : ℕ
  second_gap = sum_grid (sum_grid (x + m' - (x' + m)) + sum_grid (m' + s - (m + s')) - (sum_grid (x' + m - (x + m')) + sum_grid (m + s' - (m' + s))))

  pub clear : 0 < first_gap → 0 < second_gap → ClearBy (way_plus s s' o o' v v') (twice_plus s s' o o' v v') (way_minus s s' o o' v v') (twice_minus s s' o o' v v') first_gap second_gap
  clear g l = record {
    far = sum_mono (omega arith);
    back = sum_mono (less (sum_grid (x + m' - (x' + m))) (sum_grid (x' + m - (x + m'))) (sum_grid (m' + s - (m + s'))) (sum_grid (m + s' - (m' + s))) _ _ _ _ a b c d);
    no_way = none_of (past (some_of g));
    no_twice = none_of (over (sum_grid (x + m' - (x' + m))) (sum_grid (x' + m - (x + m'))) (sum_grid (m' + s - (m + s'))) (sum_grid (m + s' - (m' + s))) _ _ _ _ a b c d (some_of l));
  }
    where
      a : sum_grid (x + m' - (x' + m)) ≤ sum_grid (v' + o - (v + o'))
      a = sum_mono (omega arith)

      b : sum_grid (v + o' - (v' + o)) ≤ sum_grid (x' + m - (x + m'))
      b = sum_mono (omega arith)

      c : sum_grid (m' + s - (m + s')) ≤ sum_grid (v' + s - (v + s'))
      c = sum_mono (omega arith)

      d : sum_grid (v + s' - (v' + s)) ≤ sum_grid (m + s' - (m' + s))
      d = sum_mono (omega arith)

      past : 0 < x + s' - (x' + s) → o' + s - (o + s') ≤ 0
      past h = omega arith

      less : (c₁ c₂ e₁ e₂ a₁ a₂ b₁ b₂ : ℕ) → c₁ ≤ b₂ → b₁ ≤ c₂ → e₁ ≤ a₂ → a₁ ≤ e₂ → c₁ + e₁ - (c₂ + e₂) ≤ a₂ + b₂ - (a₁ + b₁)
      less c₁ c₂ e₁ e₂ a₁ a₂ b₁ b₂ a b c d = omega arith

      over : (c₁ c₂ e₁ e₂ a₁ a₂ b₁ b₂ : ℕ) → c₁ ≤ b₂ → b₁ ≤ c₂ → e₁ ≤ a₂ → a₁ ≤ e₂ → 0 < c₁ + e₁ - (c₂ + e₂) → a₁ + b₁ - (a₂ + b₂) ≤ 0
      over c₁ c₂ e₁ e₂ a₁ a₂ b₁ b₂ a b c d h = omega arith

-- what the term adds and takes off
pub taken_off : {way twice takenWay takenTwice p q : ℕ} → ClearBy way twice takenWay takenTwice p q
    → (product_grid (way * twice + takenWay * takenTwice) ≡ 0) × (product_grid (p * q) ≤ product_grid (way * takenTwice + takenWay * twice))
taken_off {way} {twice} {takenWay} {takenTwice} {p} {q} h = (
  ap product_grid (nil way twice takenWay takenTwice h.no_twice h.no_way) ∙ product_none,
  product_mono (le_trans (mul-le-mul h.far h.back) (most (way * takenTwice) (takenWay * twice))),
)
  where
    nil : (a b c d : ℕ) → b ≡ 0 → c ≡ 0 → a * b + c * d ≡ 0
    nil a b c d e f = rw (e, f) (omega arith)

    most : (a b : ℕ) → a ≤ a + b
    most a b = omega arith

-- ---- any o: the corners are at most u from s
module _ (u : ℕ) (stays : sum_grid u ≤ u) where
  abbrev most : ℕ
  most = sum_grid (2 * u) * u

  nothing : (a b : ℕ) → b ≡ 0 → a * b ≤ most
  nothing a b e = rw e (low a most)
    where
      low : (a n : ℕ) → a * 0 ≤ n
      low a n = omega arith

  half : (s s' o o' v v' : ℕ) → sum_grid (v + s' - (v' + s)) ≤ u → way_plus s s' o o' v v' * twice_plus s s' o o' v v' ≤ most
  half s s' o o' v v' h = ⊎_elim between beyond (lt_or_ge (v + o') (v' + o))
    where
      -- v is at o or past it, or o is before s
      beyond : v' + o ≤ v + o' → way_plus s s' o o' v v' * twice_plus s s' o o' v v' ≤ most
      beyond k = ⊎_elim ahead behind (lt_or_ge (o' + s) (o + s'))
        where
          behind : o + s' ≤ o' + s → way_plus s s' o o' v v' * twice_plus s s' o o' v v' ≤ most
          behind l = le_trans (le_of_eq (mul_comm (way_plus s s' o o' v v') (twice_plus s s' o o' v v'))) (nothing (twice_plus s s' o o' v v') (way_plus s s' o o' v v') (none_of (omega arith)))

          ahead : o' + s < o + s' → way_plus s s' o o' v v' * twice_plus s s' o o' v v' ≤ most
          ahead l =
              let y : way_plus s s' o o' v v' ≤ u = le_trans (sum_mono (omega arith)) h in
              let b : sum_grid (v + o' - (v' + o)) ≤ u = le_trans (sum_mono (omega arith)) h in
              le_trans (mul-le-mul y (sum_mono (two (sum_grid (v + s' - (v' + s))) (sum_grid (v + o' - (v' + o))) _ h b))) (le_of_eq (mul_comm u (sum_grid (2 * u))))
            where
              two : (a b c : ℕ) → a ≤ u → b ≤ u → a + b - c ≤ 2 * u
              two a b c h k = omega arith

      between : v + o' < v' + o → way_plus s s' o o' v v' * twice_plus s s' o o' v v' ≤ most
      between k = ⊎_elim near off (lt_or_ge (v' + o - (v + o')) (v + s' - (v' + s)))
        where
          gone : sum_grid (v + o' - (v' + o)) ≡ 0
          gone = none_of (omega arith)

          off : v + s' - (v' + s) ≤ v' + o - (v + o') → way_plus s s' o o' v v' * twice_plus s s' o o' v v' ≤ most
          off l =
              nothing (way_plus s s' o o' v v') (twice_plus s s' o o' v v')
              (none_of (less (sum_grid (v + s' - (v' + s))) (sum_grid (v + o' - (v' + o))) (sum_grid (v' + s - (v + s'))) (sum_grid (v' + o - (v + o'))) gone (sum_mono l)))
            where
              less : (a b a' b' : ℕ) → b ≡ 0 → a ≤ b' → a + b - (a' + b') ≤ 0
              less a b a' b' e h = omega arith

          near : v' + o - (v + o') < v + s' - (v' + s) → way_plus s s' o o' v v' * twice_plus s s' o o' v v' ≤ most
          near l =
              mul-le-mul
              (le_trans (sum_mono (omega arith)) (le_trans (sum_twice (v + s' - (v' + s))) (sum_mono (double (sum_grid (v + s' - (v' + s))) h))))
              (le_trans (sum_mono (less (sum_grid (v + s' - (v' + s))) (sum_grid (v + o' - (v' + o))) (sum_grid (v' + s - (v + s')) + sum_grid (v' + o - (v + o'))) gone h)) stays)
            where
              double : (a : ℕ) → a ≤ u → 2 * a ≤ 2 * u
              double a h = omega arith

              less : (a b c : ℕ) → b ≡ 0 → a ≤ u → a + b - c ≤ u
              less a b c e h = omega arith

  -- what the term adds
  pub gained : (s s' o o' v v' : ℕ) → sum_grid (v + s' - (v' + s)) ≤ u → sum_grid (v' + s - (v + s')) ≤ u
      → product_grid (way_plus s s' o o' v v' * twice_plus s s' o o' v v' + way_minus s s' o o' v v' * twice_minus s s' o o' v v') ≤ product_grid (sum_grid (2 * u) * u)
  gained s s' o o' v v' h k = product_mono (⊎_elim ahead behind (lt_or_ge (o' + s) (o + s')))
    where
      one : (a b c d n : ℕ) → a * b ≤ n → c ≡ 0 → a * b + c * d ≤ n
      one a b c d n h e = rw e (omega arith)

      other : (a b c d n : ℕ) → c * d ≤ n → a ≡ 0 → a * b + c * d ≤ n
      other a b c d n h e = rw e (omega arith)

      ahead : o' + s < o + s' → way_plus s s' o o' v v' * twice_plus s s' o o' v v' + way_minus s s' o o' v v' * twice_minus s s' o o' v v' ≤ most
      ahead l = one (way_plus s s' o o' v v') (twice_plus s s' o o' v v') (way_minus s s' o o' v v') (twice_minus s s' o o' v v') most (half s s' o o' v v' h) (none_of (omega arith))

      behind : o + s' ≤ o' + s → way_plus s s' o o' v v' * twice_plus s s' o o' v v' + way_minus s s' o o' v v' * twice_minus s s' o o' v v' ≤ most
      behind l = other (way_plus s s' o o' v v') (twice_plus s s' o o' v v') (way_minus s s' o o' v v') (twice_minus s s' o o' v v') most (half s' s o' o v' v k) (none_of (omega arith))
