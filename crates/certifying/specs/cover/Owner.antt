-- Theorem: what is linear and at most so much at every corner of a ring is at most so much at every place of winding other than 0.
use Rattle.std.specs.Prelude.{◌≡◌, Bool, List, ◌⊎◌, ℕ, suc, ◌+◌, ◌-◌, ◌*◌, ◌≤◌, ◌<◌}
use Rattle.std.proofs.Math.Path.{refl}
use Rattle.std.proofs.Common.{sym, ◌∙◌, inl, inr, ⊎_elim, mul-le-mul_left}
use Rattle.std.proofs.Math.Bool.{true, false}
use native.Mathlib.Omega.{arith}
use Rattle.std.proofs.Math.Dec.{ltb, leb}
use borrow.Author.Tests.{ltb-true, ltb-false, leb-true, leb-false}
use Rattle.base.specs.common.Pick.{pick}
use Rattle.base.specs.common.laws.Decide.{lt_or_ge}
use Rattle.certifying.specs.cover.Sums.{WholePlace, OfSide, sum_ring, EveryCorner}
use Rattle.certifying.specs.cover.laws.Adding.{add_ring, same_ring, closed_ring_lem, found}
use Rattle.certifying.specs.cover.Cover.{comes_up}

-- ---- on whole numbers: a side from (ax, by + z + w) up to (bx, by), which passes the height by + z
module _ (g D D' c c' X ax bx by z w : ℕ) where
  met : (w + z) * X ≤ bx * w + ax * z → g * ax + D * (by + z + w) + c ≤ D' * (by + z + w) + c' → g * bx + D * by + c ≤ D' * by + c' → 0 < w
      → D' * (by + z) + c' < g * X + D * (by + z) + c → ⊥
  met right at_a at_b pos h = sum (mul-le-mul_left g right) (mul-le-mul_left z at_a) (mul-le-mul_left w at_b) (mul-le-mul_left (w + z) h) pos
    where
      sum : g * ((w + z) * X) ≤ g * (bx * w + ax * z) → z * (g * ax + D * (by + z + w) + c) ≤ z * (D' * (by + z + w) + c')
          → w * (g * bx + D * by + c) ≤ w * (D' * by + c') → (w + z) * suc (D' * (by + z) + c') ≤ (w + z) * (g * X + D * (by + z) + c) → 0 < w → ⊥
      sum p q r s t = omega (arith, p, q, r, s, t)

  missed : bx * w + ax * z ≤ (w + z) * X → D * (by + z + w) + c ≤ g * ax + D' * (by + z + w) + c' → D * by + c ≤ g * bx + D' * by + c' → 0 < w
      → g * X + D' * (by + z) + c' < D * (by + z) + c → ⊥
  missed left at_a at_b pos h = sum (mul-le-mul_left g left) (mul-le-mul_left z at_a) (mul-le-mul_left w at_b) (mul-le-mul_left (w + z) h) pos
    where
      sum : g * (bx * w + ax * z) ≤ g * ((w + z) * X) → z * (D * (by + z + w) + c) ≤ z * (g * ax + D' * (by + z + w) + c')
          → w * (D * by + c) ≤ w * (g * bx + D' * by + c') → (w + z) * suc (g * X + D' * (by + z) + c') ≤ (w + z) * (D * (by + z) + c) → 0 < w → ⊥
      sum p q r s t = omega (arith, p, q, r, s, t)

-- ---- a side that passes the height, and is not right of X
unfoldable pub past : ℕ → ℕ → OfSide
past X Y a b =
    pick (leb b.y Y)
    (λ _. pick (ltb Y a.y) (λ _. pick (ltb (a.y * X + b.x * Y + a.x * b.y) (b.y * X + b.x * a.y + a.x * Y)) (λ _. 0) (λ _. 1)) (λ _. 0))
    (λ _. 0)

unfoldable level : ℕ → WholePlace → ℕ
level Y q = pick (leb q.y Y) (λ _. 1) (λ _. 0)

none : {A : Type 0} → 0 < 0 → A
none h = absurd (go h)
  where
    go : 0 < 0 → ⊥
    go h = omega arith

module _ (X Y : ℕ) (a b : WholePlace) where
  abbrev here : ℕ
  here = a.y * X + b.x * Y + a.x * b.y

  abbrev there : ℕ
  there = b.y * X + b.x * a.y + a.x * Y

  up_says : 0 < comes_up X Y a b → (b.y ≤ Y) × (Y < a.y) × (here ≤ there)
  unfolding comes_up
  up_says = go (leb b.y Y) (ltb Y a.y) (ltb here there) refl refl refl
    where
      le : (m n : ℕ) → m < n → m ≤ n
      le m n h = omega arith

      go : (u v w : Bool) → leb b.y Y ≡ u → ltb Y a.y ≡ v → ltb here there ≡ w
          → 0 < pick u (λ _. pick v (λ _. pick w (λ _. 1) (λ _. 0)) (λ _. 0)) (λ _. 0) → (b.y ≤ Y) × (Y < a.y) × (here ≤ there)
      go true true true e f g h = (leb-true b.y Y e, ltb-true Y a.y f, le here there (ltb-true here there g))
      go true true false e f g h = none h
      go true false w e f g h = none h
      go false v w e f g h = none h

  past_says : 0 < past X Y a b → (b.y ≤ Y) × (Y < a.y) × (there ≤ here)
  unfolding past
  past_says = go (leb b.y Y) (ltb Y a.y) (ltb here there) refl refl refl
    where
      go : (u v w : Bool) → leb b.y Y ≡ u → ltb Y a.y ≡ v → ltb here there ≡ w
          → 0 < pick u (λ _. pick v (λ _. pick w (λ _. 0) (λ _. 1)) (λ _. 0)) (λ _. 0) → (b.y ≤ Y) × (Y < a.y) × (there ≤ here)
      go true true false e f g h = (leb-true b.y Y e, ltb-true Y a.y f, ltb-false here there g)
      go true true true e f g h = none h
      go true false w e f g h = none h
      go false v w e f g h = none h

  -- right or not: the height is passed once
  passed : comes_up X Y a b + past X Y a b ≡ pick (leb b.y Y) (λ _. pick (leb a.y Y) (λ _. 0) (λ _. 1)) (λ _. 0)
  unfolding comes_up past
  passed = go (leb b.y Y) (ltb Y a.y) (leb a.y Y) (ltb here there) refl refl
    where
      clash : (v : Bool) → ltb Y a.y ≡ v → leb a.y Y ≡ v → ⊥
      clash true e f = both a.y (ltb-true Y a.y e) (leb-true a.y Y f)
        where
          both : (n : ℕ) → Y < n → n ≤ Y → ⊥
          both n h k = omega arith
      clash false e f = both a.y (ltb-false Y a.y e) (leb-false a.y Y f)
        where
          both : (n : ℕ) → n ≤ Y → Y < n → ⊥
          both n h k = omega arith

      go : (u v x w : Bool) → ltb Y a.y ≡ v → leb a.y Y ≡ x
          → pick u (λ _. pick v (λ _. pick w (λ _. 1) (λ _. 0)) (λ _. 0)) (λ _. 0) + pick u (λ _. pick v (λ _. pick w (λ _. 0) (λ _. 1)) (λ _. 0)) (λ _. 0)
          ≡ pick u (λ _. pick x (λ _. 0) (λ _. 1)) (λ _. 0)
      go false v x w e f = refl
      go true true true w e f = absurd (clash true e f)
      go true false false w e f = absurd (clash false e f)
      go true true false true e f = refl
      go true true false false e f = refl
      go true false true w e f = refl

even : (Y : ℕ) (p q : WholePlace)
    → pick (leb q.y Y) (λ _. pick (leb p.y Y) (λ _. 0) (λ _. 1)) (λ _. 0) + level Y p ≡ pick (leb p.y Y) (λ _. pick (leb q.y Y) (λ _. 0) (λ _. 1)) (λ _. 0) + level Y q
unfolding level
even Y p q = go (leb p.y Y) (leb q.y Y)
  where
    go : (x u : Bool) → pick u (λ _. pick x (λ _. 0) (λ _. 1)) (λ _. 0) + pick x (λ _. 1) (λ _. 0) ≡ pick x (λ _. pick u (λ _. 0) (λ _. 1)) (λ _. 0) + pick u (λ _. 1) (λ _. 0)
    go true true = refl
    go true false = refl
    go false true = refl
    go false false = refl

module _ (X Y : ℕ) (r : List WholePlace) where
  abbrev side_back : OfSide → OfSide
  side_back f p q = f q p

  -- as often up as down, right or not
  balance : sum_ring (comes_up X Y) r + sum_ring (past X Y) r ≡ sum_ring (side_back (comes_up X Y)) r + sum_ring (side_back (past X Y)) r
  balance =
      go _ _ _ _ _ _ (sym (add_ring (λ p q. comes_up X Y p q + past X Y p q) (λ p q. level Y p) r) ∙ same_ring _ _ each r ∙ add_ring (λ p q. comes_up X Y q p + past X Y q p) (λ p q. level Y q) r)
      (closed_ring_lem (level Y) r) (add_ring (comes_up X Y) (past X Y) r) (add_ring (side_back (comes_up X Y)) (side_back (past X Y)) r)
    where
      go : (a b c d e f : ℕ) → a + c ≡ b + d → c ≡ d → a ≡ e → b ≡ f → e ≡ f
      go a b c d e f x y z w = omega arith

      each : (p q : WholePlace) → comes_up X Y p q + past X Y p q + level Y p ≡ comes_up X Y q p + past X Y q p + level Y q
      each p q = rw (passed X Y p q, passed X Y q p) (even Y p q)

  -- at most so much at every corner, at a place that is passed more often one way than the other: at most so much there
  module _ (A A' D D' c c' : ℕ) where
    abbrev pub KeptLinear : WholePlace → Type 0
    KeptLinear q = A * q.x + D * q.y + c ≤ A' * q.x + D' * q.y + c'

    abbrev pub There : Type 0
    There = A * X + D * Y + c ≤ A' * X + D' * Y + c'

    by_right : A' ≤ A → (a b : WholePlace) → KeptLinear a → KeptLinear b → (b.y ≤ Y) × (Y < a.y) × (a.y * X + b.x * Y + a.x * b.y ≤ b.y * X + b.x * a.y + a.x * Y) → There
    by_right grows a b at_a at_b h =
        ⊎_elim
        (λ k. absurd (go (A - A') (Y - b.y) (a.y - Y) A Y a.y a.x b.x b.y (omega arith) (omega (arith, h.0)) (omega (arith, h.1)) (omega (arith, h.1)) at_a at_b h.2 k))
        (λ k. k)
        (lt_or_ge (A' * X + D' * Y + c') (A * X + D * Y + c))
      where
        go : (g z w A Y ay ax bx by : ℕ) → A ≡ A' + g → Y ≡ by + z → ay ≡ Y + w → 0 < w → A * ax + D * ay + c ≤ A' * ax + D' * ay + c' → A * bx + D * by + c ≤ A' * bx + D' * by + c'
            → ay * X + bx * Y + ax * by ≤ by * X + bx * ay + ax * Y → A' * X + D' * Y + c' < A * X + D * Y + c → ⊥
        go g z w A Y ay ax bx by e f k pos = rw (e, k, f) (λ p q m n. met g D D' c c' X ax bx by z w (omega (arith, m)) (omega (arith, p)) (omega (arith, q)) pos (omega (arith, n)))

    by_left : A ≤ A' → (a b : WholePlace) → KeptLinear a → KeptLinear b → (b.y ≤ Y) × (Y < a.y) × (b.y * X + b.x * a.y + a.x * Y ≤ a.y * X + b.x * Y + a.x * b.y) → There
    by_left falls a b at_a at_b h =
        ⊎_elim
        (λ k. absurd (go (A' - A) (Y - b.y) (a.y - Y) A' Y a.y a.x b.x b.y (omega arith) (omega (arith, h.0)) (omega (arith, h.1)) (omega (arith, h.1)) at_a at_b h.2 k))
        (λ k. k)
        (lt_or_ge (A' * X + D' * Y + c') (A * X + D * Y + c))
      where
        go : (g z w A' Y ay ax bx by : ℕ) → A' ≡ A + g → Y ≡ by + z → ay ≡ Y + w → 0 < w → A * ax + D * ay + c ≤ A' * ax + D' * ay + c' → A * bx + D * by + c ≤ A' * bx + D' * by + c'
            → by * X + bx * ay + ax * Y ≤ ay * X + bx * Y + ax * by → A' * X + D' * Y + c' < A * X + D * Y + c → ⊥
        go g z w A' Y ay ax bx by e f k pos = rw (e, k, f) (λ p q m n. missed g D D' c c' X ax bx by z w (omega (arith, m)) (omega (arith, p)) (omega (arith, q)) pos (omega (arith, n)))

    pub within : EveryCorner KeptLinear r → (sum_ring (comes_up X Y) r ≡ sum_ring (side_back (comes_up X Y)) r → ⊥) → There
    within corners uneven = ⊎_elim falling growing (lt_or_ge A A')
      where
        one_of : (m n : ℕ) → (m ≡ n → ⊥) → (0 < m) ⊎ (0 < n)
        one_of m n h = ⊎_elim inl (λ k. ⊎_elim inr (λ l. absurd (h (zeros m n k l))) (lt_or_ge 0 n)) (lt_or_ge 0 m)
          where
            zeros : (m n : ℕ) → m ≤ 0 → n ≤ 0 → m ≡ n
            zeros m n h k = omega arith

        other : (u v m n : ℕ) → u + m ≡ v + n → (u ≡ v → ⊥) → m ≡ n → ⊥
        other u v m n e h k = h (omega arith)

        le : (m n : ℕ) → m < n → m ≤ n
        le m n h = omega arith

        growing : A' ≤ A → There
        growing g =
            ⊎_elim
            (λ m. let s = found KeptLinear (comes_up X Y) r corners m in by_right g s.0 s.1 s.2 s.3 (up_says X Y s.0 s.1 s.4))
            (λ m. let s = found KeptLinear (side_back (comes_up X Y)) r corners m in by_right g s.1 s.0 s.3 s.2 (up_says X Y s.1 s.0 s.4))
            (one_of _ _ uneven)

        falling : A < A' → There
        falling g =
            ⊎_elim
            (λ m. let s = found KeptLinear (past X Y) r corners m in by_left (le A A' g) s.0 s.1 s.2 s.3 (past_says X Y s.0 s.1 s.4))
            (λ m. let s = found KeptLinear (side_back (past X Y)) r corners m in by_left (le A A' g) s.1 s.0 s.3 s.2 (past_says X Y s.1 s.0 s.4))
            (one_of _ _ (other _ _ _ _ balance uneven))
