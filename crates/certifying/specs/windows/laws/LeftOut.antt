-- Theorem: where a window passes the test of a corner, the corner is beyond no bisector with what stands at an edge of the window or past it, whatever the tolerance (`left_out`).
use Rattle.std.specs.Prelude.{◌≡◌, Bool, cond, ◌&&◌, ◌||◌, List, ◌⊎◌, ℕ, zero, suc, ◌+◌, ◌-◌, ◌*◌, ◌≤◌, ◌<◌, T, ltb, Float, get_or}
use Rattle.std.proofs.Math.Path.{refl, ap}
use Rattle.std.proofs.Common.{sym, ◌∙◌, subst, le_of_eq, add_comm, lit≤, le-ltb}
use Rattle.std.proofs.Math.Bool.{true, false}
use Rattle.std.proofs.Math.Logic.{inl, inr, ⊎_elim}
use Prim.{tt}
use Rattle.std.proofs.Math.Nat.{le_trans}
use native.Mathlib.Omega.{arith}
use Rattle.std.specs.Float.{nan, inf, fin, binary64}
use Rattle.std.specs.Float.Ieee.{up, down, fits, lt, le, of_bits}
use Rattle.std.specs.Float.Ieee.Scale.{finite}
use Rattle.base.specs.common.Pick.{pick}
use Rattle.root.specs.laws.UnitBounds.{some_units}
use Rattle.ring_area.specs.lowest.laws.Loops.{no_both}
use Rattle.base.specs.common.Binary64.{◌⊞◌, ◌⊟◌, ◌⊠◌}
use Rattle.base.specs.common.Binary64 as B
use Rattle.base.specs.common.laws.And.{and_left, and_right}
use Rattle.root.specs.Root.{units, magnitude}
use Rattle.ring_area.specs.Area.{below}
use Rattle.base.specs.common.laws.Decide.{lt_or_ge}
use Rattle.plane.specs.points.Flat.{point_at}
use Rattle.plane.specs.declared.points.Point.{Point}
use Rattle.auditing.specs.nearer.Nearer.{beyond}
use Rattle.audit_truth.specs.Exact.{plus_units, minus_units}
use Rattle.audit_truth.specs.Held.{HeldWithin, HeldPoint}
use Rattle.audit_truth.specs.laws.Parts.{not_over, lt_turned, le_turned}
use Rattle.audit_truth.specs.laws.Sides.{held_finite, sub_held, add_held, mul_held, bisector_part, coordinate_held}
use Rattle.certifying.specs.call.Verdict.{larger_of}
use Rattle.certifying.specs.declared.windows.Window.{Window}
use Rattle.certifying.specs.windows.Windows.{NotMinus, NotAbove, clear_of, most_of, kept_along, window_kept, off_of, EdgesHeld, OffWindow}
use Rattle.certifying.specs.windows.laws.Axes.{way_plus, way_minus, twice_plus, twice_minus, clear, taken_off, gained}
use Rattle.certifying.specs.windows.laws.Grid.{sum_grid, product_grid, sum_mono, product_mono, sum_none, sum_held}
use Rattle.certifying.specs.windows.laws.Plus.{magnitude_plus, add_plus, mul_plus, not_above}
use Rattle.certifying.specs.windows.laws.Sums.{SumIs, ProductIs, add_is, sub_is, mul_is}

-- ---- the order of two values, on whole numbers
pub at_most_trans : (x y z : Float) → NotAbove x y → NotAbove y z → NotAbove x z
at_most_trans x y z = go (plus_units x) (minus_units x) (plus_units y) (minus_units y) (plus_units z) (minus_units z)
  where
    go : (x x' y y' z z' : ℕ) → x + y' ≤ x' + y → y + z' ≤ y' + z → x + z' ≤ x' + z
    go x x' y y' z z' h k = omega arith

pub at_most_self : (x : Float) → NotAbove x x
at_most_self x = go (plus_units x) (minus_units x)
  where
    go : (x x' : ℕ) → x + x' ≤ x' + x
    go x x' = omega arith

module _ (i j : ℕ) (x y : Float) (h : HeldWithin i x) (g : HeldWithin j y) where
  pub at_most_of_le : le x y ≡ true → NotAbove x y
  at_most_of_le e = not_over x y (held_finite h) (held_finite g) (le_turned x y e)

  pub at_most_of_not : lt y x ≡ false → NotAbove x y
  at_most_of_not e = not_over x y (held_finite h) (held_finite g) e

  pub at_most_of_lt : lt x y ≡ true → NotAbove x y
  at_most_of_lt e = not_over x y (held_finite h) (held_finite g) (lt_turned x y e)

-- ---- operations on such values
module _ (k : ℕ) (x y : Float) (h : HeldWithin k x) (g : HeldWithin k y) (r : suc k ≤ 1023) where
  sub_sum : SumIs (x ⊟ y) (plus_units x + minus_units y) (minus_units x + plus_units y)
  sub_sum = sub_is x y h.held g.held (held_finite h) (held_finite g) (held_finite (sub_held k x y h g r))

  add_sum : SumIs (x ⊞ y) (plus_units x + plus_units y) (minus_units x + minus_units y)
  add_sum = add_is x y h.held g.held (held_finite h) (held_finite g) (held_finite (add_held k x y h g r))

module _ (i j : ℕ) (x y : Float) (h : HeldWithin i x) (g : HeldWithin j y) (r : i + j ≤ 1023) where
  mul_product : ProductIs (x ⊠ y) x y
  mul_product = mul_is x y h.held g.held (held_finite h) (held_finite g) (held_finite (mul_held i j x y h g r))

-- ---- parts
plus_up : (x y : Float) → NotAbove x y → plus_units x ≤ plus_units y
plus_up x y h = go (below x) (below y) (units x) (units y) h
  where
    go : (s t : Bool) (u w : ℕ) → cond s 0 u + cond t w 0 ≤ cond s u 0 + cond t 0 w → cond s 0 u ≤ cond t 0 w
    go true t u w h = omega arith
    go false true u w h = omega arith
    go false false u w h = omega arith

one_part : (x : Float) → 0 < plus_units x → minus_units x ≡ 0
one_part x h = go (below x) (units x) h
  where
    go : (s : Bool) (u : ℕ) → 0 < cond s 0 u → cond s u 0 ≡ 0
    go true u h = omega arith
    go false u h = refl

above_none : (x : Float) → T (fits binary64 x) → T (finite x) → lt B.zero x ≡ true → 0 < plus_units x
unfolding lt of_bits
above_none nan f t e = absurd t
above_none (inf s) f t e = absurd t
above_none (fin true m d) f t e = absurd (no_both (sym e))
above_none (fin false zero d) f t e = absurd (no_both (sym e ∙ nothing (up d) (down d)))
  where
    nothing : (a b : ℕ) → ltb (0 * b) (0 * a * 1) ≡ false
    nothing a b = le-ltb (0 * b) (0 * a * 1) (omega arith)
above_none (fin false (suc m) d) f t e = some_units m d f

-- larger than both
module _ {k : ℕ} (x y : Float) (h : HeldWithin k x) (g : HeldWithin k y) where
  larger_held : HeldWithin k (larger_of x y)
  unfolding larger_of
  larger_held = go (lt x y)
    where
      go : (t : Bool) → HeldWithin k (pick t (λ _. y) (λ _. x))
      go true = g
      go false = h

  larger_both : NotAbove x (larger_of x y) × NotAbove y (larger_of x y)
  unfolding larger_of
  larger_both = go (lt x y) refl
    where
      same : (z : Float) → NotAbove z z
      same z = omega arith

      go : (t : Bool) → lt x y ≡ t → NotAbove x (pick t (λ _. y) (λ _. x)) × NotAbove y (pick t (λ _. y) (λ _. x))
      go true e = (at_most_of_lt k k x y h g e, same y)
      go false e = (same x, at_most_of_not k k y x g h e)

stays : {k : ℕ} (x : Float) → HeldWithin k x → sum_grid (plus_units x) ≤ plus_units x
stays x h = go (below x) (units x) (sum_held x h.held (held_finite h))
  where
    go : (t : Bool) (u : ℕ) → sum_grid u ≤ u → sum_grid (cond t 0 u) ≤ cond t 0 u
    go true u h = le_of_eq sum_none
    go false u h = h

-- twice the square of what is not below 0
twice_square : (x : Float) → HeldWithin 401 x → product_grid (sum_grid (2 * plus_units x) * plus_units x) ≤ plus_units ((x ⊞ x) ⊠ x)
twice_square x h =
    let a = add_sum 401 x x h h (lit≤ tt) in
    let p = mul_product 402 401 (x ⊞ x) x (add_held 401 x x h h (lit≤ tt)) h (lit≤ tt) in
    le_trans (product_mono (le_trans (go (below x) (units x)) (le_of_eq (ap (λ (n : ℕ). n * plus_units x) (sym a.plus)))))
    (le_trans (product_mono (most (plus_units (x ⊞ x) * plus_units x) (minus_units (x ⊞ x) * minus_units x))) (le_of_eq (sym p.plus)))
  where
    most : (a b : ℕ) → a ≤ a + b
    most a b = omega arith

    go : (t : Bool) (u : ℕ) → sum_grid (2 * cond t 0 u) * cond t 0 u ≤ sum_grid (cond t 0 u + cond t 0 u - (cond t u 0 + cond t u 0)) * cond t 0 u
    go true u = none (sum_grid (2 * 0)) (sum_grid (0 + 0 - (u + u)))
      where
        none : (a b : ℕ) → a * 0 ≤ b * 0
        none a b = omega arith
    go false u = le_of_eq (ap (λ (n : ℕ). sum_grid n * u) (twice u))
      where
        twice : (u : ℕ) → 2 * u ≡ u + u - (0 + 0)
        twice u = omega arith

-- ---- two gaps whose product is at least so much
record Gaps (gap left : ℕ) (most : Float) : Type 0 where
  first : 0 < gap
  second : 0 < left
  within : plus_units most ≤ product_grid (gap * left)

gaps : (p q most : Float) {gap left : ℕ} → HeldWithin 401 p → HeldWithin 402 q → HeldWithin 803 most → plus_units p ≡ gap → plus_units q ≡ left → clear_of p q most ≡ true → Gaps gap left most
unfolding clear_of
gaps p q most {gap} {left} hp hq hm e f t =
    let ab = and_left (lt B.zero p && lt B.zero q) (le most (p ⊠ q)) t in
    let a = and_left (lt B.zero p) (lt B.zero q) ab in
    let b = and_right (lt B.zero p) (lt B.zero q) ab in
    let c = and_right (lt B.zero p && lt B.zero q) (le most (p ⊠ q)) t in
    let i = above_none p hp.held (held_finite hp) a in
    let j = above_none q hq.held (held_finite hq) b in
    let z = mul_product 401 402 p q hp hq (lit≤ tt) in
    let k = plus_up most (p ⊠ q) (at_most_of_le 803 803 most (p ⊠ q) hm (mul_held 401 402 p q hp hq (lit≤ tt)) c) in
    record {
      first = subst (λ (n : ℕ). 0 < n) e i;
      second = subst (λ (n : ℕ). 0 < n) f j;
      within = le_trans k (le_of_eq (z.plus ∙ parts (minus_units q) e f (one_part p i)));
    }
  where
    parts : (d : ℕ) {a b c a₁ b₁ : ℕ} → a ≡ a₁ → b ≡ b₁ → c ≡ 0 → product_grid (a * b + c * d) ≡ product_grid (a₁ * b₁)
    parts d e f g = rw (e, f, g) (ap product_grid (omega arith))

record TakesOff (most term : Float) : Type 0 where
  adds : plus_units term ≡ 0
  takes : plus_units most ≤ minus_units term

-- ---- one coordinate of the test
module _ (v s o : Float) (hv : HeldWithin 400 v) (hs : HeldWithin 400 s) (ho : HeldWithin 400 o) where
  abbrev S : ℕ
  S = plus_units s

  abbrev S' : ℕ
  S' = minus_units s

  abbrev O : ℕ
  O = plus_units o

  abbrev O' : ℕ
  O' = minus_units o

  abbrev C : ℕ
  C = plus_units v

  abbrev C' : ℕ
  C' = minus_units v

  way : SumIs (o ⊟ s) (O + S') (O' + S)
  way = sub_sum 400 o s ho hs (lit≤ tt)

  own : SumIs (v ⊟ s) (C + S') (C' + S)
  own = sub_sum 400 v s hv hs (lit≤ tt)

  other : SumIs (v ⊟ o) (C + O') (C' + O)
  other = sub_sum 400 v o hv ho (lit≤ tt)

  own_held : HeldWithin 401 (v ⊟ s)
  own_held = sub_held 400 v s hv hs (lit≤ tt)

  other_held : HeldWithin 401 (v ⊟ o)
  other_held = sub_held 400 v o hv ho (lit≤ tt)

  twice : SumIs ((v ⊟ s) ⊞ (v ⊟ o)) (plus_units (v ⊟ s) + plus_units (v ⊟ o)) (minus_units (v ⊟ s) + minus_units (v ⊟ o))
  twice = add_sum 401 (v ⊟ s) (v ⊟ o) own_held other_held (lit≤ tt)

  twice_held : HeldWithin 402 ((v ⊟ s) ⊞ (v ⊟ o))
  twice_held = add_held 401 (v ⊟ s) (v ⊟ o) own_held other_held (lit≤ tt)

  twice_plus_lem : plus_units ((v ⊟ s) ⊞ (v ⊟ o)) ≡ twice_plus S S' O O' C C'
  twice_plus_lem = twice.plus ∙ parts own.plus other.plus own.minus other.minus
    where
      parts : {a b c d a₁ b₁ c₁ d₁ : ℕ} → a ≡ a₁ → b ≡ b₁ → c ≡ c₁ → d ≡ d₁ → sum_grid (a + b - (c + d)) ≡ sum_grid (a₁ + b₁ - (c₁ + d₁))
      parts e f g h = rw (e, f, g, h) refl

  twice_minus_lem : minus_units ((v ⊟ s) ⊞ (v ⊟ o)) ≡ twice_minus S S' O O' C C'
  twice_minus_lem = twice.minus ∙ parts own.plus other.plus own.minus other.minus
    where
      parts : {a b c d a₁ b₁ c₁ d₁ : ℕ} → a ≡ a₁ → b ≡ b₁ → c ≡ c₁ → d ≡ d₁ → sum_grid (c + d - (a + b)) ≡ sum_grid (c₁ + d₁ - (a₁ + b₁))
      parts e f g h = rw (e, f, g, h) refl

  term : ProductIs (bisector_part v s o) (o ⊟ s) ((v ⊟ s) ⊞ (v ⊟ o))
  term = mul_product 401 402 (o ⊟ s) ((v ⊟ s) ⊞ (v ⊟ o)) (sub_held 400 o s ho hs (lit≤ tt)) twice_held (lit≤ tt)

  term_plus : plus_units (bisector_part v s o) ≡ product_grid (way_plus S S' O O' C C' * twice_plus S S' O O' C C' + way_minus S S' O O' C C' * twice_minus S S' O O' C C')
  term_plus = term.plus ∙ parts way.plus way.minus twice_plus_lem twice_minus_lem
    where
      parts : {a b c d a₁ b₁ c₁ d₁ : ℕ} → a ≡ a₁ → b ≡ b₁ → c ≡ c₁ → d ≡ d₁ → product_grid (a * c + b * d) ≡ product_grid (a₁ * c₁ + b₁ * d₁)
      parts e f g h = rw (e, f, g, h) refl

  term_minus : minus_units (bisector_part v s o) ≡ product_grid (way_plus S S' O O' C C' * twice_minus S S' O O' C C' + way_minus S S' O O' C C' * twice_plus S S' O O' C C')
  term_minus = term.minus ∙ parts way.plus way.minus twice_plus_lem twice_minus_lem
    where
      parts : {a b c d a₁ b₁ c₁ d₁ : ℕ} → a ≡ a₁ → b ≡ b₁ → c ≡ c₁ → d ≡ d₁ → product_grid (a * d + b * c) ≡ product_grid (a₁ * d₁ + b₁ * c₁)
      parts e f g h = rw (e, f, g, h) refl

  -- ---- o is at x or beyond, and v at m or before; and the other way round
  module _ (x m most : Float) (hx : HeldWithin 400 x) (hm : HeldWithin 400 m) (hw : HeldWithin 803 most) where
    abbrev X : ℕ
    X = plus_units x

    abbrev X' : ℕ
    X' = minus_units x

    abbrev M : ℕ
    M = plus_units m

    abbrev M' : ℕ
    M' = minus_units m

    ahead : NotAbove x o → NotAbove v m → clear_of (x ⊟ s) ((x ⊟ m) ⊟ (m ⊟ s)) most ≡ true → TakesOff most (bisector_part v s o)
    ahead at to e =
        let g = sub_sum 400 x s hx hs (lit≤ tt) in
        let c = sub_sum 400 x m hx hm (lit≤ tt) in
        let d = sub_sum 400 m s hm hs (lit≤ tt) in
        let hc = sub_held 400 x m hx hm (lit≤ tt) in
        let hd = sub_held 400 m s hm hs (lit≤ tt) in
        let q = sub_sum 401 (x ⊟ m) (m ⊟ s) hc hd (lit≤ tt) in
        let k = gaps (x ⊟ s) ((x ⊟ m) ⊟ (m ⊟ s)) most (sub_held 400 x s hx hs (lit≤ tt)) (sub_held 401 (x ⊟ m) (m ⊟ s) hc hd (lit≤ tt)) hw g.plus
        (q.plus ∙ parts c.plus d.minus c.minus d.plus) e in
        let t = taken_off (clear S S' O O' C C' X X' M M' (turn X O' X' O at) (turn C M' C' M to) k.first k.second) in
        record { adds = term_plus ∙ t.0; takes = le_trans k.within (le_trans t.1 (le_of_eq (sym term_minus))) }
      where
        parts : {a b c d a₁ b₁ c₁ d₁ : ℕ} → a ≡ a₁ → b ≡ b₁ → c ≡ c₁ → d ≡ d₁ → sum_grid (a + b - (c + d)) ≡ sum_grid (a₁ + b₁ - (c₁ + d₁))
        parts e f g h = rw (e, f, g, h) refl

        turn : (a b c d : ℕ) → a + b ≤ c + d → a + b ≤ c + d
        turn a b c d h = h

    behind : NotAbove o x → NotAbove m v → clear_of (s ⊟ x) ((m ⊟ x) ⊟ (s ⊟ m)) most ≡ true → TakesOff most (bisector_part v s o)
    behind at to e =
        let g = sub_sum 400 s x hs hx (lit≤ tt) in
        let c = sub_sum 400 m x hm hx (lit≤ tt) in
        let d = sub_sum 400 s m hs hm (lit≤ tt) in
        let hc = sub_held 400 m x hm hx (lit≤ tt) in
        let hd = sub_held 400 s m hs hm (lit≤ tt) in
        let q = sub_sum 401 (m ⊟ x) (s ⊟ m) hc hd (lit≤ tt) in
        let k = gaps (s ⊟ x) ((m ⊟ x) ⊟ (s ⊟ m)) most (sub_held 400 s x hs hx (lit≤ tt)) (sub_held 401 (m ⊟ x) (s ⊟ m) hc hd (lit≤ tt)) hw (g.plus ∙ swap S X' S' X)
        (q.plus ∙ parts (c.plus ∙ swap M X' M' X) (d.minus ∙ swap S' M S M') (c.minus ∙ swap M' X M X') (d.plus ∙ swap S M' S' M)) e in
        let t = taken_off (clear S' S O' O C' C X' X M' M (turn O X' O' X at) (turn M C' M' C to) k.first k.second) in
        record {
          adds = term_plus ∙ ap product_grid (add_comm _ _) ∙ t.0;
          takes = le_trans k.within (le_trans t.1 (le_of_eq (ap product_grid (add_comm _ _) ∙ sym term_minus)));
        }
      where
        parts : {a b c d a₁ b₁ c₁ d₁ : ℕ} → a ≡ a₁ → b ≡ b₁ → c ≡ c₁ → d ≡ d₁ → sum_grid (a + b - (c + d)) ≡ sum_grid (a₁ + b₁ - (c₁ + d₁))
        parts e f g h = rw (e, f, g, h) refl

        swap : (a b c d : ℕ) → sum_grid (a + b - (c + d)) ≡ sum_grid (b + a - (d + c))
        swap a b c d = ap sum_grid (omega arith)

        turn : (a b c d : ℕ) → a + b ≤ c + d → b + a ≤ d + c
        turn a b c d h = omega arith

  -- ---- v from l to r
  module _ (l r : Float) (hl : HeldWithin 400 l) (hr : HeldWithin 400 r) (from : NotAbove l v) (to : NotAbove v r) where
    abbrev reach : Float
    reach = larger_of (r ⊟ s) (s ⊟ l)

    reach_held : HeldWithin 401 reach
    reach_held = larger_held (r ⊟ s) (s ⊟ l) (sub_held 400 r s hr hs (lit≤ tt)) (sub_held 400 s l hs hl (lit≤ tt))

    most_held : HeldWithin 803 (most_of s l r)
    unfolding most_of
    most_held = mul_held 402 401 (reach ⊞ reach) reach (add_held 401 reach reach reach_held reach_held (lit≤ tt)) reach_held (lit≤ tt)

    adds_most : plus_units (bisector_part v s o) ≤ plus_units (most_of s l r)
    unfolding most_of
    adds_most =
        let a = larger_both (r ⊟ s) (s ⊟ l) (sub_held 400 r s hr hs (lit≤ tt)) (sub_held 400 s l hs hl (lit≤ tt)) in
        let f = sub_sum 400 r s hr hs (lit≤ tt) in
        let g = sub_sum 400 s l hs hl (lit≤ tt) in
        le_trans (le_of_eq term_plus)
        (le_trans
        (gained (plus_units reach) (stays reach reach_held) S S' O O' C C'
        (le_trans (sum_mono (right C C' S S' (plus_units r) (minus_units r) to)) (le_trans (le_of_eq (sym f.plus)) (plus_up (r ⊟ s) reach a.0)))
        (le_trans (sum_mono (left C C' S S' (plus_units l) (minus_units l) from)) (le_trans (le_of_eq (sym g.plus)) (plus_up (s ⊟ l) reach a.1))))
        (twice_square reach reach_held))
      where
        right : (v v' s s' r r' : ℕ) → v + r' ≤ v' + r → v + s' - (v' + s) ≤ r + s' - (r' + s)
        right v v' s s' r r' h = omega arith

        left : (v v' s s' l l' : ℕ) → l + v' ≤ l' + v → v' + s - (v + s') ≤ s + l' - (s' + l)
        left v v' s s' l l' h = omega arith

-- ---- the test
module _ (far : Float) (v s o : Point) (P : NotMinus far) (hv : HeldPoint v) (hs : HeldPoint s) (ho : HeldPoint o) where
  abbrev along : Float
  along = bisector_part v.x s.x o.x

  abbrev down_along : Float
  down_along = bisector_part v.y s.y o.y

  not_past : plus_units along + plus_units down_along ≤ minus_units along + minus_units down_along → beyond far v s o ≡ false
  unfolding beyond
  not_past h =
      let hx = coordinate_held v.x s.x o.x hv.x hs.x ho.x in
      let hy = coordinate_held v.y s.y o.y hv.y hs.y ho.y in
      let z = add_sum 803 along down_along hx hy (lit≤ tt) in
      let k = add_held 803 along down_along hx hy (lit≤ tt) in
      not_above (far ⊠ (magnitude (o.x ⊟ s.x) ⊞ magnitude (o.y ⊟ s.y))) (along ⊞ down_along)
      (mul_plus far (magnitude (o.x ⊟ s.x) ⊞ magnitude (o.y ⊟ s.y)) P (add_plus (magnitude (o.x ⊟ s.x)) (magnitude (o.y ⊟ s.y)) (magnitude_plus (o.x ⊟ s.x)) (magnitude_plus (o.y ⊟ s.y))))
      k.held (held_finite k) (z.plus ∙ ap sum_grid (none (plus_units along + plus_units down_along) (minus_units along + minus_units down_along) h) ∙ sum_none)
    where
      none : (a b : ℕ) → a ≤ b → a - b ≡ 0
      none a b h = omega arith

or_cases : (a b : Bool) → (a || b) ≡ true → (a ≡ true) ⊎ (b ≡ true)
or_cases true b e = inl refl
or_cases false b e = inr e

both_sides : (p p' q q' w : ℕ) → p ≡ 0 → w ≤ p' → q ≤ w → p + q ≤ p' + q'
both_sides p p' q q' w e h k = omega arith

both_sides' : (p p' q q' w : ℕ) → q ≡ 0 → w ≤ q' → p ≤ w → p + q ≤ p' + q'
both_sides' p p' q q' w e h k = omega arith

-- ---- along one axis
module _ (v s o : Float) (hv : HeldWithin 400 v) (hs : HeldWithin 400 s) (ho : HeldWithin 400 o) (low high most : Float) (hl : HeldWithin 400 low) (hh : HeldWithin 400 high)
    (hw : HeldWithin 803 most) where
  kept_off : kept_along s v low high most ≡ true → NotAbove high o ⊎ NotAbove o low → TakesOff most (bisector_part v s o)
  unfolding kept_along
  kept_off e =
      ⊎_elim (λ i. ahead v s o hv hs ho high v most hh hv hw i (at_most_self v) (and_left _ (clear_of (s ⊟ low) ((v ⊟ low) ⊟ (s ⊟ v)) most) e))
      (λ i. behind v s o hv hs ho low v most hl hv hw i (at_most_self v) (and_right (clear_of (high ⊟ s) ((high ⊟ v) ⊟ (v ⊟ s)) most) _ e))

-- ---- the window
module _ (w : Window) (W : EdgesHeld w) (s v : Point) (hs : HeldPoint s) (hv : HeldPoint v) (o : Point) (ho : HeldPoint o) (far : Float) (P : NotMinus far) where
  abbrev most_down : Float
  most_down = most_of s.y v.y v.y

  abbrev most_across : Float
  most_across = most_of s.x v.x v.x

  down_held : HeldWithin 803 most_down
  down_held = most_held v.y s.y o.y hv.y hs.y ho.y v.y v.y hv.y hv.y (at_most_self v.y) (at_most_self v.y)

  across_held : HeldWithin 803 most_across
  across_held = most_held v.x s.x o.x hv.x hs.x ho.x v.x v.x hv.x hv.x (at_most_self v.x) (at_most_self v.x)

  by_x : TakesOff most_down (bisector_part v.x s.x o.x) → beyond far v s o ≡ false
  by_x k =
      not_past far v s o P hv hs ho
      (both_sides _ _ _ _ (plus_units most_down) k.adds k.takes
      (adds_most v.y s.y o.y hv.y hs.y ho.y v.y v.y hv.y hv.y (at_most_self v.y) (at_most_self v.y)))

  by_y : TakesOff most_across (bisector_part v.y s.y o.y) → beyond far v s o ≡ false
  by_y k =
      not_past far v s o P hv hs ho
      (both_sides' _ _ _ _ (plus_units most_across) k.adds k.takes
      (adds_most v.x s.x o.x hv.x hs.x ho.x v.x v.x hv.x hv.x (at_most_self v.x) (at_most_self v.x)))

  pub left_out : window_kept w s v ≡ true → OffWindow w o → beyond far v s o ≡ false
  unfolding window_kept
  left_out e =
      ⊎_elim
      (λ i. by_x (kept_off v.x s.x o.x hv.x hs.x ho.x w.left w.right most_down W.left W.right down_held
      (and_left _ (kept_along s.y v.y w.top w.bottom most_across) e) i))
      (λ i. by_y (kept_off v.y s.y o.y hv.y hs.y ho.y w.top w.bottom most_across W.top W.bottom across_held
      (and_right (kept_along s.x v.x w.left w.right most_down) _ e) i))

-- ---- what stands in a rectangle that is off the window
module _ (w : Window) (W : EdgesHeld w) (l t r b : Float) (Hl : HeldWithin 400 l) (Ht : HeldWithin 400 t) (Hr : HeldWithin 400 r) (Hb : HeldWithin 400 b) (o : Point)
    (in_left : NotAbove l o.x) (in_top : NotAbove t o.y) (in_right : NotAbove o.x r) (in-bottom : NotAbove o.y b) where
  pub off_window : off_of w l t r b ≡ true → OffWindow w o
  unfolding off_of
  off_window e =
      ⊎_elim (λ f. ⊎_elim (λ g. ⊎_elim
      (λ h. inl (inl (at_most_trans w.right l o.x (at_most_of_le 400 400 w.right l W.right Hl h) in_left)))
      (λ h. inl (inr (at_most_trans o.x r w.left in_right (at_most_of_le 400 400 r w.left Hr W.left h))))
      (or_cases (le w.right l) (le r w.left) g))
      (λ h. inr (inl (at_most_trans w.bottom t o.y (at_most_of_le 400 400 w.bottom t W.bottom Ht h) in_top)))
      (or_cases (le w.right l || le r w.left) (le w.bottom t) f))
      (λ h. inr (inr (at_most_trans o.y b w.top in-bottom (at_most_of_le 400 400 b w.top Hb W.top h))))
      (or_cases (le w.right l || le r w.left || le w.bottom t) (le b w.top) e)

-- ---- as the code makes it
pub most_is : (s l r : Float) {u : Float} → u ≡ larger_of (r ⊟ s) (s ⊟ l) → (u ⊞ u) ⊠ u ≡ most_of s l r
unfolding most_of
most_is s l r e = rw e refl

pub kept_more : (w : Window) (s : Point) (v : List Float) (cell : List ℕ) {k n : ℕ} {p : Point} → ((i : ℕ) → i < k → window_kept w s (point_at v (get_or cell i 0)) ≡ true)
    → n ≡ get_or cell k 0 → p ≡ point_at v n → window_kept w s p ≡ true → (i : ℕ) → i < k + 1 → window_kept w s (point_at v (get_or cell i 0)) ≡ true
kept_more w s v cell {k} a e f h i g =
    ⊎_elim (a i) (λ b. subst (λ (q : Point). window_kept w s q ≡ true) (f ∙ ap (point_at v) (e ∙ ap (λ (j : ℕ). get_or cell j 0) (last i g b))) h) (lt_or_ge i k)
  where
    last : (i : ℕ) → i < k + 1 → k ≤ i → k ≡ i
    last i g b = omega arith

pub four_true : (a b c d : Bool) → (a && b && c && d) ≡ true → (a ≡ true) × (b ≡ true) × (c ≡ true) × (d ≡ true)
four_true true true true true e = (refl, refl, refl, refl)
four_true true true true false e = absurd (no_both (sym e))
four_true true true false d e = absurd (no_both (sym e))
four_true true false c d e = absurd (no_both (sym e))
four_true false b c d e = absurd (no_both (sym e))
