-- Theorem: the sign of an area is the truth, said of `area` itself. The exact area is gains less losses in units of 2^-2149, so 2^1074 of them are 2^-1075. At most that in
-- magnitude the area is 0, with the sign of the sum; more than that it is above 0 or below 0 as the exact one is (`area_signed`). Where all coordinates are multiples of 2^-500
-- it is 0 exactly where the exact area is (`surveyed_signed`). The ring has at most 2^24 corners within 2^400, as the rules of voronoi_areas ask.
use Rattle.std.specs.Prelude.{◌≡◌, refl, Bool, true, false, cond, List, [], ◌∷◌, map, ℕ, zero, suc, ◌+◌, ◌-◌, ◌*◌, ◌/◌, ◌^◌, ◌≤◌, ◌<◌, T, Float, ℤ, length}
use Rattle.std.proofs.Common.{sym, ap, ◌∙◌, le_trans, le_of_eq, le_of_lt, lt_of_le_of_lt, lt_of_lt_of_le, mul-pos, zero-mul, one-mul, mul-one, div-lt_iff_lt-mul, arith, le-leb, lit≤, lt→ltb, pow-add, pow_pos}
use Rattle.std.proofs.lemmas.Bool.{lt-leb}
use Rattle.std.proofs.Math.Arith.{lt-one}
use Rattle.std.specs.Float.{nan, inf, fin, binary64}
use Rattle.std.specs.Float.Ieee.{up, down, size, round, lt, of_bits, to_bits}
use Rattle.std.specs.Float.Ieee.Exact.{HasValue}
use Rattle.std.specs.Float.Ieee.Fits.{up_pos, down_pos}
use Rattle.std.specs.Float.Ieee.Scale.{finite}
use Rattle.std.proofs.Math.Pow.{pow-lt}
use Rattle.base.specs.common.Binary64 as B
use Rattle.root.specs.Bounded.{Bounded}
use Rattle.root.specs.laws.Bounds.{round_bound}
use Rattle.root.specs.laws.Rounding.{round_has, round_within}
use Rattle.plane.specs.declared.points.Point.{Point}
use Rattle.ring_area.specs.rounded.Rounded.{rounded_pattern}
use Rattle.ring_area.specs.rounded.laws.Patterns.{round_pattern, pattern_rounds}
use Rattle.ring_area.specs.rounded.laws.Sizes.{size_zero}
use Rattle.plane.specs.points.Flat.{point_at}
use Rattle.ring_area.specs.Area.{gains, losses, rounded_half, area, ring_area}
use Rattle.ring_area.specs.Steps.{Corners, gains_of, losses_of}
use Rattle.ring_area.specs.laws.Bounds.{AllBounded, gained_most, lost_most, ring_gains, ring_losses}
use Rattle.area_laws.specs.Sign.{sign_none, sign_some, Coarse, AllCoarse, surveyed, surveyed_minus}

-- what the area x says of the exact one, g less l units of 2^-2149
pub record SignTrue (g l : ℕ) (x : Float) : Type 0 where
  pub plus_none : l ≤ g → g - l ≤ 2 ^ 1074 → x ≡ of_bits binary64 0
  pub minus_none : g < l → l - g ≤ 2 ^ 1074 → x ≡ of_bits binary64 (2 ^ 63)
  pub above : 2 ^ 1074 < g - l → T (lt B.zero x)
  pub below : 2 ^ 1074 < l - g → T (lt x B.zero)

-- ---- one rounding
is_finite : (k : ℕ) (x : Float) → Bounded k x → T (finite x)
is_finite k nan h = absurd h
is_finite k (inf s) h = absurd h
is_finite k (fin s m e) h = tt

-- nothing is left: a zero with the sign
rounded_none : (s : Bool) (n : ℕ) → n ≤ 2 ^ 1074 → round binary64 s n (2 ^ 2149) ≡ of_bits binary64 (cond s (2 ^ 63) 0)
rounded_none s n h =
    let few : n < 2 ^ 3008 = lt_of_le_of_lt h (pow-lt {i = 1074} {j = 3008} (lit≤ tt)) in
    sym (pattern_rounds n few s (cond s (2 ^ 63) 0) (no_more (cond s (2 ^ 63) 0) (rounded_pattern n) (sign_none n h)))
  where
    no_more : (a b : ℕ) → b ≡ 0 → a ≡ a + b
    no_more a b h = omega arith

-- the pattern of a zero
zero_units : (u d : ℕ) → 0 < d → 0 * u * 2 ^ 1074 / d ≡ 0
zero_units u d D = ap (λ (x : ℕ). x * 2 ^ 1074 / d) (zero-mul u) ∙ ap (λ (x : ℕ). x / d) (zero-mul (2 ^ 1074)) ∙ lt-one ((div-lt_iff_lt-mul D).1 (lt_of_lt_of_le D (le_of_eq (sym (one-mul d)))))

zero_pattern : (s : Bool) (e : ℤ) → to_bits binary64 (fin s 0 e) ≡ cond s (2 ^ 63) 0
unfolding to_bits
zero_pattern s e =
    ap (λ (x : ℕ). cond s (2 ^ 63) 0 + (size x - 53) * 2 ^ 52 + x / 2 ^ (size x - 53)) (zero_units (up e) (down e) (down_pos e))
    ∙ ap (λ (x : ℕ). cond s (2 ^ 63) 0 + (x - 53) * 2 ^ 52 + 0 / 2 ^ (x - 53)) size_zero
    ∙ none (cond s (2 ^ 63) 0)
  where
    none : (a : ℕ) → a + (0 - 53) * 2 ^ 52 + 0 / 2 ^ (0 - 53) ≡ a
    none a = omega arith

-- beyond 0 on the side that the sign tells
abbrev Beyond : Bool → Float → Type 0
Beyond true x = T (lt x B.zero)
Beyond false x = T (lt B.zero x)

some_units : (m u d : ℕ) → 0 < u → 0 * 1 * d < suc m * u * 1
some_units m u d U = lt_of_le_of_lt (le_of_eq (zero-mul d)) (lt_of_lt_of_le (positive m u U) (le_of_eq (sym (mul-one (suc m * u)))))
  where
    positive : (m u : ℕ) → 0 < u → 0 < suc m * u
    positive m u U = mul-pos (omega arith) U

beyond : (s : Bool) (m : ℕ) (e : ℤ) → Beyond s (fin s (suc m) e)
unfolding lt of_bits
beyond true m e = lt→ltb 0 _ (more _ _ (some_units m (up e) (down e) (up_pos e)))
  where
    more : (a b : ℕ) → a < b → 0 < b + a
    more a b h = omega arith
beyond false m e = lt→ltb (0 * 1 * down e) (suc m * up e * 1) (some_units m (up e) (down e) (up_pos e))

by_pattern : (s : Bool) (x : Float) (a p : ℕ) → HasValue x s a (2 ^ 1074) → to_bits binary64 x ≡ cond s (2 ^ 63) 0 + p → 0 < p → Beyond s x
by_pattern s nan a p h q l = absurd h
by_pattern s (inf t) a p h q l = absurd h
by_pattern s (fin t zero e) a p h q l = absurd (omega (arith, q, zero_pattern t e, ap (λ (b : Bool). cond {A = ℕ} b (2 ^ 63) 0) h.0))
by_pattern s (fin t (suc m) e) a p h q l = rw h.0 (beyond s m e)

rounded_some : (s : Bool) (n : ℕ) → n ≤ 2 ^ 2973 → 2 ^ 1074 < n → Beyond s (round binary64 s n (2 ^ 2149))
rounded_some s n most h =
    let x = round binary64 s n (2 ^ 2149) in
    let few : n < 2 ^ 3008 = lt_of_le_of_lt most (pow-lt {i = 2973} {j = 3008} (lit≤ tt)) in
    let bound : Bounded 824 x = round_bound binary64 s n (2 ^ 2149) 824 (pow_pos 2149) (lit≤ tt) (le_trans most (le_of_eq (pow-add 2 824 2149))) in
    by_pattern s x _ (rounded_pattern n) (round_has binary64 s n (2 ^ 2149) (round_within binary64 s n (2 ^ 2149) (is_finite 824 x bound))) (round_pattern n few s) (sign_some n h)

-- ---- the area
some : (a b c : ℕ) → c < a - b → b < a
some a b c h = omega arith

settled_signed : (g l : ℕ) → g ≤ 2 ^ 2973 → l ≤ 2 ^ 2973 → SignTrue g l (rounded_half g l)
unfolding rounded_half
settled_signed g l G L = record {
  plus_none = λ a h. rw (le-leb l g a) (rounded_none false (g - l) h);
  minus_none = λ a h. rw (lt-leb l g a) (rounded_none true (l - g) h);
  above = λ h. rw (le-leb l g (more g l h)) (rounded_some false (g - l) (le_trans (less g l) G) h);
  below = λ h. rw (lt-leb l g (most g l h)) (rounded_some true (l - g) (le_trans (less l g) L) h);
}
  where
    less : (a b : ℕ) → a - b ≤ a
    less a b = omega arith

    more : (a b : ℕ) → 2 ^ 1074 < a - b → b ≤ a
    more a b h = le_of_lt (some a b (2 ^ 1074) h)

    most : (a b : ℕ) → 2 ^ 1074 < b - a → a < b
    most a b h = some b a (2 ^ 1074) h

-- the theorem, of a ring
pub area_signed : (p : Point) (r : List Point) → suc (length r) ≤ 2 ^ 24 → AllBounded (p ∷ r) → SignTrue (gains p p r) (losses p p r) (area (p ∷ r))
unfolding area
area_signed p r few h = settled_signed (gains p p r) (losses p p r) (gained_most (p ∷ r) few h) (lost_most (p ∷ r) few h)

-- of the corners that a cell's entries name
pub ring_signed : (v : List Float) (cell : List ℕ) → Corners v cell → SignTrue (gains_of (map (point_at v) cell)) (losses_of (map (point_at v) cell)) (ring_area v cell)
unfolding area
ring_signed v [] c = record {
  plus_none = λ a h. refl;
  minus_none = λ a h. absurd (omega (arith, a));
  above = λ h. absurd (none (some 0 0 (2 ^ 1074) h));
  below = λ h. absurd (none (some 0 0 (2 ^ 1074) h));
}
  where
    none : 0 < 0 → ⊥
    none h = omega arith
ring_signed v (e ∷ r) c = settled_signed _ _ (ring_gains v (e ∷ r) c) (ring_losses v (e ∷ r) c)

-- surveyed coordinates: a ring with an exact area has an area, of its sign
pub surveyed_signed : (p : Point) (r : List Point) → suc (length r) ≤ 2 ^ 24 → AllBounded (p ∷ r) → Coarse p → AllCoarse r
    → (losses p p r < gains p p r → T (lt B.zero (area (p ∷ r)))) × (gains p p r < losses p p r → T (lt (area (p ∷ r)) B.zero))
surveyed_signed p r few h P c =
    let t = area_signed p r few h in
    (λ l. t.above (surveyed p r P c l), λ l. t.below (surveyed_minus p r P c l))
