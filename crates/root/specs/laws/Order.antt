-- `<` on floats is a strict order, and total up to `==` where no NaN stands.
use Rattle.std.specs.Prelude.{◌≡◌, refl, ◌⊎◌, ℕ, ◌+◌, ◌*◌, ◌≤◌, ◌<◌, Bool, true, false, not, ◌&&◌, ◌||◌, T, ltb, eqb, Float}
use Rattle.std.proofs.Common.{sym, subst, inl, inr, zero-le, le_of_eq, le_of_lt, lt_irrefl, lt_of_lt_of_le, lt_of_not-le, not-le_of_lt, mul-pos, zero-mul, eq-or-lt_of_le, arith, ltb→lt, lt→ltb, nltb→le, eqb→eq}
use Rattle.std.proofs.Math.Dec.{eqb_refl}
use Rattle.std.specs.Float.{nan, inf, fin}
use Rattle.std.specs.Float.Ieee.{up, down, below, level, lt, le, eq, is_nan}
use Rattle.std.specs.Float.Ieee.Fits.{down_pos}
use Rattle.std.specs.Float.Ieee.Positive.{through, first_pos}

-- three fractions x / p, y / q, z / r, the first two or the last two apart
left_strict : (x y z p q r : ℕ) → 0 < r → x * q < y * p → y * r ≤ z * q → x * r < z * p
left_strict x y z p q r R h k = lt_of_not-le (λ g. not-le_of_lt h (through y z x q r p R k g))

right_strict : (x y z p q r : ℕ) → 0 < p → x * q ≤ y * p → y * r < z * q → x * r < z * p
right_strict x y z p q r P h k = lt_of_not-le (λ g. not-le_of_lt k (through z x y r p q P g h))

some_left : (a b : ℕ) → 0 < a → 0 < a + b
some_left a b h = omega arith

some_right : (a b : ℕ) → 0 < b → 0 < a + b
some_right a b h = omega arith

pos_of_lt : (a b : ℕ) → a < b → 0 < b
pos_of_lt a b h = omega arith

none_of : (a g : ℕ) → 0 < g → a * g ≤ 0 → a ≡ 0
none_of a g G h = elim (eq-or-lt_of_le (zero-le {n = a})) [ inl e ↦ sym e | inr l ↦ absurd (lt_irrefl 0 (lt_of_lt_of_le (mul-pos l G) h)) ]

of_none : (a g : ℕ) → a ≡ 0 → a * g ≡ 0
of_none a g e = rw (e, zero-mul g)

-- ---- irreflexive
never : (a : ℕ) → T (ltb a a) → ⊥
never a t = lt_irrefl a (ltb→lt a a t)

pub lt_never : (x : Float) → T (lt x x) → ⊥
unfolding lt
lt_never nan t = t
lt_never (inf true) t = t
lt_never (inf false) t = t
lt_never (fin true m e) t = never (m * up e * down e) t
lt_never (fin false m e) t = never (m * up e * down e) t

-- ---- transitive
fin_trans : (s t u : Bool) (a c b d k g : ℕ) → 0 < c → 0 < d → 0 < g → T (below s (a * d) t (b * c)) → T (below t (b * g) u (k * d)) → T (below s (a * g) u (k * c))
fin_trans false false false a c b d k g C D G h i = lt→ltb (a * g) (k * c) (left_strict a b k c d g G (ltb→lt (a * d) (b * c) h) (le_of_lt (ltb→lt (b * g) (k * d) i)))
fin_trans false false true a c b d k g C D G h i = i
fin_trans false true u a c b d k g C D G h i = absurd h
fin_trans true false false a c b d k g C D G h i =
    lt→ltb 0 (a * g + k * c) (some_right (a * g) (k * c) (mul-pos (first_pos k d (pos_of_lt (b * g) (k * d) (ltb→lt (b * g) (k * d) i))) C))
fin_trans true false true a c b d k g C D G h i = absurd i
fin_trans true true false a c b d k g C D G h i =
    lt→ltb 0 (a * g + k * c) (some_left (a * g) (k * c) (mul-pos (first_pos a d (pos_of_lt (b * c) (a * d) (ltb→lt (b * c) (a * d) h))) G))
fin_trans true true true a c b d k g C D G h i = lt→ltb (k * c) (a * g) (left_strict k b a g d c C (ltb→lt (k * d) (b * g) i) (le_of_lt (ltb→lt (b * c) (a * d) h)))

pub lt_trans : (x y z : Float) → T (lt x y) → T (lt y z) → T (lt x z)
unfolding lt
lt_trans nan y z h i = absurd h
lt_trans (inf s) nan z h i = absurd h
lt_trans (inf true) (inf true) z h i = absurd h
lt_trans (inf true) (inf false) nan h i = absurd i
lt_trans (inf true) (inf false) (inf u) h i = absurd i
lt_trans (inf true) (inf false) (fin u k g) h i = absurd i
lt_trans (inf false) (inf t) z h i = absurd h
lt_trans (inf s) (fin t n d) nan h i = absurd i
lt_trans (inf true) (fin t n d) (inf true) h i = absurd i
lt_trans (inf true) (fin t n d) (inf false) h i = tt
lt_trans (inf false) (fin t n d) (inf u) h i = absurd h
lt_trans (inf s) (fin t n d) (fin u k g) h i = h
lt_trans (fin s m e) nan z h i = absurd h
lt_trans (fin s m e) (inf t) nan h i = absurd i
lt_trans (fin s m e) (inf true) (inf u) h i = absurd h
lt_trans (fin s m e) (inf false) (inf u) h i = absurd i
lt_trans (fin s m e) (inf true) (fin u k g) h i = absurd h
lt_trans (fin s m e) (inf false) (fin u k g) h i = absurd i
lt_trans (fin s m e) (fin t n d) nan h i = absurd i
lt_trans (fin s m e) (fin t n d) (inf u) h i = i
lt_trans (fin s m e) (fin t n d) (fin u k g) h i =
    fin_trans s t u (m * up e) (down e) (n * up d) (down d) (k * up g) (down g) (down_pos e) (down_pos d) (down_pos g) h i

-- ---- what is below y is below all that is not below y
fin_past : (s t u : Bool) (a c b d k g : ℕ) → 0 < c → 0 < d → 0 < g → T (below s (a * d) t (b * c)) → T (not (below u (k * d) t (b * g))) → T (below s (a * g) u (k * c))
fin_past false false false a c b d k g C D G h n = lt→ltb (a * g) (k * c) (left_strict a b k c d g G (ltb→lt (a * d) (b * c) h) (nltb→le (k * d) (b * g) n))
fin_past false false true a c b d k g C D G h n =
    let b-none = none_of b g G (omega (arith, nltb→le 0 (k * d + b * g) n)) in
    absurd (omega (arith, ltb→lt (a * d) (b * c) h, of_none b c b-none))
fin_past false true u a c b d k g C D G h n = absurd h
fin_past true false false a c b d k g C D G h n =
    lt→ltb 0 (a * g + k * c) (lt_of_not-le (λ z.
    let a-none = none_of a g G (omega arith) in
    let k-none = none_of k c C (omega arith) in
    let b-none = none_of b g G (omega (arith, nltb→le (k * d) (b * g) n, of_none k d k-none)) in
    omega (arith, ltb→lt 0 (a * d + b * c) h, of_none a d a-none, of_none b c b-none)))
fin_past true false true a c b d k g C D G h n =
    let z = nltb→le 0 (k * d + b * g) n in
    let k-none = none_of k d D (omega arith) in
    let b-none = none_of b g G (omega arith) in
    lt→ltb (k * c) (a * g) (lt_of_not-le (λ q.
    let a-none = none_of a g G (omega (arith, of_none k c k-none)) in
    omega (arith, ltb→lt 0 (a * d + b * c) h, of_none a d a-none, of_none b c b-none)))
fin_past true true false a c b d k g C D G h n =
    lt→ltb 0 (a * g + k * c) (some_left (a * g) (k * c) (mul-pos (first_pos a d (pos_of_lt (b * c) (a * d) (ltb→lt (b * c) (a * d) h))) G))
fin_past true true true a c b d k g C D G h n = lt→ltb (k * c) (a * g) (right_strict k b a g d c G (nltb→le (b * g) (k * d) n) (ltb→lt (b * c) (a * d) h))

pub lt_past : (x y z : Float) → T (not (is_nan z)) → T (lt x y) → T (not (lt z y)) → T (lt x z)
unfolding lt is_nan
lt_past nan y z q h n = absurd h
lt_past (inf s) y nan q h n = absurd q
lt_past (fin s m e) y nan q h n = absurd q
lt_past (inf s) nan (inf u) q h n = absurd h
lt_past (inf s) nan (fin u k g) q h n = absurd h
lt_past (inf true) (inf true) (inf u) q h n = absurd h
lt_past (inf true) (inf false) (inf true) q h n = absurd n
lt_past (inf true) (inf false) (inf false) q h n = tt
lt_past (inf false) (inf t) (inf u) q h n = absurd h
lt_past (inf true) (inf t) (fin u k g) q h n = tt
lt_past (inf false) (inf t) (fin u k g) q h n = absurd h
lt_past (inf true) (fin t b d) (inf true) q h n = absurd n
lt_past (inf true) (fin t b d) (inf false) q h n = tt
lt_past (inf false) (fin t b d) (inf u) q h n = absurd h
lt_past (inf s) (fin t b d) (fin u k g) q h n = h
lt_past (fin s m e) nan (inf u) q h n = absurd h
lt_past (fin s m e) nan (fin u k g) q h n = absurd h
lt_past (fin s m e) (inf true) (inf u) q h n = absurd h
lt_past (fin s m e) (inf false) (inf true) q h n = absurd n
lt_past (fin s m e) (inf false) (inf false) q h n = tt
lt_past (fin s m e) (inf true) (fin u k g) q h n = absurd h
lt_past (fin s m e) (inf false) (fin u k g) q h n = absurd n
lt_past (fin s m e) (fin t b d) (inf true) q h n = absurd n
lt_past (fin s m e) (fin t b d) (inf false) q h n = tt
lt_past (fin s m e) (fin t b d) (fin u k g) q h n =
    fin_past s t u (m * up e) (down e) (b * up d) (down d) (k * up g) (down g) (down_pos e) (down_pos d) (down_pos g) h n

-- ---- total: where `x < y` fails, `y <= x` holds
or_l : (a b : Bool) → T a → T (a || b)
or_l true b t = tt
or_l false b t = absurd t

or_r : (a b : Bool) → T b → T (a || b)
or_r true b t = tt
or_r false b t = t

both : (a b : Bool) → T a → T b → T (a && b)
both true b t u = u
both false b t u = t

same : (a b : ℕ) → a ≡ b → T (eqb a b)
same a b e = subst (λ (x : ℕ). T (eqb a x)) e (eqb_refl a)

-- b ≤ a, as the comparison of two numbers of one sign says it
at_most : (a b : ℕ) → b ≤ a → T (ltb b a || (eqb b a && true))
at_most a b h = elim (eq-or-lt_of_le h) [ inl e ↦ or_r (ltb b a) (eqb b a && true) (both (eqb b a) true (same b a e) tt) | inr l ↦ or_l (ltb b a) (eqb b a && true) (lt→ltb b a l) ]

at_most' : (a b : ℕ) → a ≤ b → T (ltb a b || (eqb b a && true))
at_most' a b h = elim (eq-or-lt_of_le h) [ inl e ↦ or_r (ltb a b) (eqb b a && true) (both (eqb b a) true (same b a (sym e)) tt) | inr l ↦ or_l (ltb a b) (eqb b a && true) (lt→ltb a b l) ]

none : (a b : ℕ) → a + b ≤ 0 → b ≡ a
none a b h = omega arith

nil : (a b : ℕ) → a + b ≤ 0 → b ≡ 0
nil a b h = omega arith

fin_total : (s t : Bool) (a b : ℕ) → T (not (below s a t b)) → T (below t b s a || level t b s a)
fin_total false false a b n = at_most a b (nltb→le a b n)
fin_total false true a b n = mixed
  where
    mixed : T (ltb 0 (b + a) || (eqb b a && (false || eqb b 0)))
    mixed = elim (eq-or-lt_of_le (zero-le {n = b + a})) [
      | inl e ↦ or_r (ltb 0 (b + a)) (eqb b a && (false || eqb b 0)) (both (eqb b a) (false || eqb b 0) (same b a (none a b (le_of_eq (flip e)))) (same b 0 (nil a b (le_of_eq (flip e)))))
      | inr l ↦ or_l (ltb 0 (b + a)) (eqb b a && (false || eqb b 0)) (lt→ltb 0 (b + a) l)
    ]
      where
        flip : 0 ≡ b + a → a + b ≡ 0
        flip e = omega arith
fin_total true false a b n =
    or_r false (eqb b a && (false || eqb b 0)) (both (eqb b a) (false || eqb b 0) (same b a (none a b (nltb→le 0 (a + b) n))) (same b 0 (nil a b (nltb→le 0 (a + b) n))))
fin_total true true a b n = at_most' a b (nltb→le b a n)

pub not_lt : (x y : Float) → T (not (is_nan x)) → T (not (is_nan y)) → T (not (lt x y)) → T (le y x)
unfolding lt le is_nan
not_lt nan y p q n = absurd p
not_lt (inf s) nan p q n = absurd q
not_lt (inf true) (inf true) p q n = tt
not_lt (inf true) (inf false) p q n = absurd n
not_lt (inf false) (inf true) p q n = tt
not_lt (inf false) (inf false) p q n = tt
not_lt (inf true) (fin t k d) p q n = absurd n
not_lt (inf false) (fin t k d) p q n = tt
not_lt (fin s m e) nan p q n = absurd q
not_lt (fin s m e) (inf true) p q n = tt
not_lt (fin s m e) (inf false) p q n = absurd n
not_lt (fin s m e) (fin t k d) p q n = fin_total s t (m * up e * down d) (k * up d * down e) n

-- ---- and where `x <= y` holds, `y < x` fails
pub first_of : (a b : Bool) → T (a && b) → T a
first_of true b t = tt
first_of false b t = t

second_of : (a b : Bool) → T (a && b) → T b
second_of true b t = t
second_of false b t = absurd t

fin_level : (s t : Bool) (a b : ℕ) → T (level s a t b) → T (below t b s a) → ⊥
fin_level false false a b q h = omega (arith, eqb→eq a b (first_of (eqb a b) true q), ltb→lt b a h)
fin_level true true a b q h = omega (arith, eqb→eq a b (first_of (eqb a b) true q), ltb→lt a b h)
fin_level true false a b q h = h
fin_level false true a b q h =
    omega (arith, eqb→eq a b (first_of (eqb a b) (eqb a 0) q), eqb→eq a 0 (second_of (eqb a b) (eqb a 0) q), ltb→lt 0 (b + a) h)

level_not_lt : (x y : Float) → T (eq x y) → T (lt y x) → ⊥
unfolding lt eq
level_not_lt nan y q h = q
level_not_lt (inf s) nan q h = q
level_not_lt (inf true) (inf true) q h = h
level_not_lt (inf true) (inf false) q h = q
level_not_lt (inf false) (inf true) q h = q
level_not_lt (inf false) (inf false) q h = h
level_not_lt (inf s) (fin t n d) q h = q
level_not_lt (fin s m e) nan q h = q
level_not_lt (fin s m e) (inf t) q h = q
level_not_lt (fin s m e) (fin t n d) q h = fin_level s t (m * up e * down d) (n * up d * down e) q h

pub le_not_lt : (x y : Float) → T (le x y) → T (lt y x) → ⊥
unfolding le
le_not_lt x y h n = go (lt x y) refl h
  where
    go : (b : Bool) → lt x y ≡ b → T (b || eq x y) → ⊥
    go true e t = lt_never x (lt_trans x y x (subst T (sym e) tt) n)
    go false e t = level_not_lt x y t n

-- `x < y` or not, as a choice
pub lt_or_not : (x y : Float) → ((T (lt x y)) × (lt x y ≡ true)) ⊎ ((T (not (lt x y))) × (lt x y ≡ false))
lt_or_not x y = go (lt x y)
  where
    go : (b : Bool) → ((T b) × (b ≡ true)) ⊎ ((T (not b)) × (b ≡ false))
    go true = inl (tt, refl)
    go false = inr (tt, refl)
