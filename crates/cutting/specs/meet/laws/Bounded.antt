-- What is bounded by two numbers lies where both do: past c (`bounded_past`) or before it (`bounded_before`). And how far a corner reaches along a side (`reach_past`, `reach_before`).
use Rattle.std.specs.Prelude.{◌≡◌, refl, Bool, true, false, cond, Float}
use Rattle.std.proofs.lemmas.Bool.{false≢true}
use Rattle.std.specs.Float.Ieee.{lt, le, neg}
use Rattle.base.specs.common.Binary64.{zero}
use Rattle.base.specs.common.Pick.{pick}
use Rattle.base.specs.common.laws.And.{fails}
use Rattle.root.specs.laws.Order.{not_lt}
use Rattle.cutting.specs.corner.Corner.{past_low, past_high}
use Rattle.cutting.specs.meet.Crossing.{endless, reach_by, clamp_of, bounded_of}
use Rattle.cutting.specs.meet.laws.Compare.{is_true, le_left, le_right, le_trans}

-- a property of lo, of hi, and of all that is past lo and not past hi
clamped : (P : Float → Type 0) (lo hi t : Float) → P lo → P hi → (le lo t ≡ true → lt hi t ≡ false → P t) → P (clamp_of lo hi t)
unfolding clamp_of
clamped P lo hi t l h m = go (le lo t) (lt hi t) m
  where
    go : (a b : Bool) → (a ≡ true → b ≡ false → P t) → P (pick a (λ _. pick b (λ _. hi) (λ _. t)) (λ _. lo))
    go true true m = h
    go true false m = m refl refl
    go false b m = l

bounded_by : (P : Float → Type 0) (a z t : Float) → P (clamp_of a z t) → P (clamp_of z a t) → P (bounded_of a z t)
unfolding bounded_of
bounded_by P a z t l h = go (lt a z)
  where
    go : (b : Bool) → P (pick b (λ _. clamp_of a z t) (λ _. clamp_of z a t))
    go true = l
    go false = h

pub bounded_past : (c a z t : Float) → le c a ≡ true → le c z ≡ true → le c (bounded_of a z t) ≡ true
bounded_past c a z t l h =
    bounded_by (λ x. le c x ≡ true) a z t (clamped (λ x. le c x ≡ true) a z t l h (λ m _. le_trans c a t l m))
    (clamped (λ x. le c x ≡ true) z a t h l (λ m _. le_trans c z t h m))

pub bounded_before : (c a z t : Float) → le a c ≡ true → le z c ≡ true → le (bounded_of a z t) c ≡ true
bounded_before c a z t l h =
    bounded_by (λ x. le x c ≡ true) a z t (clamped (λ x. le x c ≡ true) a z t l h (λ m n. le_trans t z c (up_to a z t m h n) h))
    (clamped (λ x. le x c ≡ true) z a t h l (λ m n. le_trans t a c (up_to z a t m l n) l))
  where
    up_to : (lo hi t : Float) → le lo t ≡ true → le hi c ≡ true → lt hi t ≡ false → le t hi ≡ true
    up_to lo hi t m g n = is_true (le t hi) (not_lt hi t (le_left hi c g) (le_right lo t m) (fails n))

-- of a corner within a side to the left or at the top, and to the right or at the bottom
pub reach_past : (f : Bool) (d c x : Float) → le c endless ≡ true → past_low f d c x ≡ true → le c (reach_by f d x) ≡ true
unfolding reach_by
reach_past false d c x n w = w
reach_past true d c x n w = go (lt zero d) (lt d zero) w
  where
    go : (a b : Bool) → cond b false (cond a true (le c x)) ≡ true → le c (pick a (λ _. endless) (λ _. pick b (λ _. neg endless) (λ _. x))) ≡ true
    go true b w = n
    go false true w = absurd (false≢true w)
    go false false w = w

pub reach_before : (f : Bool) (d c x : Float) → le (neg endless) c ≡ true → past_high f d c x ≡ true → le (reach_by f d x) c ≡ true
unfolding reach_by
reach_before false d c x n w = w
reach_before true d c x n w = go (lt zero d) (lt d zero) w
  where
    go : (a b : Bool) → cond a false (cond b true (le x c)) ≡ true → le (pick a (λ _. endless) (λ _. pick b (λ _. neg endless) (λ _. x))) c ≡ true
    go true b w = absurd (false≢true w)
    go false true w = n
    go false false w = w
