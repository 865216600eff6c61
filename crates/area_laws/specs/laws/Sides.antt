-- The sums over a ring with a last corner, and with a corner on the way; a product the other way round.
use Rattle.std.specs.Prelude.{◌≡◌, refl, Bool, true, false, cond, List, [], ◌∷◌, ◌++◌, ℕ, ◌+◌, ◌*◌, Float}
use Rattle.std.proofs.Common.{sym, ap, ◌∙◌, add_assoc, mul_comm}
use Rattle.std.specs.Float.Ieee.{unlike}
use Rattle.root.specs.Root.{units}
use Rattle.plane.specs.declared.points.Point.{Point}
use Rattle.ring_area.specs.Area.{below, product_above, product_under, gain, loss, gains, losses}

-- ---- one side there and back
pub unlike_swap : (s t : Bool) → unlike s t ≡ unlike t s
unlike_swap true true = refl
unlike_swap true false = refl
unlike_swap false true = refl
unlike_swap false false = refl

pub above_swap : (x y : Float) → product_above x y ≡ product_above y x
above_swap x y = ap (λ (t : Bool). cond t 0 (units x * units y)) (unlike_swap (below x) (below y)) ∙ ap (λ (n : ℕ). cond (unlike (below y) (below x)) 0 n) (mul_comm (units x) (units y))

pub under_swap : (x y : Float) → product_under x y ≡ product_under y x
under_swap x y = ap (λ (t : Bool). cond t (units x * units y) 0) (unlike_swap (below x) (below y)) ∙ ap (λ (n : ℕ). cond (unlike (below y) (below x)) n 0) (mul_comm (units x) (units y))

-- ---- a last corner, and a corner on the way
pub gains_last : (a x y : Point) (r : List Point) → gains a x (r ++ y ∷ []) ≡ gains y x r + gain y a
unfolding gains
gains_last a x y [] = refl
gains_last a x y (z ∷ r) = ap (λ (n : ℕ). gain x z + n) (gains_last a z y r) ∙ sym (add_assoc (gain x z) (gains y z r) (gain y a))

pub losses_last : (a x y : Point) (r : List Point) → losses a x (r ++ y ∷ []) ≡ losses y x r + loss y a
unfolding losses
losses_last a x y [] = refl
losses_last a x y (z ∷ r) = ap (λ (n : ℕ). loss x z + n) (losses_last a z y r) ∙ sym (add_assoc (loss x z) (losses y z r) (loss y a))

pub gains_by : (a x q : Point) (r s : List Point) → gains a x (r ++ q ∷ s) ≡ gains q x r + gains a q s
unfolding gains
gains_by a x q [] s = refl
gains_by a x q (z ∷ r) s = ap (λ (n : ℕ). gain x z + n) (gains_by a z q r s) ∙ sym (add_assoc (gain x z) (gains q z r) (gains a q s))

pub losses_by : (a x q : Point) (r s : List Point) → losses a x (r ++ q ∷ s) ≡ losses q x r + losses a q s
unfolding losses
losses_by a x q [] s = refl
losses_by a x q (z ∷ r) s = ap (λ (n : ℕ). loss x z + n) (losses_by a z q r s) ∙ sym (add_assoc (loss x z) (losses q z r) (losses a q s))
