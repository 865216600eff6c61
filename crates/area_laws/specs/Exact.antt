-- Theorems: on the exact area of a ring, the difference of its two sums. The first corner may be any (`turned_round`), the ring backwards has the negative (`backwards`), a ring
-- cut in two along a chord has the sum of both (`cut`), and a corner repeated, or put on a side, changes nothing (`repeated`, `on_side_lem`). Equal exact areas are rounded alike.
use Rattle.std.specs.Prelude.{◌≡◌, refl, true, false, cond, List, [], ◌∷◌, ◌++◌, ℕ, ◌+◌, ◌-◌, ◌^◌, ◌≤◌, ◌<◌, leb, Float}
use Rattle.std.proofs.Common.{sym, ap, ◌∙◌, ⊎_elim, add_comm, arith, le-leb}
use Rattle.std.specs.Float.{binary64}
use Rattle.std.specs.Float.Ieee.{round}
use Rattle.std.proofs.lemmas.Bool.{lt-leb}
use Rattle.base.specs.common.laws.Decide.{lt_or_ge}
use Rattle.plane.specs.declared.points.Point.{Point}
use Rattle.ring_area.specs.Area.{product_above, product_under, gain, loss, gains, losses, rounded_half, area}
use Rattle.area_laws.specs.laws.Sides.{above_swap, under_swap, gains_last, losses_last, gains_by, losses_by}

-- g - l and h - m are the same
pub record SameArea (g l h m : ℕ) : Type 0 where
  pub sums : g + m ≡ h + l

abbrev by : ℕ → ℕ → Float
by a b = cond (leb a b) (round binary64 false (b - a) (2 ^ 2149)) (round binary64 true (a - b) (2 ^ 2149))

-- and then their rounding is
pub settled_same : (g l h m : ℕ) → SameArea g l h m → rounded_half g l ≡ rounded_half h m
unfolding rounded_half
settled_same g l h m s = ⊎_elim less more (lt_or_ge g l)
  where
    e : g + m ≡ h + l
    e = s.sums

    more : l ≤ g → by l g ≡ by m h
    more a =
        let b : m ≤ h = omega arith in
        let d : g - l ≡ h - m = omega arith in
        rw (le-leb l g a, le-leb m h b, d) refl

    less : g < l → by l g ≡ by m h
    less a =
        let b : h < m = omega arith in
        let d : l - g ≡ m - h = omega arith in
        rw (lt-leb l g a, lt-leb m h b, d) refl

pub gain_back : (p q : Point) → gain p q ≡ loss q p
gain_back p q =
    ap (λ (n : ℕ). n + product_under p.x q.y) (above_swap p.y q.x)
    ∙ ap (λ (n : ℕ). product_above q.x p.y + n) (under_swap p.x q.y)
    ∙ add_comm (product_above q.x p.y) (product_under q.y p.x)

-- ---- the first corner may be any
pub turned_round : (p q : Point) (r : List Point) → area (p ∷ q ∷ r) ≡ area (q ∷ r ++ p ∷ [])
unfolding area gains losses
turned_round p q r =
    ap (λ (n : ℕ). rounded_half n (loss p q + losses p q r)) (add_comm (gain p q) (gains p q r) ∙ sym (gains_last q q p r))
    ∙ ap (rounded_half (gains q q (r ++ p ∷ []))) (add_comm (loss p q) (losses p q r) ∙ sym (losses_last q q p r))

-- ---- backwards: what was added is taken off, and what was taken off is added
abbrev pub other_way : List Point → List Point
other_way [] = []
other_way (p ∷ r) = other_way r ++ p ∷ []

losses_turned : (a x : Point) (r : List Point) → losses a x (other_way r) ≡ gains x a r
unfolding gains losses
losses_turned a x [] = sym (gain_back a x)
losses_turned a x (y ∷ r) =
    losses_last a x y (other_way r)
    ∙ ap (λ (n : ℕ). n + loss y a) (losses_turned y x r)
    ∙ ap (λ (n : ℕ). gains x y r + n) (sym (gain_back a y))
    ∙ add_comm (gains x y r) (gain a y)

gains_turned : (a x : Point) (r : List Point) → gains a x (other_way r) ≡ losses x a r
unfolding gains losses
gains_turned a x [] = gain_back x a
gains_turned a x (y ∷ r) =
    gains_last a x y (other_way r)
    ∙ ap (λ (n : ℕ). n + gain y a) (gains_turned y x r)
    ∙ ap (λ (n : ℕ). losses x y r + n) (gain_back y a)
    ∙ add_comm (losses x y r) (loss a y)

pub backwards : (p : Point) (r : List Point) → (gains p p (other_way r) ≡ losses p p r) × (losses p p (other_way r) ≡ gains p p r)
backwards p r = (gains_turned p p r, losses_turned p p r)

-- ---- cut along the chord from p to q
pub cut : (p q : Point) (r s : List Point) → SameArea (gains p p (r ++ q ∷ s)) (losses p p (r ++ q ∷ s))
    (gains p p (r ++ q ∷ []) + gains p p (q ∷ s)) (losses p p (r ++ q ∷ []) + losses p p (q ∷ s))
unfolding gains losses
cut p q r s = record {
  sums = go (gains q p r) (losses q p r) (gains p q s) (losses p q s) (gain p q) (gain q p) (loss p q) (loss q p) _ _ _ _ (gains_by p p q r s) (losses_by p p q r s) (gains_last p p q r)
      (losses_last p p q r) (gain_back p q) (gain_back q p);
}
  where
    go : (a b c d e f g h G L G₁ L₁ : ℕ) → G ≡ a + c → L ≡ b + d → G₁ ≡ a + f → L₁ ≡ b + h → e ≡ h → f ≡ g → G + (L₁ + (g + d)) ≡ G₁ + (e + c) + L
    go a b c d e f g h G L G₁ L₁ x y z w u v = omega arith

-- ---- a corner repeated, and a corner q put on the side from p to s, where the triangle has no area
pub repeated : (a p : Point) (r : List Point) → SameArea (gains a p (p ∷ r)) (losses a p (p ∷ r)) (gains a p r) (losses a p r)
unfolding gains losses
repeated a p r = record { sums = go (gain p p) (loss p p) (gains a p r) (losses a p r) (gain_back p p) }
  where
    go : (e f g l : ℕ) → e ≡ f → e + g + l ≡ g + (f + l)
    go e f g l h = omega arith

pub on_side_lem : (a p q s : Point) (r : List Point) → gains p p (q ∷ s ∷ []) ≡ losses p p (q ∷ s ∷ [])
    → SameArea (gains a p (q ∷ s ∷ r)) (losses a p (q ∷ s ∷ r)) (gains a p (s ∷ r)) (losses a p (s ∷ r))
unfolding gains losses
on_side_lem a p q s r h = record {
  sums = go (gain p q) (gain q s) (gain s p) (loss p q) (loss q s) (loss s p) (gain p s) (loss p s) (gains a s r) (losses a s r) h (gain_back s p) (gain_back p s);
}
  where
    go : (a b c d e f u v g l : ℕ) → a + (b + c) ≡ d + (e + f) → c ≡ v → u ≡ f → a + (b + g) + (v + l) ≡ u + g + (d + (e + l))
    go a b c d e f u v g l h x y = omega arith
