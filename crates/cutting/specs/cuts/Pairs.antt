-- Theorem: what changes its sign with an edge's direction cancels over edges that come in opposite pairs, so that of a sum the edges with no opposite are left
-- (`left_over`). The edges go by names of any kind, that a test tells apart: half-edges by their numbers.
use Rattle.std.specs.Prelude.{◌≡◌, refl, Bool, true, false, List, [], ◌∷◌, ◌++◌, map, ℕ, ◌+◌, ◌<◌}
use Rattle.std.proofs.Common.{sym, ap, ◌∙◌, arith}
use Rattle.cutting.specs.cuts.Numbers.{Balance, none, ◌∔◌, ◌≈◌}
use Rattle.cutting.specs.cuts.Rings.{sum_by}

-- a test that tells the members of E apart
pub record Test (E : Type 0) : Type 0 where
  pub same : E → E → Bool
  pub same_is : (a b : E) → same a b ≡ true → a ≡ b
  pub same_self : (a : E) → same a a ≡ true

abbrev pub once_if : Bool → ℕ
once_if true = 1
once_if false = 0

-- how often x stands in a list
abbrev pub often : {E : Type 0} → Test E → E → List E → ℕ
often t x [] = 0
often t x (y ∷ l) = once_if (t.same x y) + often t x l

abbrev plain : {E : Type 0} → (E → ℕ) → List E → ℕ
plain f [] = 0
plain f (x ∷ l) = f x + plain f l

abbrev pick : {A : Type 0} → Bool → A → A → A
pick true a b = a
pick false a b = b

plus_is : {E : Type 0} (g : E → Balance) (l : List E) → (sum_by g l).plus ≡ plain (λ e. (g e).plus) l
plus_is g [] = refl
plus_is g (x ∷ l) = ap (λ (n : ℕ). (g x).plus + n) (plus_is g l)

minus_is : {E : Type 0} (g : E → Balance) (l : List E) → (sum_by g l).minus ≡ plain (λ e. (g e).minus) l
minus_is g [] = refl
minus_is g (x ∷ l) = ap (λ (n : ℕ). (g x).minus + n) (minus_is g l)

pub sum_append : {E : Type 0} (g : E → Balance) (l m : List E) → sum_by g (l ++ m) ≈ sum_by g l ∔ sum_by g m
sum_append g [] m = omega arith
sum_append g (x ∷ l) m = omega (arith, sum_append g l m)

module _ {E : Type 0} (t : Test E) where
  -- a list without the first x
  abbrev without : E → List E → List E
  without x [] = []
  without x (y ∷ l) = pick (t.same x y) l (y ∷ without x l)

  out_sum : (f : E → ℕ) (x : E) (l : List E) → 0 < often t x l → plain f l ≡ f x + plain f (without x l)
  out_sum f x [] h = absurd (omega arith)
  out_sum f x (y ∷ l) h = go (t.same x y) (t.same_is x y) (out_sum f x l) h
    where
      go : (b : Bool) → (b ≡ true → x ≡ y) → (0 < often t x l → plain f l ≡ f x + plain f (without x l)) → 0 < once_if b + often t x l
          → f y + plain f l ≡ f x + plain f (pick b l (y ∷ without x l))
      go true e i p = rw (e refl) refl
      go false e i p = omega (arith, i (omega arith))

  out_often : (x z : E) (l : List E) → 0 < often t x l → often t z l ≡ once_if (t.same z x) + often t z (without x l)
  out_often x z [] h = absurd (omega arith)
  out_often x z (y ∷ l) h = go (t.same x y) (t.same_is x y) (out_often x z l) h
    where
      go : (b : Bool) → (b ≡ true → x ≡ y) → (0 < often t x l → often t z l ≡ once_if (t.same z x) + often t z (without x l)) → 0 < once_if b + often t x l
          → once_if (t.same z y) + often t z l ≡ once_if (t.same z x) + often t z (pick b l (y ∷ without x l))
      go true e i p = rw (e refl) refl
      go false e i p = omega (arith, i (omega arith))

  there : (x : E) (l : List E) → 0 < often t x (x ∷ l)
  there x l = rw (t.same_self x) (omega arith)

  plain_by_often : (f : E → ℕ) (l m : List E) → ((x : E) → often t x l ≡ often t x m) → plain f l ≡ plain f m
  plain_by_often f [] [] h = refl
  plain_by_often f [] (y ∷ m) h = absurd (omega (arith, h y, there y m))
  plain_by_often f (x ∷ l) m h =
      let p : 0 < often t x m = omega (arith, h x, there x l) in
      omega (arith, out_sum f x m p, plain_by_often f l (without x m) (λ z. omega (arith, h z, out_often x z m p)))

  -- lists that hold the same as often have one sum
  pub same_sum : (g : E → Balance) (l m : List E) → ((x : E) → often t x l ≡ often t x m) → sum_by g l ≈ sum_by g m
  same_sum g l m h =
      omega (arith, plus_is g l, plus_is g m, minus_is g l, minus_is g m, plain_by_often (λ e. (g e).plus) l m h, plain_by_often (λ e. (g e).minus) l m h)

  pub often_append : (x : E) (l m : List E) → often t x (l ++ m) ≡ often t x l + often t x m
  often_append x [] m = omega arith
  often_append x (y ∷ l) m = omega (arith, often_append x l m)

  module _ (back : E → E) (twice : (x : E) → back (back x) ≡ x) where
    moved : (x y : E) → t.same x (back y) ≡ true → t.same (back x) y ≡ true
    moved x y e = rw (t.same_is x (back y) e, twice y) (t.same_self y)

    moved_back : (x y : E) → t.same (back x) y ≡ true → t.same x (back y) ≡ true
    moved_back x y e = rw (← t.same_is (back x) y e, twice x) (t.same_self x)

    same_back : (x y : E) → t.same x (back y) ≡ t.same (back x) y
    same_back x y = go (t.same x (back y)) (t.same (back x) y) (moved x y) (moved_back x y)
      where
        go : (a b : Bool) → (a ≡ true → b ≡ true) → (b ≡ true → a ≡ true) → a ≡ b
        go true b f g = sym (f refl)
        go false true f g = g refl
        go false false f g = refl

    often_back : (x : E) (l : List E) → often t x (map back l) ≡ often t (back x) l
    often_back x [] = refl
    often_back x (y ∷ l) = rw (same_back x y, often_back x l) refl

    module _ (g : E → Balance) where
      opposite : (l : List E) → ((x : E) → 0 < often t x l → g x ∔ g (back x) ≈ none) → sum_by g l ∔ sum_by g (map back l) ≈ none
      opposite [] anti = refl
      opposite (y ∷ l) anti = omega (arith, anti y (there y l), opposite l (λ x p. anti x (omega arith)))

      -- over a list in which each edge's opposite is as often as the edge
      pub paired_none : (l : List E) → ((x : E) → often t (back x) l ≡ often t x l) → ((x : E) → 0 < often t x l → g x ∔ g (back x) ≈ none) → sum_by g l ≈ none
      paired_none l pairs anti = omega (arith, opposite l anti, same_sum g (map back l) l (λ x. often_back x l ∙ pairs x))

      pub left_over : (all pairs rest : List E) → ((x : E) → often t x all ≡ often t x pairs + often t x rest) → ((x : E) → often t (back x) pairs ≡ often t x pairs)
          → ((x : E) → 0 < often t x pairs → g x ∔ g (back x) ≈ none) → sum_by g all ≈ sum_by g rest
      left_over all pairs rest counts opposed anti =
          omega (arith, paired_none pairs opposed anti, sum_append g pairs rest, same_sum g all (pairs ++ rest) (λ x. counts x ∙ sym (often_append x pairs rest)))
