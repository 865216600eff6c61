-- Theorem: how a piece is written changes no sum. A corner that is the same as the one before is left out, at the end those that are the same as the first, a piece of fewer than three
-- is empty, and what is left is written the other way round, which changes the sign (`written_sum`).
use Rattle.std.specs.Prelude.{◌≡◌, refl, Bool, true, false, List, [], ◌∷◌, ◌++◌}
use Rattle.std.proofs.Common.{arith}
use Rattle.cutting.specs.cuts.Numbers.{Balance, none, ◌∔◌, ◌≈◌}

-- the sum of g from corner to corner of a list, from p on and back to e; and round a list
abbrev pub chain_to : {C : Type 0} → (C → C → Balance) → C → C → List C → Balance
chain_to g e p [] = g p e
chain_to g e p (q ∷ r) = g p q ∔ chain_to g e q r

abbrev pub round : {C : Type 0} → (C → C → Balance) → List C → Balance
round g [] = none
round g (p ∷ r) = chain_to g p p r

-- the corners after p, each that is the same as the one that was kept before it left out
abbrev pub skip : {A : Type 0} → Bool → A → A → A
skip true a b = a
skip false a b = b

abbrev pub unrepeated : {C : Type 0} → (C → C → Bool) → C → List C → List C
unrepeated same p [] = []
unrepeated same p (q ∷ r) = skip (same p q) (unrepeated same p r) (q ∷ unrepeated same q r)

-- the corners after p without those at the end that are the same as p
abbrev pub ends_by : {C : Type 0} → Bool → C → List C → List C
ends_by true q [] = []
ends_by false q [] = q ∷ []
ends_by b q (z ∷ r) = q ∷ z ∷ r

abbrev pub trimmed : {C : Type 0} → (C → C → Bool) → C → List C → List C
trimmed same p [] = []
trimmed same p (q ∷ r) = ends_by (same q p) q (trimmed same p r)

-- fewer than three are none
abbrev pub three_or_none : {C : Type 0} → List C → List C
three_or_none [] = []
three_or_none (p ∷ []) = []
three_or_none (p ∷ q ∷ []) = []
three_or_none (p ∷ q ∷ z ∷ r) = p ∷ q ∷ z ∷ r

abbrev pub backward : {C : Type 0} → List C → List C
backward [] = []
backward (p ∷ r) = backward r ++ p ∷ []

abbrev pub written_ring : {C : Type 0} → (C → C → Bool) → List C → List C
written_ring same [] = []
written_ring same (p ∷ r) = backward (three_or_none (p ∷ trimmed same p (unrepeated same p r)))

module _ {C : Type 0} (g : C → C → Balance) (anti : (p q : C) → g p q ∔ g q p ≈ none) (same : C → C → Bool)
    (alike : (p q : C) → same p q ≡ true → (x : C) → (g p x ≈ g q x) × (g x p ≈ g x q))
  where
    nowhere : (p q : C) → same p q ≡ true → g p q ≈ none
    nowhere p q h = omega (arith, (alike p q h q).0, anti q q)

    moved : (e p q : C) → same p q ≡ true → (r : List C) → chain_to g e p r ≈ chain_to g e q r
    moved e p q h [] = (alike p q h e).0
    moved e p q h (z ∷ r) = omega (arith, (alike p q h z).0)

    unrepeated_sum : (e p : C) (r : List C) → chain_to g e p (unrepeated same p r) ≈ chain_to g e p r
    unrepeated_sum e p [] = omega arith
    unrepeated_sum e p (q ∷ r) = go (same p q) refl (unrepeated_sum e p r) (unrepeated_sum e q r)
      where
        go : (b : Bool) → same p q ≡ b → chain_to g e p (unrepeated same p r) ≈ chain_to g e p r → chain_to g e q (unrepeated same q r) ≈ chain_to g e q r
            → chain_to g e p (skip b (unrepeated same p r) (q ∷ unrepeated same q r)) ≈ g p q ∔ chain_to g e q r
        go true h i j = omega (arith, i, nowhere p q h, moved e p q h r)
        go false h i j = omega (arith, j)

    trimmed_sum : (p x : C) (r : List C) → chain_to g p x (trimmed same p r) ≈ chain_to g p x r
    trimmed_sum p x [] = omega arith
    trimmed_sum p x (q ∷ r) = go (same q p) refl (trimmed same p r) (trimmed_sum p q r)
      where
        go : (b : Bool) → same q p ≡ b → (l : List C) → chain_to g p q l ≈ chain_to g p q r → chain_to g p x (ends_by b q l) ≈ g x q ∔ chain_to g p q r
        go true h [] i = omega (arith, i, (alike q p h x).1, nowhere q p h)
        go false h [] i = omega (arith, i)
        go true h (z ∷ l) i = omega (arith, i)
        go false h (z ∷ l) i = omega (arith, i)

    few_sum : (l : List C) → round g (three_or_none l) ≈ round g l
    few_sum [] = refl
    few_sum (p ∷ []) = omega (arith, anti p p)
    few_sum (p ∷ q ∷ []) = omega (arith, anti p q)
    few_sum (p ∷ q ∷ z ∷ r) = omega arith

    -- the other way round
    last_sum : (e x y : C) (l : List C) → chain_to g e x (l ++ y ∷ []) ≈ chain_to g y x l ∔ g y e
    last_sum e x y [] = omega arith
    last_sum e x y (z ∷ l) = omega (arith, last_sum e z y l)

    rotated_sum : (p : C) (l : List C) → round g (l ++ p ∷ []) ≈ round g (p ∷ l)
    rotated_sum p [] = omega arith
    rotated_sum p (z ∷ l) = omega (arith, last_sum z z p l)

    back_sum : (a x : C) (r : List C) → chain_to g a x (backward r) ∔ chain_to g x a r ≈ none
    back_sum a x [] = anti x a
    back_sum a x (y ∷ r) = omega (arith, last_sum a x y (backward r), back_sum y x r, anti a y)

    other_way_sum : (l : List C) → round g (backward l) ∔ round g l ≈ none
    other_way_sum [] = refl
    other_way_sum (p ∷ r) = omega (arith, rotated_sum p (backward r), back_sum p p r)

    pub written_sum : (l : List C) → round g (written_ring same l) ∔ round g l ≈ none
    written_sum [] = refl
    written_sum (p ∷ r) =
        let t = trimmed same p (unrepeated same p r) in
        omega (arith, other_way_sum (three_or_none (p ∷ t)), few_sum (p ∷ t), trimmed_sum p p (unrepeated same p r), unrepeated_sum p p r)
