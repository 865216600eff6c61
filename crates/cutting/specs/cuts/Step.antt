-- Theorems: one cut. A sum over a cut ring is a sum over the ring itself (`cut_sum`); what changes its sign with an edge's direction does so before the cut
-- (`before_antisymmetric`); a difference of a potential is one before the cut, on a carrier that crosses the side in one corner (`before_potential`), and on one that
-- crosses it in two it is that and, each time that the second is passed, one fixed number (`before_turning`).
use Rattle.std.specs.Prelude.{◌≡◌, refl, Bool, true, false, cond, List, [], ◌∷◌, ◌++◌, ℕ}
use Rattle.std.proofs.Common.{true≢false, arith}
use Rattle.std.proofs.lemmas.Bool.{false≢true}
use Rattle.cutting.specs.cuts.Numbers.{Balance, none, ◌∔◌, ◌∸◌, ◌⨯◌, ◌≈◌}
use Rattle.cutting.specs.cuts.Rings.{At, EdgeForm, head_or, edges_to, total, sum_over}
use Rattle.cutting.specs.cuts.Cut.{Side, kept_by, kept, cut_to, cut_by, before_by, before_cut}

-- h is the difference of the potential U on carrier k: everywhere, and between corners of which D holds
abbrev pub Potential : {C K : Type 0} → EdgeForm C K → K → (C → Balance) → Type 0
Potential {C} h k U = (p q : C) → h p q k ≈ U q ∸ U p

abbrev pub PotentialOn : {C K : Type 0} → (C → Type 0) → EdgeForm C K → K → (C → Balance) → Type 0
PotentialOn {C} D h k U = (p q : C) → D p → D q → h p q k ≈ U q ∸ U p

-- h changes its sign with the direction of an edge on carrier k
abbrev pub Antisymmetric : {C K : Type 0} → EdgeForm C K → K → Type 0
Antisymmetric {C} h k = (p q : C) → h p q k ∔ h q p k ≈ none

-- ---- the step
-- the first corner that is left of a list whose first corner is within is that corner
pub first_kept : {C K : Type 0} (s : Side C K) (p : At C K) (q e : C) (o : List (At C K)) → s.within p.corner ≡ true → head_or e (kept s p q ++ o) ≡ p.corner
first_kept s p q e o = go (s.within p.corner) (s.within q)
  where
    go : (a b : Bool) → a ≡ true → head_or e (kept_by a b s p q ++ o) ≡ p.corner
    go true true z = refl
    go true false z = refl
    go false b z = absurd (false≢true z)

module _ {C K : Type 0} (s : Side C K) (h : EdgeForm C K) (U : C → Balance) (straight : Potential h s.along U) where
  -- the potential at x, where the ring is out
  abbrev owed : Bool → C → Balance
  owed true x = none
  owed false x = U x

  -- along a list that ends at f, where what is left of it ends at e
  open_sum : (f e : C) → (s.within f ≡ true → e ≡ f) → (l : List (At C K))
      → (owed (s.within (head_or f l)) (head_or e (cut_to s f l)) ∔ total h (edges_to e (cut_to s f l)) ≈ total (before_cut s U h) (edges_to f l) ∔ owed (s.within f) e)
      × (s.within (head_or f l) ≡ true → head_or e (cut_to s f l) ≡ head_or f l)
  open_sum f e closes [] = (omega arith, closes)
  open_sum f e closes (p ∷ r) = go (s.within p.corner) (s.within (head_or f r)) (cut_to s f r) (open_sum f e closes r)
    where
      q : C
      q = head_or f r

      go : (a b : Bool) (o : List (At C K))
          → (owed b (head_or e o) ∔ total h (edges_to e o) ≈ total (before_cut s U h) (edges_to f r) ∔ owed (s.within f) e) × (b ≡ true → head_or e o ≡ q)
          → (owed a (head_or e (kept_by a b s p q ++ o)) ∔ total h (edges_to e (kept_by a b s p q ++ o))
          ≈ before_by a b s U h p.corner q p.on ∔ total (before_cut s U h) (edges_to f r) ∔ owed (s.within f) e)
          × (a ≡ true → head_or e (kept_by a b s p q ++ o) ≡ p.corner)
      go true true o i = (rw (i.1 refl) (omega (arith, i.0)), λ _. refl)
      go true false o i = (omega (arith, i.0, straight (s.meet p.corner q p.on) (head_or e o)), λ _. refl)
      go false true o i = (rw (i.1 refl) (omega (arith, i.0)), λ z. absurd (false≢true z))
      go false false o i = (omega (arith, i.0), λ z. absurd (false≢true z))

  pub cut_sum : (ring : List (At C K)) → sum_over h (cut_by s ring) ≈ sum_over (before_cut s U h) ring
  cut_sum [] = refl
  cut_sum (p ∷ r) = go (cut_to s f (p ∷ r)) (λ e c. (open_sum f e c (p ∷ r)).0) (λ e. first_kept s p (head_or f r) e (cut_to s f r))
    where
      f : C
      f = p.corner

      go : (o : List (At C K)) → ((e : C) → (s.within f ≡ true → e ≡ f)
          → owed (s.within f) (head_or e o) ∔ total h (edges_to e o) ≈ sum_over (before_cut s U h) (p ∷ r) ∔ owed (s.within f) e)
          → ((e : C) → s.within f ≡ true → head_or e o ≡ f) → sum_over h o ≈ sum_over (before_cut s U h) (p ∷ r)
      go [] i j = omega (arith, i f (λ _. refl))
      go (w ∷ o) i j = omega (arith, i w.corner (j w.corner))

-- ---- the sign
module _ {C K : Type 0} (s : Side C K) (h : EdgeForm C K) (U : C → Balance) (k : K) where
  pub before_antisymmetric : ((p q : C) → s.meet p q k ≡ s.meet q p k) → Antisymmetric h k → Antisymmetric (before_cut s U h) k
  before_antisymmetric same anti p q = go (s.within p) (s.within q)
    where
      go : (a b : Bool) → before_by a b s U h p q k ∔ before_by b a s U h q p k ≈ none
      go true true = anti p q
      go true false = rw (same q p) (omega (arith, anti p (s.meet p q k)))
      go false true = rw (same q p) (omega (arith, anti q (s.meet p q k)))
      go false false = refl

-- ---- potentials
-- a potential W before the cut, on a carrier that crosses the side at c
abbrev pub back_by : {C : Type 0} → Bool → (C → Balance) → (C → Balance) → C → C → Balance
back_by true U W c p = W p
back_by false U W c p = W c ∸ U c

abbrev pub back : {C K : Type 0} → Side C K → (C → Balance) → (C → Balance) → C → C → Balance
back s U W c p = back_by (s.within p) U W c p

module _ {C K : Type 0} (s : Side C K) (h : EdgeForm C K) (U W : C → Balance) (k : K) where
  -- between corners of which D holds, where E holds of what is left of them
  pub before_potential_on : (D E : C → Type 0) → ((p : C) → D p → s.within p ≡ true → E p) → (c : C) → E c
      → ((p q : C) → D p → D q → (s.within p ≡ s.within q → ⊥) → s.meet p q k ≡ c) → PotentialOn E h k W → PotentialOn D (before_cut s U h) k (back s U W c)
  before_potential_on D E stays c ec meets pot p q dp dq = go (s.within p) (s.within q) (stays p dp) (stays q dq) (meets p q dp dq)
    where
      go : (a b : Bool) → (a ≡ true → E p) → (b ≡ true → E q) → ((a ≡ b → ⊥) → s.meet p q k ≡ c)
          → before_by a b s U h p q k ≈ back_by b U W c q ∸ back_by a U W c p
      go true true ep eq m = pot p q (ep refl) (eq refl)
      go true false ep eq m = rw (m true≢false) (omega (arith, pot p c (ep refl) ec))
      go false true ep eq m = rw (m false≢true) (omega (arith, pot c q ec (eq refl)))
      go false false ep eq m = omega arith

  pub before_potential : (c : C) → ((p q : C) → s.meet p q k ≡ c) → Potential h k W → Potential (before_cut s U h) k (back s U W c)
  before_potential c meets pot p q = before_potential_on (λ _. Unit {0}) (λ _. Unit {0}) (λ _ _ _. tt) c tt (λ p q _ _ _. meets p q) (λ p q _ _. pot p q) p q tt tt

-- ---- turns: a carrier that crosses the side at c, or at d where it `passes` there
-- what one passing adds
abbrev pub one_turn : {C : Type 0} → (C → Balance) → (C → Balance) → C → C → Balance
one_turn U W c d = W c ∸ U c ∸ (W d ∸ U d)

-- 1 where an edge comes in, and where it goes out, by the corner that is counted
abbrev pub passed_by : Bool → Bool → Bool → ℕ
passed_by true false true = 1
passed_by true false false = 0
passed_by true true b = 0
passed_by false a b = 0

abbrev pub comes_there : {C K : Type 0} → Side C K → (C → C → Bool) → C → C → ℕ
comes_there s passes p q = passed_by (s.within q) (s.within p) (passes p q)

abbrev pub goes_there : {C K : Type 0} → Side C K → (C → C → Bool) → C → C → ℕ
goes_there s passes p q = passed_by (s.within p) (s.within q) (passes p q)

module _ {C K : Type 0} (s : Side C K) (h : EdgeForm C K) (U W : C → Balance) (k : K) where
  pub before_turning : (D E : C → Type 0) → ((p : C) → D p → s.within p ≡ true → E p) → (c d : C) → E c → E d → (passes : C → C → Bool)
      → ((p q : C) → D p → D q → (s.within p ≡ s.within q → ⊥) → s.meet p q k ≡ cond (passes p q) d c) → PotentialOn E h k W
      → (p q : C) → D p → D q
      → before_cut s U h p q k ≈ back s U W c q ∸ back s U W c p ∔ comes_there s passes p q ⨯ one_turn U W c d ∸ goes_there s passes p q ⨯ one_turn U W c d
  before_turning D E stays c d ec ed passes meets pot p q dp dq = go (s.within p) (s.within q) (passes p q) (stays p dp) (stays q dq) (meets p q dp dq)
    where
      G : Balance
      G = one_turn U W c d

      go : (a b t : Bool) → (a ≡ true → E p) → (b ≡ true → E q) → ((a ≡ b → ⊥) → s.meet p q k ≡ cond t d c)
          → before_by a b s U h p q k ≈ back_by b U W c q ∸ back_by a U W c p ∔ passed_by b a t ⨯ G ∸ passed_by a b t ⨯ G
      go true true t ep eq m = omega (arith, pot p q (ep refl) (eq refl))
      go true false true ep eq m = rw (m true≢false) (omega (arith, pot p d (ep refl) ed))
      go true false false ep eq m = rw (m true≢false) (omega (arith, pot p c (ep refl) ec))
      go false true true ep eq m = rw (m false≢true) (omega (arith, pot d q ed (eq refl)))
      go false true false ep eq m = rw (m false≢true) (omega (arith, pot c q ec (eq refl)))
      go false false t ep eq m = omega arith
