-- Law: of places of which no two in a row are the same, at most one at the end is the first one again (`trimmed_once`): what the code leaves out is what the definition does.
use Rattle.std.specs.Prelude.{◌≡◌, refl, Bool, true, false, cond, List, [], ◌∷◌}
use Rattle.std.proofs.Common.{sym, ◌∙◌}
use Rattle.std.proofs.lemmas.Bool.{false≢true}
use Rattle.cutting.specs.cuts.Written.{skip, unrepeated, ends_by, trimmed}

-- the last of p and what comes after it; a list without its last
abbrev pub last_or : {C : Type 0} → C → List C → C
last_or p [] = p
last_or p (q ∷ r) = last_or q r

abbrev pub drop_last : {C : Type 0} → List C → List C
drop_last [] = []
drop_last (q ∷ []) = []
drop_last (q ∷ z ∷ r) = q ∷ drop_last (z ∷ r)

module _ {C : Type 0} (same : C → C → Bool) where
  abbrev Distinct : C → List C → Type 0
  Distinct p [] = Unit {0}
  Distinct p (q ∷ r) = (same p q ≡ false) × Distinct q r

  distinct : (p : C) (r : List C) → Distinct p (unrepeated same p r)
  distinct p [] = tt
  distinct p (q ∷ r) = go (same p q) refl (distinct p r) (distinct q r)
    where
      go : (b : Bool) → same p q ≡ b → Distinct p (unrepeated same p r) → Distinct q (unrepeated same q r) → Distinct p (skip b (unrepeated same p r) (q ∷ unrepeated same q r))
      go true h x y = x
      go false h x y = (h, y)

  module _ (joined : (p q z : C) → same p q ≡ true → same z q ≡ true → same p z ≡ true) (p : C) where
    ends_more : (b : Bool) (q z : C) (r : List C) → ends_by b q (z ∷ r) ≡ q ∷ z ∷ r
    ends_more true q z r = refl
    ends_more false q z r = refl

    once : (x q : C) (r : List C) → Distinct x (q ∷ r) → trimmed same p (q ∷ r) ≡ cond (same (last_or q r) p) (drop_last (q ∷ r)) (q ∷ r)
    once x q [] d = go (same q p)
      where
        go : (b : Bool) → ends_by b q [] ≡ cond b [] (q ∷ [])
        go true = refl
        go false = refl
    once x q (z ∷ []) d = go (same z p) refl (same q p) refl
      where
        go : (b : Bool) → same z p ≡ b → (a : Bool) → same q p ≡ a → ends_by a q (ends_by b z []) ≡ cond b (q ∷ []) (q ∷ z ∷ [])
        go true h true k = absurd (false≢true (sym d.1.0 ∙ joined q p z k h))
        go true h false k = refl
        go false h a k = ends_more a q z []
    once x q (z ∷ w ∷ r) d = go (same q p) (same (last_or w r) p) (once q z (w ∷ r) d.1)
      where
        go : (a b : Bool) → trimmed same p (z ∷ w ∷ r) ≡ cond b (z ∷ drop_last (w ∷ r)) (z ∷ w ∷ r)
            → ends_by a q (trimmed same p (z ∷ w ∷ r)) ≡ cond b (q ∷ z ∷ drop_last (w ∷ r)) (q ∷ z ∷ w ∷ r)
        go a true h = rw h (ends_more a q z (drop_last (w ∷ r)))
        go a false h = rw h (ends_more a q z (w ∷ r))

  pub trimmed_once : ((p q z : C) → same p q ≡ true → same z q ≡ true → same p z ≡ true) → (p q : C) (r r' : List C) → unrepeated same p r' ≡ q ∷ r
      → trimmed same p (q ∷ r) ≡ cond (same (last_or q r) p) (drop_last (q ∷ r)) (q ∷ r)
  trimmed_once joined p q r r' h = once joined p p q r (rw h at (distinct p r'))
