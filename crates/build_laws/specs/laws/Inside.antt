-- What is inside the box: only a circumcenter, and it stays so as vertices are added; the first such vertex of a ring, or none.
use Rattle.std.specs.Prelude.{◌≡◌, refl, Bool, true, false, List, [], ◌∷◌, ℕ, zero, suc, ◌≤◌, ◌<◌, ltb, length, get_or}
use Rattle.std.proofs.Common.{ap, arith, ltb-true}
use Rattle.base.specs.common.Pick.{pick}
use Rattle.plane.specs.declared.points.Point.{Point}
use Rattle.plane.specs.sides.Sides.{inside_of}
use Rattle.plane.specs.declared.boxes.BoundingBox.{BoundingBox}
use Rattle.definition.specs.Cell.{vertex_at, in_box, first_inside}
use Rattle.build_laws.specs.laws.Grown.{Grown}

-- only a circumcenter is
pub in_center : (b : BoundingBox) (nc : ℕ) (vs : List Point) (v : ℕ) → in_box b nc vs v ≡ true → v < nc
unfolding in_box
in_center b nc vs v = by (ltb v nc) refl
  where
    by : (t : Bool) → ltb v nc ≡ t → pick t (λ _. inside_of b (vertex_at vs v)) (λ _. false) ≡ true → v < nc
    by true e h = ltb-true v nc e
    by false e h = let z : ◌≡◌ {A = ℕ} 0 1 = cc in absurd (omega arith)

-- and it stays so as vertices are added
pub in_grown : (b : BoundingBox) (nc : ℕ) (vs ws : List Point) (m v : ℕ) → nc ≤ length vs → Grown vs m ws → in_box b nc ws v ≡ in_box b nc vs v
unfolding in_box
in_grown b nc vs ws m v h g = by (ltb v nc) refl
  where
    by : (t : Bool) → ltb v nc ≡ t → pick t (λ _. inside_of b (vertex_at ws v)) (λ _. false) ≡ pick t (λ _. inside_of b (vertex_at vs v)) (λ _. false)
    by true e = ap (inside_of b) (g.kept v (omega (arith, ltb-true v nc e)))
    by false e = refl

pub first_inside_lem : (b : BoundingBox) (nc : ℕ) (vs : List Point) (ring : List ℕ) → first_inside b nc vs ring < length ring → in_box b nc vs (get_or ring (first_inside b nc vs ring) 0) ≡ true
unfolding first_inside
first_inside_lem b nc vs [] h = absurd (omega arith)
first_inside_lem b nc vs (q ∷ qs) h = by (in_box b nc vs q) refl (first_inside_lem b nc vs qs) h
  where
    by : (t : Bool) → in_box b nc vs q ≡ t → (first_inside b nc vs qs < length qs → in_box b nc vs (get_or qs (first_inside b nc vs qs) 0) ≡ true)
        → pick t (λ _. 0) (λ _. suc (first_inside b nc vs qs)) < suc (length qs) → in_box b nc vs (get_or (q ∷ qs) (pick t (λ _. 0) (λ _. suc (first_inside b nc vs qs))) 0) ≡ true
    by true e k l = e
    by false e k l = k (omega arith)

pub none_inside : (b : BoundingBox) (nc : ℕ) (vs : List Point) (ring : List ℕ) → length ring ≤ first_inside b nc vs ring → (i : ℕ)
    → i < length ring → in_box b nc vs (get_or ring i 0) ≡ false
unfolding first_inside
none_inside b nc vs [] h i l = absurd (omega arith)
none_inside b nc vs (q ∷ qs) h i l = by (in_box b nc vs q) refl (none_inside b nc vs qs) h i l
  where
    by : (t : Bool) → in_box b nc vs q ≡ t → (length qs ≤ first_inside b nc vs qs → (i : ℕ) → i < length qs → in_box b nc vs (get_or qs i 0) ≡ false)
        → suc (length qs) ≤ pick t (λ _. 0) (λ _. suc (first_inside b nc vs qs)) → (i : ℕ) → i < suc (length qs) → in_box b nc vs (get_or (q ∷ qs) i 0) ≡ false
    by true e k h i l = absurd (omega arith)
    by false e k h zero l = e
    by false e k h (suc i) l = k (omega arith) i (omega arith)
