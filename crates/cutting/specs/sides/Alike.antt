-- Theorem: places whose coordinates are equal as floats (0 and -0 too) are told apart by no exact product (`alike`), so that twice the area is a form of sides (`area_form`) and the pieces have
-- exactly the box's (`pieces_whole`, `pieces_fill`); and rings of places that are the same one by one have the same sum of any form (`round_alike`).
use Rattle.std.specs.Prelude.{◌≡◌, refl, Bool, true, false, cond, ◌||◌, List, [], ◌∷◌, map, ◌⊎◌, ℕ, ◌*◌, ◌/◌, ◌^◌, ◌<◌, eqb, Float}
use Rattle.std.proofs.Common.{sym, ap, ◌∙◌, inl, inr, ⊎_elim, mul_comm, eq-zero-or-pos, mul-pos, zero-mul, arith, eqb-true}
use Rattle.std.specs.Bool.{beq}
use Rattle.std.proofs.lemmas.Bool.{false≢true}
use Rattle.std.proofs.Math.Nat.{mul-div-mul_right, zero-div}
use Rattle.std.specs.Float.{nan, inf, fin}
use Rattle.std.specs.Float.Ieee.{up, down, unlike, eq}
use Rattle.std.specs.Float.Ieee.Fits.{down_pos}
use Rattle.base.specs.common.laws.And.{and_left, and_right}
use Rattle.root.specs.Root.{units}
use Rattle.plane.specs.declared.points.Point.{Point}
use Rattle.ring_area.specs.Area.{below, product_above, product_under}
use Rattle.area_laws.specs.laws.Sides.{above_swap, under_swap}
use Rattle.plane.specs.boxes.Box.{corners_of}
use Rattle.plane.specs.declared.boxes.BoundingBox.{BoundingBox}
use Rattle.cutting.specs.pen.Pen.{same_place}
use Rattle.cutting.specs.cuts.Numbers.{none, ◌∔◌, ◌≈◌}
use Rattle.cutting.specs.cuts.Rings.{At, sum_by}
use Rattle.cutting.specs.cuts.Whole.{Names}
use Rattle.cutting.specs.cuts.Written.{chain_to, round}
use Rattle.cutting.specs.corner.Corner.{Crossings}
use Rattle.cutting.specs.declared.corner.Corner.{Corner}
use Rattle.cutting.specs.declared.corner.Carrier.{Carrier}
use Rattle.cutting.specs.sides.Kept.{Ordered}
use Rattle.cutting.specs.sides.Exact.{piece_of, written_of, twice, BothWays, JoinedRings, AllFit, TurnsOnce, twice_round, pieces_form, written_form_lem}
use Rattle.cutting.specs.sides.Area.{between, potential, SideForm}
use Rattle.cutting.specs.sides.laws.Carried.{side_same, between_signed}

-- the same magnitude, and the same sign but for zeros
pub record SameValue (x y : Float) : Type 0 where
  pub magnitude : units x ≡ units y
  pub sign : (below x ≡ below y) ⊎ (units x ≡ 0)

same_ratio : (a b k d e : ℕ) → 0 < d → 0 < e → a * d ≡ b * e → a * k / e ≡ b * k / d
same_ratio a b k d e hd he q = sym (mul-div-mul_right (a * k) e hd) ∙ ap₂' ∙ mul-div-mul_right (b * k) d he
  where
    over : a * k * d ≡ b * k * e
    over = omega (arith, ap (λ (z : ℕ). z * k) q)

    ap₂' : a * k * d / (e * d) ≡ b * k * e / (d * e)
    ap₂' = rw (over, mul_comm e d) refl

no_factor : (a d : ℕ) → 0 < d → a * d ≡ 0 → a ≡ 0
no_factor a d h q = ⊎_elim (λ e. e) (λ p. absurd (omega (arith, mul-pos p h))) (eq-zero-or-pos a)

pub same_value : (x y : Float) → eq x y ≡ true → SameValue x y
unfolding eq
same_value nan y h = absurd (false≢true h)
same_value (inf s) nan h = absurd (false≢true h)
same_value (inf s) (inf t) h = record { magnitude = refl; sign = inr refl }
same_value (inf s) (fin t n d) h = absurd (false≢true h)
same_value (fin s m e) nan h = absurd (false≢true h)
same_value (fin s m e) (inf t) h = absurd (false≢true h)
same_value (fin s m e) (fin t n d) h = record {
  magnitude = same_ratio (m * up e) (n * up d) (2 ^ 1074) (down d) (down e) (down_pos d) (down_pos e) cross;
  sign = go s t (eqb a 0) refl (and_right (eqb a b) (beq s t || eqb a 0) h);
}
  where
    a : ℕ
    a = m * up e * down d

    b : ℕ
    b = n * up d * down e

    cross : m * up e * down d ≡ n * up d * down e
    cross = eqb-true a b (and_left (eqb a b) (beq s t || eqb a 0) h)

    nothing : eqb a 0 ≡ true → units (fin s m e) ≡ 0
    nothing z = rw (no_factor (m * up e) (down d) (down_pos d) (eqb-true a 0 z), zero-mul) (zero-div (down e))

    go : (s t z : Bool) → eqb a 0 ≡ z → (beq s t || z) ≡ true → (s ≡ t) ⊎ (units (fin s m e) ≡ 0)
    go s t true q k = inr (nothing q)
    go true true false q k = inl refl
    go true false false q k = absurd (false≢true k)
    go false true false q k = absurd (false≢true k)
    go false false false q k = inl refl

same_above : (x y z : Float) → SameValue x y → product_above x z ≡ product_above y z
same_above x y z v =
    ⊎_elim
    (λ e. ap (λ (s : Bool). cond (unlike s (below z)) 0 (units x * units z)) e ∙ ap (λ (m : ℕ). cond (unlike (below y) (below z)) 0 (m * units z)) v.magnitude)
    (λ e. zeros (below x) (below y) (units x) (units y) e (sym v.magnitude ∙ e))
    v.sign
  where
    zeros : (s t : Bool) (m n : ℕ) → m ≡ 0 → n ≡ 0 → cond (unlike s (below z)) 0 (m * units z) ≡ cond (unlike t (below z)) 0 (n * units z)
    zeros s t m n e f = rw (e, f, zero-mul) (none (unlike s (below z)) ∙ sym (none (unlike t (below z))))
      where
        none : (c : Bool) → cond {A = ℕ} c 0 0 ≡ 0
        none true = refl
        none false = refl

same_under : (x y z : Float) → SameValue x y → product_under x z ≡ product_under y z
same_under x y z v =
    ⊎_elim
    (λ e. ap (λ (s : Bool). cond (unlike s (below z)) (units x * units z) 0) e ∙ ap (λ (m : ℕ). cond (unlike (below y) (below z)) (m * units z) 0) v.magnitude)
    (λ e. zeros (below x) (below y) (units x) (units y) e (sym v.magnitude ∙ e))
    v.sign
  where
    zeros : (s t : Bool) (m n : ℕ) → m ≡ 0 → n ≡ 0 → cond (unlike s (below z)) (m * units z) 0 ≡ cond (unlike t (below z)) (n * units z) 0
    zeros s t m n e f = rw (e, f, zero-mul) (none (unlike s (below z)) ∙ sym (none (unlike t (below z))))
      where
        none : (c : Bool) → cond {A = ℕ} c 0 0 ≡ 0
        none true = refl
        none false = refl

pub alike : (p q : Point) → same_place p q ≡ true → (z : Point) → (between p z ≈ between q z) × (between z p ≈ between z q)
alike p q h z = (
  omega (arith, same_above p.y q.y z.x vy, same_under p.x q.x z.y vx, same_under p.y q.y z.x vy, same_above p.x q.x z.y vx),
  omega (
    arith,
    above_swap z.y p.x,
    above_swap z.y q.x,
    under_swap z.y p.x,
    under_swap z.y q.x,
    above_swap z.x p.y,
    above_swap z.x q.y,
    under_swap z.x p.y,
    under_swap z.x q.y,
    same_above p.x q.x z.y vx,
    same_under p.x q.x z.y vx,
    same_above p.y q.y z.x vy,
    same_under p.y q.y z.x vy,
  ),
)
  where
    vx : SameValue p.x q.x
    vx = same_value p.x q.x (and_left (eq p.x q.x) (eq p.y q.y) h)

    vy : SameValue p.y q.y
    vy = same_value p.y q.y (and_right (eq p.x q.x) (eq p.y q.y) h)

-- ---- twice the area is a form of sides
abbrev pub area_form : (b : BoundingBox) → SideForm b
area_form b = record { of = between; rise = potential b; signed = between_signed; alike = alike; straight = side_same b }

pub twice_rounds : (l : List (List Point)) → sum_by twice l ≈ sum_by (round between) l
twice_rounds [] = refl
twice_rounds (p ∷ l) = omega (arith, twice_round p, twice_rounds l)

module _ (b : BoundingBox) (ordered : Ordered b) (x : Crossings) (both : BothWays x) {N : Type 0} (names : Names Corner Carrier N) (rings : List (List (At Corner Carrier)))
    (border : List (At Corner Carrier)) (joined : JoinedRings names b rings border) (fit : AllFit b rings) (once : TurnsOnce b x border)
  where
    -- the exact areas of the pieces add up to exactly the box's
    pub pieces_whole : sum_by twice (map (piece_of b x) rings) ∔ twice (corners_of b) ≈ none
    pieces_whole = omega (arith, twice_rounds (map (piece_of b x) rings), twice_round (corners_of b), pieces_form b ordered x (area_form b) both names rings border joined fit once)

    -- as they are written too
    pub pieces_fill : sum_by twice (map (written_of b x) rings) ≈ twice (corners_of b)
    pieces_fill = omega (arith, twice_rounds (map (written_of b x) rings), twice_round (corners_of b), written_form_lem b ordered x (area_form b) both names rings border joined fit once)

-- ---- rings whose places are the same, one by one, by value: p, or one that equals it
abbrev pub StandsFor : Point → Point → Type 0
StandsFor q p = (q ≡ p) ⊎ (same_place p q ≡ true)

abbrev pub SamePlaces : List Point → List Point → Type 0
SamePlaces [] [] = Unit {0}
SamePlaces [] (p ∷ l) = ⊥
SamePlaces (q ∷ m) [] = ⊥
SamePlaces (q ∷ m) (p ∷ l) = StandsFor q p × SamePlaces m l

module _ {b : BoundingBox} (f : SideForm b) where
  from_alike : (q p z : Point) → StandsFor q p → f.of q z ≈ f.of p z
  from_alike q p z (inl e) = rw e (omega arith)
  from_alike q p z (inr h) = omega (arith, (f.alike p q h z).0)

  to_alike : (q p z : Point) → StandsFor q p → f.of z q ≈ f.of z p
  to_alike q p z (inl e) = rw e (omega arith)
  to_alike q p z (inr h) = omega (arith, (f.alike p q h z).1)

  edge_alike : (q p w z : Point) → StandsFor q p → StandsFor w z → f.of q w ≈ f.of p z
  edge_alike q p w z h k = omega (arith, from_alike q p w h, to_alike w z p k)

  chain_alike : (a c q p : Point) (m l : List Point) → StandsFor a c → StandsFor q p → SamePlaces m l → chain_to f.of a q m ≈ chain_to f.of c p l
  chain_alike a c q p [] [] h k s = edge_alike q p a c k h
  chain_alike a c q p [] (z ∷ l) h k s = absurd s
  chain_alike a c q p (w ∷ m) [] h k s = absurd s
  chain_alike a c q p (w ∷ m) (z ∷ l) h k s = omega (arith, edge_alike q p w z k s.0, chain_alike a c w z m l h s.0 s.1)

  pub round_alike : (m l : List Point) → SamePlaces m l → round f.of m ≈ round f.of l
  round_alike [] [] s = omega arith
  round_alike [] (p ∷ l) s = absurd s
  round_alike (q ∷ m) [] s = absurd s
  round_alike (q ∷ m) (p ∷ l) s = chain_alike q p q p m l s.0 s.0 s.1
