-- Theorem: any form of sides adds up, over the pieces that are cut from a mesh's rings by the four sides of a box, to what it is round the box (`pieces_form`; as the pieces are written,
-- `written_form_lem`). Twice the area is one of them.
use Rattle.std.specs.Prelude.{◌≡◌, List, [], ◌∷◌, map, ℕ, ◌+◌, ◌<◌, Float}
use Rattle.std.proofs.Math.Path.{refl}
use Rattle.std.proofs.Common.{ap}
use native.Mathlib.Omega.{arith}
use Rattle.plane.specs.points.Plane.{at}
use Rattle.plane.specs.declared.points.Point.{Point}
use Rattle.plane.specs.boxes.Box.{corners_of}
use Rattle.plane.specs.declared.boxes.BoundingBox.{BoundingBox}
use Rattle.ring_area.specs.Area.{gain, loss, gains, losses}
use Rattle.cutting.specs.cuts.Numbers.{Balance, none, ◌∔◌, ◌≈◌}
use Rattle.cutting.specs.cuts.Rings.{At, ring_edges, edges_of_all, sum_by, sum_over, sum_over_all}
use Rattle.cutting.specs.cuts.Step.{comes_there, goes_there}
use Rattle.cutting.specs.cuts.Edges.{AllEdges, same_form}
use Rattle.cutting.specs.cuts.Pairs.{often}
use Rattle.cutting.specs.cuts.Sides.{Fence, cut_all, SameBothWays, Fenced}
use Rattle.cutting.specs.cuts.Written.{chain_to, round, written_ring, written_sum}
use Rattle.cutting.specs.cuts.Turns.{count_over, AllOn, AtInfinity}
use Rattle.cutting.specs.cuts.Whole.{box_ring, InPlace, Reversed, Names, NamedRings, Premises, whole_once}
use Rattle.cutting.specs.pen.Pen.{same_place}
use Rattle.cutting.specs.corner.Corner.{on_side, near, upper_end, corner_of, Crossings, side_of}
use Rattle.cutting.specs.declared.corner.SideName.{SideName}
use Rattle.cutting.specs.declared.corner.SideName.TheVariants.{Left, Top, Right, Bottom}
use Rattle.cutting.specs.declared.corner.Corner.{Corner}
use Rattle.cutting.specs.declared.corner.Carrier.{Carrier}
use Rattle.cutting.specs.declared.corner.Carrier.TheVariants.{Bisector, Infinity}
use Rattle.cutting.specs.sides.Area.{potential, between, SideForm, plain, carried, places_of}
use Rattle.cutting.specs.sides.laws.Carried.{placed}
use Rattle.cutting.specs.sides.Kept.{Ordered, HasDirection, FitsCarrier}
use Rattle.cutting.specs.sides.laws.Keeping.{cut_by_places, lt_le, level_is, up_is, down_is, not_up_is}

-- a side with its potential, of a form
abbrev pub fence : BoundingBox → Crossings → (SideName → Point → Balance) → SideName → Fence Corner Carrier
fence b x u s = record { side = side_of b x s; potential = λ p. u s p.place; corner = corner_of b s }

-- the sides in the order of the cuts
abbrev pub fences_with : BoundingBox → Crossings → (SideName → Point → Balance) → List (Fence Corner Carrier)
fences_with b x u = fence b x u Left ∷ fence b x u Top ∷ fence b x u Right ∷ fence b x u Bottom ∷ []

abbrev pub fences : BoundingBox → Crossings → List (Fence Corner Carrier)
fences b x = fences_with b x (potential b)

-- the piece of a ring
abbrev pub piece_of : BoundingBox → Crossings → List (At Corner Carrier) → List Point
piece_of b x ring = places_of (cut_all (fences b x) ring)

-- the piece of a ring as it is written
abbrev pub written_of : BoundingBox → Crossings → List (At Corner Carrier) → List Point
written_of b x ring = written_ring same_place (piece_of b x ring)

-- twice the area of a ring of points, exact, by the sums of ring_area
abbrev pub twice : List Point → Balance
twice [] = none
twice (p ∷ r) = record { plus = gains p p r; minus = losses p p r }

-- which is a sum round the ring
round_gains : (a p : Point) (r : List Point) → (chain_to between a p r).plus ≡ gains a p r
unfolding gains
round_gains a p [] = refl
round_gains a p (q ∷ r) = ap (λ (n : ℕ). gain p q + n) (round_gains a q r)

round_losses : (a p : Point) (r : List Point) → (chain_to between a p r).minus ≡ losses a p r
unfolding losses
round_losses a p [] = refl
round_losses a p (q ∷ r) = ap (λ (n : ℕ). loss p q + n) (round_losses a q r)

pub twice_round : (l : List Point) → twice l ≈ round between l
twice_round [] = refl
twice_round (p ∷ r) = omega (arith, round_gains p p r, round_losses p p r)

-- the same from both ends of an edge
abbrev pub BothWays : Crossings → Type 0
BothWays x = (s : SideName) (i j : ℕ) (p q : Corner) → x.cross s i j p q ≡ x.cross s i j q p

-- all rings' edges have names. They are the `pairs`, on bisectors, each as often as its opposite, and those of the border, which is one ring at infinity. A corner at infinity has a direction
pub record JoinedRings {N : Type 0} (names : Names Corner Carrier N) (b : BoundingBox) (rings : List (List (At Corner Carrier))) (border : List (At Corner Carrier)) : Type 0 where
  pub all : List N
  pub pairs : List N
  pub rest : List N
  pub all_named : map names.edge all ≡ edges_of_all rings
  pub rest_named : map names.edge rest ≡ ring_edges border
  pub parted : (n : N) → often names.test n all ≡ often names.test n pairs + often names.test n rest
  pub paired : (n : N) → often names.test (names.opposite n) pairs ≡ often names.test n pairs
  pub opposed : (n : N) → 0 < often names.test n pairs → Reversed (names.edge n) (names.edge (names.opposite n))
  pub bisected : (n : N) → 0 < often names.test n pairs → (i : ℕ) × (j : ℕ) × ((names.edge n).on ≡ Bisector i j)
  pub bordered : AllOn Infinity (λ _. Unit {0}) border

-- how often the border comes in over the left side at its upper end, and how often it goes out there
abbrev pub comes_in : BoundingBox → Crossings → List (At Corner Carrier) → ℕ
comes_in b x border = count_over (comes_there (side_of b x Left) x.upward) (ring_edges border)

abbrev pub goes_out : BoundingBox → Crossings → List (At Corner Carrier) → ℕ
goes_out b x border = count_over (goes_there (side_of b x Left) x.upward) (ring_edges border)

-- the border turns once
abbrev pub TurnsOnce : BoundingBox → Crossings → List (At Corner Carrier) → Type 0
TurnsOnce b x border = comes_in b x border ≡ goes_out b x border + 1

-- an edge along a side lies on it, and one at infinity has far ends with a direction
abbrev pub AllFit : BoundingBox → List (List (At Corner Carrier)) → Type 0
AllFit b [] = Unit {0}
AllFit b (ring ∷ l) = AllEdges (FitsCarrier b HasDirection) (ring_edges ring) × AllFit b l

pub same_bisector : (b : BoundingBox) (x : Crossings) → BothWays x → (i j : ℕ) → SameBothWays (fences b x) (Bisector i j)
same_bisector b x both i j = (same Left, (same Top, (same Right, (same Bottom, tt))))
  where
    same : (s : SideName) (p q : Corner) → near (on_side b s (x.cross s i j p q)) ≡ near (on_side b s (x.cross s i j q p))
    same s p q = ap (λ (t : Float). near (on_side b s t)) (both s i j p q)

module _ (b : BoundingBox) (ordered : Ordered b) (x : Crossings) (f : SideForm b) where
  abbrev L : Fence Corner Carrier
  L = fence b x f.rise Left

  abbrev T : Fence Corner Carrier
  T = fence b x f.rise Top

  abbrev R : Fence Corner Carrier
  R = fence b x f.rise Right

  abbrev B : Fence Corner Carrier
  B = fence b x f.rise Bottom

  fenced : Fenced (fences_with b x f.rise) (carried f)
  fenced = (λ p q. refl, (λ p q. refl, (λ p q. refl, (λ p q. refl, tt))), (λ p q. refl, (λ p q. refl, (λ p q. refl, tt)), (λ p q. refl, (λ p q. refl, tt), (λ p q. refl, tt, tt))))

  in_place : InPlace L T R B Infinity (upper_end b)
  in_place = record {
    lower_in_top = rw (not_up_is, down_is) refl;
    lower_in_right = rw level_is (lt_le b.left b.right ordered.across);
    lower_past_bottom = rw down_is refl;
    upper_past_top = rw up_is refl;
    top_past_right = rw down_is refl;
    right_past_bottom = rw down_is refl;
    left_top_in_right = lt_le b.left b.right ordered.across;
    left_top_in_bottom = lt_le b.top b.bottom ordered.down;
    top_right_in_bottom = lt_le b.top b.bottom ordered.down;
  }

  line : AtInfinity L (T ∷ R ∷ B ∷ []) Infinity (upper_end b) x.upward (λ _. Unit {0})
  line = record {
    Left = λ _. Unit {0};
    stays = λ _ _ _. tt;
    first = tt;
    second = tt;
    meets = λ p q _ _ _. refl;
    narrows = (λ _. Unit {0}, λ _ _ _. tt, tt, λ p q _ _ _. refl, (λ _. Unit {0}, λ _ _ _. tt, tt, λ p q _ _ _. refl, (λ _. Unit {0}, λ _ _ _. tt, tt, λ p q _ _ _. refl, tt)));
  }

  -- ---- by places and by carriers
  pieces_carried : (rings : List (List (At Corner Carrier))) → AllFit b rings
      → sum_by (round f.of) (map (piece_of b x) rings) ≈ sum_over_all (carried f) (map (cut_all (fences_with b x f.rise)) rings)
  pieces_carried [] a = refl
  pieces_carried (ring ∷ l) a =
      omega (arith, placed f (cut_all (fences b x) ring), same_form (plain f) (carried f) (ring_edges (cut_all (fences b x) ring)) (cut_by_places b ordered x f ring a.0), pieces_carried l a.1)

  -- the ring of the box is its corners in the opposite order
  box_carried : sum_over (carried f) (box_ring L T R B) ∔ round f.of (corners_of b) ≈ none
  unfolding corners_of
  box_carried =
      omega (
        arith,
        f.straight Left (at b.left b.top) (at b.left b.bottom) refl refl,
        f.straight Bottom (at b.left b.bottom) (at b.right b.bottom) refl refl,
        f.straight Right (at b.right b.bottom) (at b.right b.top) refl refl,
        f.straight Top (at b.right b.top) (at b.left b.top) refl refl,
      )

  module _ (both : BothWays x) {N : Type 0} (names : Names Corner Carrier N) (rings : List (List (At Corner Carrier))) (border : List (At Corner Carrier))
      (joined : JoinedRings names b rings border) (fit : AllFit b rings)
    where
      mesh : NamedRings names (fences_with b x f.rise) (carried f) Infinity (λ _. Unit {0}) rings border
      mesh = record {
        all = joined.all;
        pairs = joined.pairs;
        rest = joined.rest;
        all_named = joined.all_named;
        rest_named = joined.rest_named;
        parted = joined.parted;
        paired = joined.paired;
        opposed = joined.opposed;
        both_ways = λ n p. let c = joined.bisected n p in rw c.2 (same_bisector b x both c.0 c.1);
        signed = λ n p. let c = joined.bisected n p in rw c.2 (λ v w. f.signed v.place w.place);
        at_infinity = joined.bordered;
      }

      ready : Premises L T R B Infinity (upper_end b) x.upward (λ _. Unit {0}) (carried f) (λ _. none) names rings border
      ready = record { fenced = fenced; still = λ p q. refl; in_place = in_place; line = line; mesh = mesh }

      -- the border turns once: the pieces, that run against the box's corners, add up to all of it
      pub pieces_form : TurnsOnce b x border → sum_by (round f.of) (map (piece_of b x) rings) ∔ round f.of (corners_of b) ≈ none
      pieces_form once =
          omega (
            arith,
            pieces_carried rings fit,
            box_carried,
            whole_once L T R B Infinity (upper_end b) x.upward (λ _. Unit {0}) (carried f) (λ _. none) names rings border ready once,
          )

      -- and as they are written: a place that comes twice in a row once, and against the walk
      written_pieces : (l : List (List (At Corner Carrier))) → sum_by (round f.of) (map (written_of b x) l) ∔ sum_by (round f.of) (map (piece_of b x) l) ≈ none
      written_pieces [] = refl
      written_pieces (ring ∷ l) = omega (arith, written_sum f.of f.signed same_place f.alike (piece_of b x ring), written_pieces l)

      pub written_form_lem : TurnsOnce b x border → sum_by (round f.of) (map (written_of b x) rings) ≈ round f.of (corners_of b)
      written_form_lem once = omega (arith, pieces_form once, written_pieces rings)
