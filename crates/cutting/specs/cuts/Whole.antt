-- Theorem: pieces made by cutting add up exactly to the box. Of any rings whose edges come in opposite pairs but for those at infinity, the sum over all rings, each cut by the
-- four sides, is the sum round the box as often as the ring at infinity turns (`whole`, `whole_once`).
use Rattle.std.specs.Prelude.{◌≡◌, refl, Bool, true, false, List, [], ◌∷◌, map, ℕ, ◌+◌, ◌*◌, ◌<◌}
use Rattle.std.proofs.Common.{ap, arith}
use Rattle.cutting.specs.cuts.Numbers.{Balance, none, ◌∔◌, ◌∸◌, ◌⨯◌, ◌≈◌}
use Rattle.cutting.specs.cuts.Rings.{At, RingEdge, EdgeForm, ring_edges, edges_of_all, sum_by, of_edge, total, sum_over, sum_over_all}
use Rattle.cutting.specs.cuts.Step.{Potential, Antisymmetric, comes_there, goes_there}
use Rattle.cutting.specs.cuts.Pairs.{Test, often, left_over}
use Rattle.cutting.specs.cuts.Sides.{Fence, cut_all, before_all, SameBothWays, Fenced, antisymmetric_before, cut_rings}
use Rattle.cutting.specs.cuts.Turns.{count_over, AllOn, AtInfinity, turn_adds, far_ring}

-- the ring of the box: from corner to corner along the four sides, each corner where a side crosses the next
abbrev pub box_ring : {C K : Type 0} → Fence C K → Fence C K → Fence C K → Fence C K → List (At C K)
box_ring L T R B =
    record { corner = T.corner L.side.along; on = T.side.along } ∷ record { corner = R.corner T.side.along; on = R.side.along }
    ∷ record { corner = B.corner R.side.along; on = B.side.along } ∷ record { corner = B.corner L.side.along; on = L.side.along } ∷ []

-- which corners of the box, and which of those at infinity, are within which side. The line at infinity crosses the left side at its lower end, or at `up`, the top at its right
-- end, and the right side at its lower end
pub record InPlace {C K : Type 0} (L T R B : Fence C K) (far : K) (up : C) : Type 0 where
  pub lower_in_top : T.side.within (L.corner far) ≡ true
  pub lower_in_right : R.side.within (L.corner far) ≡ true
  pub lower_past_bottom : B.side.within (L.corner far) ≡ false
  pub upper_past_top : T.side.within up ≡ false
  pub top_past_right : R.side.within (T.corner far) ≡ false
  pub right_past_bottom : B.side.within (R.corner far) ≡ false
  pub left_top_in_right : R.side.within (T.corner L.side.along) ≡ true
  pub left_top_in_bottom : B.side.within (T.corner L.side.along) ≡ true
  pub top_right_in_bottom : B.side.within (R.corner T.side.along) ≡ true

-- what one turn adds is the sum round the box
module _ {C K : Type 0} (L T R B : Fence C K) (far : K) (up : C) (h : EdgeForm C K) (u : C → Balance) where
  pub turn_is_box : Fenced (L ∷ T ∷ R ∷ B ∷ []) h → InPlace L T R B far up → turn_adds L (T ∷ R ∷ B ∷ []) far u up ≈ sum_over h (box_ring L T R B)
  turn_is_box ok in_place =
      rw (
        in_place.lower_in_top,
        in_place.lower_in_right,
        in_place.lower_past_bottom,
        in_place.upper_past_top,
        in_place.top_past_right,
        in_place.right_past_bottom,
        in_place.left_top_in_right,
        in_place.left_top_in_bottom,
        in_place.top_right_in_bottom,
      )
      (omega (
        arith,
        ok.0 (B.corner L.side.along) (T.corner L.side.along),
        ok.2.0 (T.corner L.side.along) (R.corner T.side.along),
        ok.2.2.0 (R.corner T.side.along) (B.corner R.side.along),
        ok.2.2.2.0 (B.corner R.side.along) (B.corner L.side.along),
      ))

-- f is the edge e the other way round
pub record Reversed {C K : Type 0} (e f : RingEdge C K) : Type 0 where
  pub from : f.from ≡ e.to
  pub to : f.to ≡ e.from
  pub on : f.on ≡ e.on

-- edges by their names, and the name of the opposite edge
pub record Names (C K N : Type 0) : Type 0 where
  pub test : Test N
  pub edge : N → RingEdge C K
  pub opposite : N → N
  pub twice : (n : N) → opposite (opposite n) ≡ n

-- all rings' edges have names; they are the `pairs`, each of them as often as its opposite, and the edges of one ring at infinity
pub record NamedRings {C K N : Type 0} (names : Names C K N) (sides : List (Fence C K)) (h : EdgeForm C K) (far : K) (D : C → Type 0) (rings : List (List (At C K)))
    (infinity : List (At C K)) : Type 0
  where
    pub all : List N
    pub pairs : List N
    pub rest : List N
    pub all_named : map names.edge all ≡ edges_of_all rings
    pub rest_named : map names.edge rest ≡ ring_edges infinity
    pub parted : (n : N) → often names.test n all ≡ often names.test n pairs + often names.test n rest
    pub paired : (n : N) → often names.test (names.opposite n) pairs ≡ often names.test n pairs
    pub opposed : (n : N) → 0 < often names.test n pairs → Reversed (names.edge n) (names.edge (names.opposite n))
    pub both_ways : (n : N) → 0 < often names.test n pairs → SameBothWays sides (names.edge n).on
    pub signed : (n : N) → 0 < often names.test n pairs → Antisymmetric h (names.edge n).on
    pub at_infinity : AllOn far D infinity

total_named : {C K N : Type 0} (g : EdgeForm C K) (f : N → RingEdge C K) (l : List N) → total g (map f l) ≡ sum_by (λ n. of_edge g (f n)) l
total_named g f [] = refl
total_named g f (n ∷ l) = ap (λ z. of_edge g (f n) ∔ z) (total_named g f l)

opposites : {C K : Type 0} (g : EdgeForm C K) (e f : RingEdge C K) → Reversed e f → Antisymmetric g e.on → of_edge g e ∔ of_edge g f ≈ none
opposites g e f t anti = rw (t.from, t.to, t.on) (anti e.from e.to)

-- what is left of all edges are those at infinity
left_at_infinity : {C K N : Type 0} (names : Names C K N) (sides : List (Fence C K)) (h : EdgeForm C K) (far : K) (D : C → Type 0) (rings : List (List (At C K)))
    (infinity : List (At C K)) (mesh : NamedRings names sides h far D rings infinity) (g : EdgeForm C K)
    → ((n : N) → 0 < often names.test n mesh.pairs → Antisymmetric g (names.edge n).on) → total g (edges_of_all rings) ≈ sum_over g infinity
left_at_infinity names sides h far D rings infinity mesh g anti =
    rw (← mesh.all_named, ← mesh.rest_named, total_named g names.edge mesh.all, total_named g names.edge mesh.rest)
    (left_over names.test names.opposite names.twice (λ n. of_edge g (names.edge n)) mesh.all mesh.pairs mesh.rest mesh.parted mesh.paired
    (λ n p. opposites g (names.edge n) (names.edge (names.opposite n)) (mesh.opposed n p) (anti n p)))

times_same : (n : ℕ) (a b : Balance) → a ≈ b → n ⨯ a ≈ n ⨯ b
times_same n a b e = omega (arith, ap (λ (z : ℕ). n * z) e)

chained : (s a f t b : Balance) (n m : ℕ) → s ≈ a → a ≈ f → f ≈ n ⨯ t ∸ m ⨯ t → t ≈ b → s ≈ n ⨯ b ∸ m ⨯ b
chained s a f t b n m e₁ e₂ e₃ e₄ = omega (arith, times_same n t b e₄, times_same m t b e₄)

one_more : (s b : Balance) (n m : ℕ) → n ≡ m + 1 → s ≈ n ⨯ b ∸ m ⨯ b → s ≈ b
one_more s b n m once e = go (rw once at e)
  where
    go : s ≈ (m + 1) ⨯ b ∸ m ⨯ b → s ≈ b
    go w = omega arith

module _ {C K N : Type 0} (L T R B : Fence C K) (far : K) (up : C) (passes : C → C → Bool) (D : C → Type 0) (h : EdgeForm C K) (u : C → Balance) (names : Names C K N)
    (rings : List (List (At C K))) (infinity : List (At C K))
  where
    abbrev pub sides : List (Fence C K)
    sides = L ∷ T ∷ R ∷ B ∷ []

    -- how often the ring at infinity comes in over the left side at `up`, and how often it goes out there
    abbrev pub turns_in : ℕ
    turns_in = count_over (comes_there L.side passes) (ring_edges infinity)

    abbrev pub turns_out : ℕ
    turns_out = count_over (goes_there L.side passes) (ring_edges infinity)

    -- the premises: h has a potential along each side and at infinity, the corners lie where they should, and the rings are those of a mesh
    pub record Premises : Type 1 where
      pub fenced : Fenced (L ∷ T ∷ R ∷ B ∷ []) h
      pub still : Potential h far u
      pub in_place : InPlace L T R B far up
      pub line : AtInfinity L (T ∷ R ∷ B ∷ []) far up passes D
      pub mesh : NamedRings names (L ∷ T ∷ R ∷ B ∷ []) h far D rings infinity

    module _ (ready : Premises) where
      pub whole : sum_over_all h (map (cut_all sides) rings) ≈ turns_in ⨯ sum_over h (box_ring L T R B) ∸ turns_out ⨯ sum_over h (box_ring L T R B)
      whole =
          chained (sum_over_all h (map (cut_all sides) rings)) (total (before_all sides h) (edges_of_all rings)) (sum_over (before_all sides h) infinity)
          (turn_adds L (T ∷ R ∷ B ∷ []) far u up) (sum_over h (box_ring L T R B)) turns_in turns_out
          (cut_rings h sides ready.fenced rings)
          (left_at_infinity names sides h far D rings infinity ready.mesh (before_all sides h)
          (λ n p. antisymmetric_before h sides (names.edge n).on (ready.mesh.both_ways n p) (ready.mesh.signed n p)))
          (far_ring h far u ready.still L (T ∷ R ∷ B ∷ []) up passes D ready.line infinity ready.mesh.at_infinity)
          (turn_is_box L T R B far up h u ready.fenced ready.in_place)

      pub whole_once : turns_in ≡ turns_out + 1 → sum_over_all h (map (cut_all sides) rings) ≈ sum_over h (box_ring L T R B)
      whole_once once = one_more (sum_over_all h (map (cut_all sides) rings)) (sum_over h (box_ring L T R B)) turns_in turns_out once whole
