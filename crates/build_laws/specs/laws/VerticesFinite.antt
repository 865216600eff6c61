-- Every vertex of a build that is not refused is finite: circumcenters by rule 11, extensions by rule 12, corners and crossings by rule 3. For any property P of
-- points that these four have, each vertex has it, since a build adds no other.
use Rattle.std.specs.Prelude.{◌≡◌, refl, Bool, ◌&&◌, Float, get_or, replicate, ltb}
use Rattle.std.proofs.Math.Bool.{true, false}
use mathlib.Core.List.{List, [], ◌∷◌, ◌++◌}
use Prim.{tt}
use Prim.Native.Nat.{ℕ, zero, suc, ◌/◌}
use Rattle.std.specs.Float.{nan, inf, fin}
use Rattle.std.proofs.Math.ListN.{length}
use Rattle.base.specs.common.Pick.{pick}
use Rattle.base.specs.common.Binary64.{◌⊟◌}
use Rattle.plane.specs.points.Plane.{at}
use Rattle.plane.specs.centers.Circumcenter.{ok_center}
use Rattle.plane.specs.centers.Finite.{center_bounded}
use Rattle.root.specs.Bounded.{Bounded}
use Rattle.plane.specs.boxes.Finite.{BoundedBox}
use Rattle.plane.specs.rays.Finite.{ray_bounded}
use Rattle.plane.specs.lines.Finite.{BoundedCrossing}
use Rattle.plane.specs.declared.points.Point.{Point}
use Rattle.plane.specs.boxes.Box.{corners_of}
use Rattle.plane.specs.declared.boxes.BoundingBox.{BoundingBox}
use Rattle.plane.specs.rays.Ray.{ray_of, order_of}
use Rattle.plane.specs.declared.lines.Crossing.{Crossing}
use Rattle.plane.specs.declared.lines.Crossing.TheVariants.{None, One, Two}
use Rattle.vertices.specs.Add.{add_vertex}
use Rattle.mesh.specs.Mesh.{end_of, leftmost_of}
use Rattle.mesh.specs.Accepted.{Mesh, site_count}
use Rattle.mesh.specs.Hull.{next_site}
use Rattle.definition.specs.Fault.{ok, at_edge}
use Rattle.definition.specs.Cell.{EdgeClip, missed, once, twice, Change, Tip, RingPart, first_is, on_edge, edge_crossing, clip_with, clip_edge, vertex_at, leave, enter_at, enter, cross_at, cross, clip_step}
use Rattle.definition.specs.Cell.{step_to, steps_to, in_box, first_inside, clip_from, clip_cell}
use Rattle.definition.specs.Build.{center_at, centers_from, finite, extended, Extensions, extend_from, CellState, clip_into, clip_hull, clip_rest, clip_all, hull_ring, ring_from, is_empty, Built, build}
use Rattle.definition.specs.Short.{extensions, cell_state}
use Rattle.definition.specs.laws.Gives.{Gives, gives_then, gives_at, picked}

module _ (P : Point → Type 0) where
  abbrev pub Each : List Point → Type 0
  Each [] = Unit {0}
  Each (p ∷ ps) = P p × Each ps

  each_append : (vs ws : List Point) → Each vs → Each ws → Each (vs ++ ws)
  each_append [] ws h g = g
  each_append (v ∷ vs) ws h g = (h.0, each_append vs ws h.1 g)

  add : (nc : ℕ) (vs : List Point) (p : Point) → Each vs → P p → Each (add_vertex nc vs p).verts
  unfolding add_vertex
  add nc vs p h g = picked Each (ltb _ (length vs)) _ _ (λ e. h) (λ e. each_append vs (p ∷ []) h (g, tt))

  abbrev pub OfCrossing : Crossing → Type 0
  OfCrossing None = Unit {0}
  OfCrossing (One x y) = P (at x y)
  OfCrossing (Two x y u v) = P (at x y) × P (at u v)

  abbrev OfClip : EdgeClip → Type 0
  OfClip missed = Unit {0}
  OfClip (once r) = Each r.verts
  OfClip (twice r t) = Each t.verts

  on_edge_lem : (p q d : Point) (c : Crossing) → OfCrossing c → OfCrossing (on_edge p q d c)
  on_edge_lem p q d None h = tt
  on_edge_lem p q d (One x y) h = h
  on_edge_lem p q d (Two x y u v) h = picked OfCrossing (first_is (order_of p d (Two q.x q.y x y)) x y) _ _ (λ e. h) (λ e. tt)

  clip_with_lem : (nc : ℕ) (vs : List Point) (c : Crossing) → Each vs → OfCrossing c → OfClip (clip_with nc vs c)
  unfolding clip_with
  clip_with_lem nc vs None h g = tt
  clip_with_lem nc vs (One x y) h g = add nc vs (at x y) h g
  clip_with_lem nc vs (Two x y u v) h g = add nc _ (at u v) (add nc vs (at x y) h g.0) g.1

  module _ (b : BoundingBox) (on_box : (p d : Point) → OfCrossing (ray_of b p d)) (nc : ℕ) where
    clip_edge_lem : (vs : List Point) (p q : ℕ) → Each vs → OfClip (clip_edge b nc vs p q)
    unfolding clip_edge edge_crossing
    clip_edge_lem vs p q h =
        let x = vertex_at vs p in
        let y = vertex_at vs q in
        let d = at (y.x ⊟ x.x) (y.y ⊟ x.y) in
        clip_with_lem nc vs (on_edge x y d (ray_of b x d)) h (on_edge_lem x y d (ray_of b x d) (on_box x d))

    abbrev Vs : Change → Type 0
    Vs d = Each d.verts

    leaves : (p : ℕ) (os : List ℕ) (k : EdgeClip) → OfClip k → Gives Vs (leave p os k)
    unfolding leave
    leaves p os missed h = tt
    leaves p os (once r) h = h
    leaves p os (twice r t) h = h

    enters : (site : ℕ) (os : List ℕ) (last : ℕ) (k : EdgeClip) → OfClip k → Gives Vs (enter b nc site os last k)
    unfolding enter enter_at
    enters site os last missed h = tt
    enters site os last (once r) h = h
    enters site os last (twice r t) h = h

    crosses : (site : ℕ) (vs : List Point) (os : List ℕ) (opened : Bool) (last : ℕ) (k : EdgeClip) → Each vs → OfClip k → Gives Vs (cross b nc site vs os opened last k)
    unfolding cross cross_at
    crosses site vs os opened last missed g h = g
    crosses site vs os opened last (once r) g h = tt
    crosses site vs os opened last (twice r t) g h = h

    steps : (site p : ℕ) (p_in : Bool) (q : ℕ) (qIn : Bool) (vs : List Point) (os : List ℕ) (opened : Bool) (last : ℕ) → Each vs
        → Gives Vs (clip_step b nc site p p_in q qIn vs os opened last)
    unfolding clip_step
    steps site p true q true vs os opened last h = h
    steps site p true q false vs os opened last h = leaves p os _ (clip_edge_lem vs p q h)
    steps site p false q true vs os opened last h = enters site os last _ (clip_edge_lem vs q p h)
    steps site p false q false vs os opened last h = crosses site vs os opened last _ h (clip_edge_lem vs p q h)

    abbrev Vp : RingPart → Type 0
    Vp c = Each c.tip.verts

    step_to_lem : (site : ℕ) (t : Tip) (q : ℕ) → Each t.verts → Gives Vp (step_to b nc site t q)
    unfolding step_to
    step_to_lem site t q h =
        gives_then Vs Vp (at_edge site t.p q (clip_step b nc site t.p t.p_in q (in_box b nc t.verts q) t.verts t.owners t.opened t.last)) _
        (gives_at Vs site t.p q _ (steps site t.p t.p_in q (in_box b nc t.verts q) t.verts t.owners t.opened t.last h))
        (λ d g. g)

    steps_to_lem : (site : ℕ) (qs : List ℕ) (t : Tip) → Each t.verts → Gives Vp (steps_to b nc site qs t)
    unfolding steps_to
    steps_to_lem site [] t h = h
    steps_to_lem site (q ∷ qs) t h =
        gives_then Vp Vp (step_to b nc site t q) _ (step_to_lem site t q h)
        (λ c g. gives_then Vp Vp (steps_to b nc site qs c.tip) _ (steps_to_lem site qs c.tip g) (λ d f. f))

    cell : (site : ℕ) (r : List ℕ) (vs : List Point) (os : List ℕ) → Each vs → Gives Vp (clip_cell b nc site r vs os)
    unfolding clip_cell clip_from
    cell site r vs os h = picked (Gives Vp) (ltb (first_inside b nc vs r) (length r)) _ _ (λ e. steps_to_lem site _ _ h) (λ e. steps_to_lem site _ _ h)

    abbrev Vc : CellState → Type 0
    Vc s = Each s.verts

    into : (site : ℕ) (r : List ℕ) (s : CellState) → Vc s → Gives Vc (clip_into b nc site r s)
    unfolding clip_into
    into site r s h = gives_then Vp Vc (clip_cell b nc site r s.verts s.owners) _ (cell site r s.verts s.owners h) (λ c g. g)

    on_hull_lem : (he hull left xs : List ℕ) (i k : ℕ) (s : CellState) → Vc s → Gives Vc (clip_hull b nc he hull left xs i k s)
    unfolding clip_hull
    on_hull_lem he hull left xs i zero s h = h
    on_hull_lem he hull left xs i (suc k) s h =
        gives_then Vc Vc (clip_into b nc (get_or hull i 0) (hull_ring he hull left xs i) s) _ (into _ _ s h) (λ r g. on_hull_lem he hull left xs (suc i) k r g)

    on_rest_lem : (tri he : List ℕ) (e k : ℕ) (s : CellState) → Vc s → Gives Vc (clip_rest b nc tri he e k s)
    unfolding clip_rest
    on_rest_lem tri he e zero s h = h
    on_rest_lem tri he e (suc k) s h =
        gives_then Vc Vc (pick (is_empty (get_or s.cells (end_of tri e) [])) (λ _. clip_into b nc (end_of tri e) (ring_from he e) s) (λ _. ok s)) _
        (picked (Gives Vc) (is_empty (get_or s.cells (end_of tri e) [])) _ _ (λ t. into _ _ s h) (λ t. h))
        (λ r g. on_rest_lem tri he (suc e) k r g)

    module _ (from-finite : (p : Point) → (finite p.x && finite p.y) ≡ true → P p) (sites : List Float) (tri hull left : List ℕ) where
      extends : (i k : ℕ) (x : Extensions) → Each x.verts → Gives (λ (y : Extensions). Each y.verts) (extend_from sites tri hull left nc i k x)
      unfolding extend_from
      extends i zero x h = h
      extends i (suc k) x h =
          let p = extended sites tri x.verts (get_or left (next_site hull i) 0) in
          picked (Gives (λ (y : Extensions). Each y.verts)) (finite p.x && finite p.y) _ _
          (λ e. extends (suc i) k _ (add nc x.verts p h (from-finite p e)))
          (λ e. tt)

  module _ (from-center : (p : Point) → ok_center p ≡ true → P p) (sites : List Float) (tri : List ℕ) where
    centers : (t k : ℕ) (vs : List Point) → Each vs → Gives Each (centers_from sites tri t k vs)
    unfolding centers_from
    centers t zero vs h = h
    centers t (suc k) vs h =
        let c = center_at sites tri t in
        picked (Gives Each) (ok_center c) _ _ (λ e. centers (suc t) k _ (each_append vs (c ∷ []) h (from-center c e, tt))) (λ e. tt)

  -- what the four kinds of vertices have
  pub record Kinds (b : BoundingBox) : Type 0 where
    pub of_center : (p : Point) → ok_center p ≡ true → P p
    pub of_finite : (p : Point) → (finite p.x && finite p.y) ≡ true → P p
    pub on_box : (p d : Point) → OfCrossing (ray_of b p d)
    pub of_corners : Each (corners_of b)

  module _ (b : BoundingBox) (k : Kinds b) where
    pub all_vertices : (m : Mesh) → Gives (λ (r : Built). Each r.verts) (build m b)
    unfolding build clip_all
    all_vertices m =
        let n = site_count m.sites in
        let nc = length m.triangles / 3 in
        let left = leftmost_of m.triangles m.halfedges n in
        gives_then Each _ (centers_from m.sites m.triangles 0 nc []) _ (centers k.of_center m.sites m.triangles 0 nc [] tt) λ c hc.
        gives_then (λ (y : Extensions). Each y.verts) _ (extend_from m.sites m.triangles m.hull left nc 0 (length m.hull) (extensions (c ++ corners_of b) [] [])) _
        (extends b k.on_box nc k.of_finite m.sites m.triangles m.hull left 0 (length m.hull) _ (each_append c (corners_of b) hc k.of_corners)) λ x hx.
        gives_then (λ (s : CellState). Each s.verts) _ (clip_all b nc m.triangles m.halfedges m.hull left n _ x) _
        (gives_then (λ (s : CellState). Each s.verts) _ (clip_hull b nc m.halfedges m.hull left x.at 0 (length m.hull) (cell_state x.verts _ (replicate n []) x.steps)) _
        (on_hull_lem b k.on_box nc m.halfedges m.hull left x.at 0 (length m.hull) _ hx) (λ s g. on_rest_lem b k.on_box nc m.triangles m.halfedges 0 (length m.triangles) s g))
        (λ s g. g)

-- ---- every vertex is finite
is_finite : (x : Float) (k : ℕ) → Bounded k x → finite x ≡ true
is_finite nan k h = absurd h
is_finite (inf s) k h = absurd h
is_finite (fin s m e) k h = refl

abbrev pub FinitePoint : Point → Type 0
FinitePoint p = (finite p.x && finite p.y) ≡ true

pub finite_both : (p : Point) (k : ℕ) → Bounded k p.x → Bounded k p.y → FinitePoint p
finite_both p k h g = rw (is_finite p.x k h, is_finite p.y k g)

crossing_finite : (k : ℕ) (c : Crossing) → BoundedCrossing k c → OfCrossing FinitePoint c
crossing_finite k None h = tt
crossing_finite k (One x y) h = finite_both (at x y) k h.0 h.1
crossing_finite k (Two x y u v) h = (finite_both (at x y) k h.0.0 h.0.1, finite_both (at u v) k h.1.0 h.1.1)

pub vertices_finite : {b : BoundingBox} → BoundedBox 101 b → (m : Mesh) → Gives (λ (r : Built). Each FinitePoint r.verts) (build m b)
unfolding corners_of
vertices_finite {b} h =
    all_vertices FinitePoint b (record {
      of_center = λ p e. finite_both p 400 (center_bounded p e).x (center_bounded p e).y;
      of_finite = λ p e. e;
      on_box = λ p d. crossing_finite 101 (ray_of b p d) (ray_bounded h p d);
      of_corners = (
        finite_both (at b.left b.top) 101 h.left h.top,
        (
          finite_both (at b.left b.bottom) 101 h.left h.bottom,
          (
            finite_both (at b.right b.bottom) 101 h.right h.bottom,
            (finite_both (at b.right b.top) 101 h.right h.top, tt),
          ),
        ),
      );
    })
