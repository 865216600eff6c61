-- The steps of an edge, of a ring and of all tries are as many as the points counted without them.
use Rattle.std.specs.Prelude.{◌≡◌, Bool, ◌&&◌, ltb, Float, length, get_or, take}
use Rattle.std.proofs.Math.Path.{refl, subst}
use Rattle.std.proofs.Common.{◌∙◌}
use Rattle.std.proofs.Math.Bool.{true, false}
use mathlib.Core.List.{List, [], ◌∷◌, ◌++◌}
use Prim.Native.Nat.{ℕ, zero, suc, ◌+◌}
use Prim.{tt}
use native.Mathlib.Omega.{arith}
use Rattle.std.proofs.Math.ListN.{length-append}
use Rattle.base.specs.common.Pick.{pick}
use Rattle.base.specs.numbers.Numbers.{EMPTY}
use Rattle.plane.specs.declared.points.Point.{Point}
use Rattle.plane.specs.declared.boxes.BoundingBox.{BoundingBox}
use Rattle.plane.specs.declared.lines.Crossing.{Crossing}
use Rattle.plane.specs.declared.lines.Crossing.TheVariants.{None, One, Two}
use Rattle.plane.specs.rays.Rules.{count_of}
use Rattle.vertices.specs.Add.{add_vertex}
use Rattle.mesh.specs.Mesh.{end_of}
use Rattle.mesh.specs.Hull.{next_site}
use Rattle.definition.specs.declared.Fault.{Fault}
use Rattle.definition.specs.Fault.{Outcome, ok, refused, and_then, at_edge}
use Rattle.definition.specs.Cell.{StepKind, extension, firstCrossing, secondCrossing, Taken, took, vertex_at, edge_crossing, EdgeClip, missed, once, twice, clip_with, clip_edge}
use Rattle.definition.specs.Cell.{Change, leave, enter_at, enter, cross_at, cross, clip_step, in_box, Tip, RingPart, step_to, steps_to, first_inside, turned, clip_from, clip_cell}
use Rattle.definition.specs.Build.{finite, extended, Extensions, extend_from, ring_from, hull_ring, CellState, clip_into, clip_hull, is_empty, clip_rest}
use Rattle.definition.specs.Short.{tip, parts_joined, extensions}
use Rattle.definition.specs.laws.Gives.{Gives, gives_map, gives_then, gives_at, picked}
use Rattle.build_laws.specs.Points.{kinds_of, steps_of, afterwards, edge_points, walk_points, ring_points, hull_points, rest_points}

-- ---- an edge

abbrev points_of : EdgeClip → ℕ
points_of missed = 0
points_of (once r) = 1
points_of (twice r t) = 2

clip_counts : (nc : ℕ) (vs : List Point) (x : Crossing) → points_of (clip_with nc vs x) ≡ count_of x
unfolding clip_with
clip_counts nc vs None = refl
clip_counts nc vs (One x y) = refl
clip_counts nc vs (Two x y u v) = refl

pub of_append : (k : StepKind) (ts us : List Taken) → steps_of k (ts ++ us) ≡ steps_of k ts + steps_of k us
of_append k [] us = omega arith
of_append k (t ∷ ts) us = omega (arith, of_append k ts us)

-- n steps: first a first crossing, then a second
pub record Takes (n : ℕ) (d : Change) : Type 0 where
  pub many : length d.steps ≡ n
  pub kinds : kinds_of d.steps ≡ take n (firstCrossing ∷ secondCrossing ∷ [])
  pub none : steps_of extension d.steps ≡ 0

takes : {n : ℕ} {d : Change} → length d.steps ≡ n → kinds_of d.steps ≡ take n (firstCrossing ∷ secondCrossing ∷ []) → steps_of extension d.steps ≡ 0 → Takes n d
takes p q r = record { many = p; kinds = q; none = r }

module _ (b : BoundingBox) (nc site : ℕ) where
  leaves : (p : ℕ) (os : List ℕ) (k : EdgeClip) → Gives (Takes (points_of k)) (leave p os k)
  unfolding leave
  leaves p os missed = tt
  leaves p os (once r) = takes refl refl refl
  leaves p os (twice r t) = takes refl refl refl

  enters : (os : List ℕ) (last : ℕ) (k : EdgeClip) → Gives (Takes (points_of k)) (enter b nc site os last k)
  unfolding enter enter_at
  enters os last missed = tt
  enters os last (once r) = takes refl refl refl
  enters os last (twice r t) = takes refl refl refl

  crosses : (vs : List Point) (os : List ℕ) (opened : Bool) (last : ℕ) (k : EdgeClip) → Gives (Takes (points_of k)) (cross b nc site vs os opened last k)
  unfolding cross cross_at
  crosses vs os opened last missed = takes refl refl refl
  crosses vs os opened last (once r) = tt
  crosses vs os opened last (twice r t) = takes refl refl refl

  counted : (o : Outcome ℕ Change) (vs : List Point) (p q : ℕ) → Gives (Takes (points_of (clip_edge b nc vs p q))) o
      → Gives (Takes (count_of (edge_crossing b (vertex_at vs p) (vertex_at vs q)))) o
  unfolding clip_edge
  counted o vs p q h = gives_map _ _ o h (λ d e. subst (λ (n : ℕ). Takes n d) (clip_counts nc vs _) e)

  pub step_taken : (p : ℕ) (p_in : Bool) (q : ℕ) (qIn : Bool) (vs : List Point) (os : List ℕ) (opened : Bool) (last : ℕ)
      → Gives (Takes (edge_points b nc vs p p_in q qIn)) (clip_step b nc site p p_in q qIn vs os opened last)
  unfolding clip_step edge_points
  step_taken p true q true vs os opened last = takes refl refl refl
  step_taken p true q false vs os opened last = counted (leave p os (clip_edge b nc vs p q)) vs p q (leaves p os _)
  step_taken p false q true vs os opened last = counted (enter b nc site os last (clip_edge b nc vs q p)) vs q p (enters os last _)
  step_taken p false q false vs os opened last = counted (cross b nc site vs os opened last (clip_edge b nc vs p q)) vs p q (crosses vs os opened last _)

  -- ---- a ring

  abbrev Walked : ℕ → RingPart → Type 0
  Walked n c = (length c.steps ≡ n) × (steps_of extension c.steps ≡ 0)

  to_taken : (t : Tip) (q : ℕ) → Gives (Walked (edge_points b nc t.verts t.p t.p_in q (in_box b nc t.verts q))) (step_to b nc site t q)
  unfolding step_to
  to_taken t q =
      let n = edge_points b nc t.verts t.p t.p_in q (in_box b nc t.verts q) in
      let o = clip_step b nc site t.p t.p_in q (in_box b nc t.verts q) t.verts t.owners t.opened t.last in
      gives_then (Takes n) (Walked n) (at_edge site t.p q o) _
      (gives_at (Takes n) site t.p q o (step_taken t.p t.p_in q (in_box b nc t.verts q) t.verts t.owners t.opened t.last)) (λ d h. (h.many, h.none))

  -- an edge, then the rest of the ring
  then_walked : (n : ℕ) (qs : List ℕ) (o : Outcome Fault RingPart) → Gives (Walked n) o
      → ((c : RingPart) → Gives (Walked (walk_points b nc site qs c.tip)) (steps_to b nc site qs c.tip))
      → Gives (Walked (n + afterwards o (λ c. walk_points b nc site qs c.tip))) (and_then o (λ c. and_then (steps_to b nc site qs c.tip) (λ d. ok (parts_joined c d))))
  unfolding and_then
  then_walked n qs (ok c) h g =
      gives_then (Walked (walk_points b nc site qs c.tip)) (Walked (n + walk_points b nc site qs c.tip)) (steps_to b nc site qs c.tip) _ (g c)
      (λ d e. (omega (arith, length-append c.steps d.steps, h.0, e.0), of_append extension c.steps d.steps ∙ omega (arith, h.1, e.1)))
  then_walked n qs (refused f) h g = tt

  walk_taken : (qs : List ℕ) (t : Tip) → Gives (Walked (walk_points b nc site qs t)) (steps_to b nc site qs t)
  unfolding steps_to walk_points
  walk_taken [] t = (refl, refl)
  walk_taken (q ∷ qs) t = then_walked _ qs (step_to b nc site t q) (to_taken t q) (λ c. walk_taken qs c.tip)

  pub cell_taken : (ring : List ℕ) (s : CellState) → Gives (Walked (ring_points b nc site ring s)) (clip_cell b nc site ring s.verts s.owners)
  unfolding clip_cell clip_from ring_points
  cell_taken ring s =
      by (ltb (first_inside b nc s.verts ring) (length ring)) (turned (first_inside b nc s.verts ring) ring) (turned 0 ring)
      (tip s.verts s.owners EMPTY (get_or ring (first_inside b nc s.verts ring) 0) true false) (tip s.verts s.owners EMPTY (get_or ring 0 0) false false)
    where
      by : (t : Bool) (ps qs : List ℕ) (u v : Tip) → Gives (Walked (pick t (λ _. walk_points b nc site ps u) (λ _. walk_points b nc site qs v)))
          (pick t (λ _. steps_to b nc site ps u) (λ _. steps_to b nc site qs v))
      by true ps qs u v = walk_taken ps u
      by false ps qs u v = walk_taken qs v

-- ---- all tries: the steps before, and as many more as there are points

module _ (b : BoundingBox) (nc : ℕ) where
  abbrev pub More : CellState → ℕ → CellState → Type 0
  More s n r = (length r.steps ≡ length s.steps + n) × (steps_of extension r.steps ≡ steps_of extension s.steps)

  into_taken : (site : ℕ) (ring : List ℕ) (s : CellState) → Gives (More s (ring_points b nc site ring s)) (clip_into b nc site ring s)
  unfolding clip_into
  into_taken site ring s =
      gives_then (λ (c : RingPart). (length c.steps ≡ ring_points b nc site ring s) × (steps_of extension c.steps ≡ 0)) (More s (ring_points b nc site ring s))
      (clip_cell b nc site ring s.verts s.owners) _
      (cell_taken b nc site ring s)
      (λ c h. (omega (arith, length-append s.steps c.steps, h.0), of_append extension s.steps c.steps ∙ omega (arith, h.1)))

  -- one try, then the others
  then_taken : (n : ℕ) (s : CellState) (o : Outcome Fault CellState) (k : CellState → Outcome Fault CellState) (p : CellState → ℕ) → Gives (More s n) o
      → ((r : CellState) → Gives (More r (p r)) (k r)) → Gives (More s (n + afterwards o p)) (and_then o k)
  unfolding and_then
  then_taken n s (ok r) k p h g = gives_map (More r (p r)) (More s (n + p r)) (k r) (g r) (λ t e. (omega (arith, h.0, e.0), e.1 ∙ h.1))
  then_taken n s (refused f) k p h g = tt

  pub hull_taken : (he hull table xs : List ℕ) (k i : ℕ) (s : CellState) → Gives (More s (hull_points b nc he hull table xs i k s)) (clip_hull b nc he hull table xs i k s)
  unfolding clip_hull hull_points
  hull_taken he hull table xs zero i s = (omega arith, refl)
  hull_taken he hull table xs (suc k) i s =
      then_taken _ s (clip_into b nc (get_or hull i 0) (hull_ring he hull table xs i) s) _ (λ r. hull_points b nc he hull table xs (suc i) k r)
      (into_taken (get_or hull i 0) (hull_ring he hull table xs i) s) (λ r. hull_taken he hull table xs k (suc i) r)

  pub rest_taken : (tri he : List ℕ) (k e : ℕ) (s : CellState) → Gives (More s (rest_points b nc tri he e k s)) (clip_rest b nc tri he e k s)
  unfolding clip_rest rest_points and_then
  rest_taken tri he zero e s = (omega arith, refl)
  rest_taken tri he (suc k) e s = by (is_empty (get_or s.cells (end_of tri e) [])) (λ r. rest_taken tri he k (suc e) r)
    where
      by : (t : Bool) → ((r : CellState) → Gives (More r (rest_points b nc tri he (suc e) k r)) (clip_rest b nc tri he (suc e) k r))
          → Gives (More s (pick t (λ _. ring_points b nc (end_of tri e) (ring_from he e) s
          + afterwards (clip_into b nc (end_of tri e) (ring_from he e) s) (λ r. rest_points b nc tri he (suc e) k r)) (λ _. rest_points b nc tri he (suc e) k s)))
          (and_then (pick t (λ _. clip_into b nc (end_of tri e) (ring_from he e) s) (λ _. ok s)) (λ r. clip_rest b nc tri he (suc e) k r))
      by true g = then_taken _ s (clip_into b nc (end_of tri e) (ring_from he e) s) _ (λ r. rest_points b nc tri he (suc e) k r) (into_taken (end_of tri e) (ring_from he e) s) g
      by false g = g s

-- ---- the extensions: one step for each hull place, each of that kind

pub extend_kinds : (sites : List Float) (tri hull table : List ℕ) (nc i k : ℕ) (x : Extensions)
    → Gives (λ (y : Extensions). steps_of extension y.steps ≡ steps_of extension x.steps + k) (extend_from sites tri hull table nc i k x)
unfolding extend_from
extend_kinds sites tri hull table nc i zero x = omega arith
extend_kinds sites tri hull table nc i (suc k) x =
    let p = extended sites tri x.verts (get_or table (next_site hull i) 0) in
    let r = add_vertex nc x.verts p in
    let y = extensions r.verts (x.at ++ r.at ∷ []) (x.steps ++ took extension r ∷ []) in
    picked (Gives (λ (z : Extensions). steps_of extension z.steps ≡ steps_of extension x.steps + suc k)) (finite p.x && finite p.y) _ _
    (λ e. gives_map _ _ (extend_from sites tri hull table nc (suc i) k y) (extend_kinds sites tri hull table nc (suc i) k y)
    (λ z q. omega (arith, q, of_append extension x.steps (took extension r ∷ []))))
    (λ e. tt)
