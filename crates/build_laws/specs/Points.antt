-- The points where the edges of the rings that are clipped meet the box's border, counted along the build without its list of steps: an edge has as many as its crossing,
-- a ring those of its edges in the order walked, a build those of the rings of its tries. And steps by their kinds.
use Rattle.std.specs.Prelude.{Bool, true, false, List, [], ◌∷◌, map, ℕ, zero, suc, ◌+◌, ◌/◌, ltb, length, get_or}
use Rattle.base.specs.common.Pick.{pick}
use Rattle.base.specs.numbers.Numbers.{EMPTY}
use Rattle.plane.specs.declared.points.Point.{Point}
use Rattle.plane.specs.declared.boxes.BoundingBox.{BoundingBox}
use Rattle.plane.specs.rays.Rules.{count_of}
use Rattle.mesh.specs.Mesh.{end_of}
use Rattle.mesh.specs.Accepted.{Mesh, table_of}
use Rattle.definition.specs.Fault.{Outcome, ok, refused}
use Rattle.definition.specs.Cell.{StepKind, Taken, vertex_at, edge_crossing, in_box, Tip, RingPart, step_to, first_inside, turned}
use Rattle.definition.specs.Build.{Extensions, ring_from, hull_ring, CellState, clip_into, is_empty, clip_hull}
use Rattle.definition.specs.Short.{tip}
use Rattle.definition.specs.Reused.{is_kind}
use Rattle.build_laws.specs.Tries.{no_cells}

-- the kinds of some steps in turn, and how many are of a kind
abbrev pub kinds_of : List Taken → List StepKind
kinds_of ts = map (λ (t : Taken). t.kind) ts

abbrev pub steps_of : StepKind → List Taken → ℕ
steps_of k [] = 0
steps_of k (t ∷ ts) = is_kind k t.kind + steps_of k ts

-- what is counted after a step, nothing where it is refused
abbrev pub afterwards : {F A : Type 0} → Outcome F A → (A → ℕ) → ℕ
afterwards (ok a) n = n a
afterwards (refused f) n = 0

module _ (b : BoundingBox) (nc : ℕ) where
  -- the edge from p to q, pIn and qIn saying which end is inside: one that enters the box is taken from its end, one wholly inside meets nothing
  unfoldable pub edge_points : List Point → ℕ → Bool → ℕ → Bool → ℕ
  edge_points vs p p_in q qIn =
      pick p_in (λ _. pick qIn (λ _. 0) (λ _. count_of (edge_crossing b (vertex_at vs p) (vertex_at vs q))))
      (λ _. pick qIn (λ _. count_of (edge_crossing b (vertex_at vs q) (vertex_at vs p))) (λ _. count_of (edge_crossing b (vertex_at vs p) (vertex_at vs q))))

  -- the edges to the vertices qs, from where the walk stands
  unfoldable pub walk_points : ℕ → List ℕ → Tip → ℕ
  walk_points site [] t = 0
  walk_points site (q ∷ qs) t = edge_points t.verts t.p t.p_in q (in_box b nc t.verts q) + afterwards (step_to b nc site t q) (λ (c : RingPart). walk_points site qs c.tip)

  -- the whole ring, from the first vertex inside, else from the first
  unfoldable pub ring_points : ℕ → List ℕ → CellState → ℕ
  ring_points site ring s =
      let f = first_inside b nc s.verts ring in
      pick (ltb f (length ring))
      (λ _. walk_points site (turned f ring) (tip s.verts s.owners EMPTY (get_or ring f 0) true false))
      (λ _. walk_points site (turned 0 ring) (tip s.verts s.owners EMPTY (get_or ring 0 0) false false))

  -- the rings of k hull places from i on
  unfoldable pub hull_points : List ℕ → List ℕ → List ℕ → List ℕ → ℕ → ℕ → CellState → ℕ
  hull_points he hull table xs i zero s = 0
  hull_points he hull table xs i (suc k) s =
      ring_points (get_or hull i 0) (hull_ring he hull table xs i) s
      + afterwards (clip_into b nc (get_or hull i 0) (hull_ring he hull table xs i) s) (λ (r : CellState). hull_points he hull table xs (suc i) k r)

  -- the rings of k half-edges from e on, each only where the cell of its site is still empty
  unfoldable pub rest_points : List ℕ → List ℕ → ℕ → ℕ → CellState → ℕ
  rest_points tri he e zero s = 0
  rest_points tri he e (suc k) s =
      let site = end_of tri e in
      pick (is_empty (get_or s.cells site []))
      (λ _. ring_points site (ring_from he e) s + afterwards (clip_into b nc site (ring_from he e) s) (λ (r : CellState). rest_points tri he (suc e) k r))
      (λ _. rest_points tri he (suc e) k s)

-- all rings of a build with these extensions
abbrev pub all_points : Mesh → BoundingBox → Extensions → ℕ
all_points m b x =
    let nc = length m.triangles / 3 in
    hull_points b nc m.halfedges m.hull (table_of m) x.at 0 (length m.hull) (no_cells m b x)
    + afterwards (clip_hull b nc m.halfedges m.hull (table_of m) x.at 0 (length m.hull) (no_cells m b x))
    (λ (h : CellState). rest_points b nc m.triangles m.halfedges 0 (length m.triangles) h)
