-- Theorem: how often a build takes the step that adds a point, without a sum of its counts. The extensions take it once for each hull place, an edge as often as its crossing
-- has points; so a build takes it for each hull place and for each point of each edge of each ring that was clipped. And each step added a vertex or took one again.
use Rattle.std.specs.Prelude.{◌≡◌, Bool, List, [], ◌∷◌, ◌++◌, ℕ, ◌+◌, ◌-◌, ◌/◌, length, take}
use Rattle.std.proofs.Common.{ap, ◌∙◌, arith, length-append}
use Rattle.plane.specs.declared.points.Point.{Point}
use Rattle.plane.specs.boxes.Box.{corners_of}
use Rattle.plane.specs.boxes.Finite.{BoundedBox}
use Rattle.plane.specs.declared.boxes.BoundingBox.{BoundingBox}
use Rattle.mesh.specs.Accepted.{Mesh, table_of, Accepted}
use Rattle.definition.specs.Fault.{ok}
use Rattle.definition.specs.Cell.{extension, firstCrossing, secondCrossing, Change, clip_step}
use Rattle.definition.specs.Build.{Extensions, CellState, Built, build, clip_hull}
use Rattle.definition.specs.Short.{extensions}
use Rattle.definition.specs.Reused.{reused_of}
use Rattle.definition.specs.laws.Gives.{gives_ok}
use Rattle.definition.proofs.laws.Reused.{taken_list}
use Rattle.build_laws.specs.Points.{kinds_of, steps_of, afterwards, edge_points, hull_points, rest_points, all_points}
use Rattle.build_laws.specs.Theorems.{room}
use Rattle.build_laws.specs.Tries.{centers_to, no_cells, AllExtended}
use Rattle.build_laws.specs.laws.BeforeCells.{centers_length}
use Rattle.build_laws.specs.laws.BuildStages.{ran}
use Rattle.build_laws.specs.laws.Start.{Extended, extend_from_lem}
use Rattle.build_laws.specs.laws.StepsTaken.{Takes, step_taken, extend_kinds, More, hull_taken, rest_taken}

-- an edge of a ring that is not refused: as many steps as its crossing has points, none where it is wholly inside; the first is of kind first, the second of kind second
pub edge_taken : (b : BoundingBox) (nc site p : ℕ) (p_in : Bool) (q : ℕ) (qIn : Bool) (vs : List Point) (os : List ℕ) (opened : Bool) (last : ℕ) {d : Change}
    → clip_step b nc site p p_in q qIn vs os opened last ≡ ok d
    → (length d.steps ≡ edge_points b nc vs p p_in q qIn) × (kinds_of d.steps ≡ take (edge_points b nc vs p p_in q qIn) (firstCrossing ∷ secondCrossing ∷ []))
edge_taken b nc site p p_in q qIn vs os opened last {d} e =
    let t : Takes (edge_points b nc vs p p_in q qIn) d = gives_ok _ (step_taken b nc site p p_in q qIn vs os opened last) e in
    (t.many, t.kinds)

-- the steps of kind extension are as many as hull places
pub extensions_taken : (m : Mesh) (b : BoundingBox) {r : Built} → build m b ≡ ok r → steps_of extension r.steps ≡ length m.hull
extensions_taken m b {r} is =
    let nc = length m.triangles / 3 in
    let w = ran m b is in
    let x : steps_of extension w.x.steps ≡ 0 + length m.hull =
    gives_ok _ (extend_kinds m.sites m.triangles m.hull (table_of m) nc 0 (length m.hull)
    (extensions (centers_to m.sites m.triangles nc ++ corners_of b) [] [])) w.begun.reached in
    let h : More b nc (no_cells m b w.x) (hull_points b nc m.halfedges m.hull (table_of m) w.x.at 0 (length m.hull) (no_cells m b w.x)) w.h =
    gives_ok _ (hull_taken b nc m.halfedges m.hull (table_of m) w.x.at (length m.hull) 0 (no_cells m b w.x)) w.on_hull in
    let s : More b nc w.h (rest_points b nc m.triangles m.halfedges 0 (length m.triangles) w.h) w.s =
    gives_ok _ (rest_taken b nc m.triangles m.halfedges (length m.triangles) 0 w.h) w.rest in
    ap (steps_of extension) w.steps ∙ s.1 ∙ h.1 ∙ omega (arith, x)

module _ {m : Mesh} (a : Accepted m) {b : BoundingBox} where
  -- the extensions: one step for each hull place
  extended_steps : {x : Extensions} → AllExtended m b x → length x.steps ≡ length m.hull
  extended_steps {x} g =
      let nc = length m.triangles / 3 in
      let centers = centers_to m.sites m.triangles nc in
      let begin = extensions (centers ++ corners_of b) [] [] in
      let e : Extended nc (length m.hull) begin x =
      gives_ok (Extended nc (length m.hull) begin)
      (extend_from_lem m.sites m.triangles m.hull (table_of m) nc 0 (length m.hull) begin
      (omega (arith, length-append centers (corners_of b), centers_length m.sites m.triangles nc)) (λ i h. absurd (omega arith))) g.reached in
      omega (arith, e.taken)

  -- the whole build: the hull places, and the points of all edges of all rings that were clipped
  pub build_taken : {r : Built} → build m b ≡ ok r → (x : Extensions) × AllExtended m b x × (length r.steps ≡ length m.hull + all_points m b x)
  build_taken {r} is =
      let nc = length m.triangles / 3 in
      let w = ran m b is in
      let h : More b nc (no_cells m b w.x) (hull_points b nc m.halfedges m.hull (table_of m) w.x.at 0 (length m.hull) (no_cells m b w.x)) w.h =
      gives_ok _ (hull_taken b nc m.halfedges m.hull (table_of m) w.x.at (length m.hull) 0 (no_cells m b w.x)) w.on_hull in
      let s : More b nc w.h (rest_points b nc m.triangles m.halfedges 0 (length m.triangles) w.h) w.s =
      gives_ok _ (rest_taken b nc m.triangles m.halfedges (length m.triangles) 0 w.h) w.rest in
      let rests : afterwards (clip_hull b nc m.halfedges m.hull (table_of m) w.x.at 0 (length m.hull) (no_cells m b w.x))
      (λ (t : CellState). rest_points b nc m.triangles m.halfedges 0 (length m.triangles) t)
      ≡ rest_points b nc m.triangles m.halfedges 0 (length m.triangles) w.h =
      ap (λ o. afterwards o (λ (t : CellState). rest_points b nc m.triangles m.halfedges 0 (length m.triangles) t)) w.on_hull in
      (w.x, w.begun, ap length w.steps ∙ omega (arith, h.0, s.0, rests, extended_steps w.begun))

  -- each step added a vertex or took one again; T circumcenters and four corners are not put by it
  pub taken : BoundedBox 101 b → {r : Built} → build m b ≡ ok r
      → (length r.verts - length m.triangles / 3 - 4) + reused_of extension r.steps + reused_of firstCrossing r.steps + reused_of secondCrossing r.steps ≡ length r.steps
  taken box {r} is = omega (arith, (room a box is).added, taken_list r.steps)
