-- A build in its three stages, circumcenters, extensions and cells: what each says where the build is refused, and what they gave where it is not.
use Rattle.std.specs.Prelude.{◌≡◌, List, [], ◌++◌, ℕ, ◌/◌, length, get_or}
use Rattle.std.proofs.Math.Path.{refl}
use Rattle.std.proofs.Common.{sym, ap, ◌∙◌}
use Rattle.base.specs.common.Refusals.{Keeps, Breaks}
use Rattle.plane.specs.declared.points.Point.{Point}
use Rattle.plane.specs.boxes.Box.{corners_of}
use Rattle.plane.specs.declared.boxes.BoundingBox.{BoundingBox}
use Rattle.mesh.specs.Accepted.{Mesh, table_of, Accepted, site_count}
use Rattle.definition.specs.declared.Fault.{Fault}
use Rattle.definition.specs.Fault.{Outcome, ok, refused, and_then}
use Rattle.definition.specs.Build.{centers_from, owners_from, Extensions, extend_from, CellState, clip_hull, clip_rest, clip_all, lost_from, Built, build}
use Rattle.definition.specs.Short.{extensions}
use Rattle.build_laws.specs.Tries.{center_rule, centers_to, extension_rule, no_cells, HullTo, RestTo, AllExtended}
use Rattle.build_laws.specs.laws.Runs.{ok_same, not_both, then_ok, then_refused, Went, went, Halted, halted_first, halted_later, halted}
use Rattle.build_laws.specs.laws.BeforeCells.{centers_ok, kept_centers, centers_refused, broken_centers, extend_refused, broken_extend}

module _ (m : Mesh) (b : BoundingBox) where
  abbrev found : List ℕ
  found = owners_from m.sites m.triangles m.halfedges (table_of m) (site_count m.sites) (get_or m.hull 0 0) (corners_of b)

  abbrev built_from : CellState → Built
  built_from s = record { verts = s.verts; cells = s.cells; owners = found; lost = lost_from (length m.triangles / 3) 4 s.cells; steps = s.steps }

  abbrev pub all_cells : Extensions → Outcome Fault CellState
  all_cells x = clip_all b (length m.triangles / 3) m.triangles m.halfedges m.hull (table_of m) (site_count m.sites) found x

  abbrev cell_stage : Extensions → Outcome Fault Built
  cell_stage x = and_then (all_cells x) (λ s. ok (built_from s))

  abbrev extend_all : List Point → Outcome Fault Extensions
  extend_all centers = extend_from m.sites m.triangles m.hull (table_of m) (length m.triangles / 3) 0 (length m.hull) (extensions (centers ++ corners_of b) [] [])

  abbrev extend_stage : List Point → Outcome Fault Built
  extend_stage centers = and_then (extend_all centers) cell_stage

  stages : build m b ≡ and_then (centers_from m.sites m.triangles 0 (length m.triangles / 3) []) extend_stage
  unfolding build
  stages = refl

  -- ---- refused

  -- rule 11, rule 12, or the cells
  pub data Stage (f : Fault) : Type 0 where
    in_centers : Breaks (center_rule m.sites m.triangles) f → Stage f
    in_extensions : Keeps (center_rule m.sites m.triangles) → Breaks (extension_rule m) f → Stage f
    in_cells : (x : Extensions) → AllExtended m b x → all_cells x ≡ refused f → Stage f

module _ {m : Mesh} (a : Accepted m) (b : BoundingBox) where
  abbrev At : Fault → Type 0
  At f = Stage m b f

  pub refused_stage : {f : Fault} → build m b ≡ refused f → Stage m b f
  refused_stage {f} h = first (halted (centers_from m.sites m.triangles 0 (length m.triangles / 3) []) (extend_stage m b) (sym (stages m b) ∙ h))
    where
      third : (x : Extensions) → AllExtended m b x → Halted (all_cells m b x) (λ s. ok (built_from m b s)) f → At f
      third x g (halted_first e) = in_cells x g e
      third x g (halted_later s e k) = absurd (not_both k)

      second : Keeps (center_rule m.sites m.triangles) → Halted (extend_all m b (centers_to m.sites m.triangles (length m.triangles / 3))) (cell_stage m b) f → At f
      second kept (halted_first e) = in_extensions kept (extend_refused a b e)
      second kept (halted_later x e k) = third x (record { centers = kept; reached = e }) (halted (all_cells m b x) _ k)

      first : Halted (centers_from m.sites m.triangles 0 (length m.triangles / 3) []) (extend_stage m b) f → At f
      first (halted_first e) = in_centers (centers_refused m.sites m.triangles e)
      first (halted_later c e k) =
          let w = centers_ok m.sites m.triangles e in
          second w.0 (halted (extend_all m b (centers_to m.sites m.triangles (length m.triangles / 3))) _ (rw w.1 at k))

  pub stage_refused : {f : Fault} → Stage m b f → build m b ≡ refused f
  stage_refused (in_centers br) = stages m b ∙ then_refused _ (broken_centers m.sites m.triangles br)
  stage_refused (in_extensions kept br) = stages m b ∙ then_ok _ (kept_centers m.sites m.triangles kept) ∙ then_refused _ (broken_extend a b br)
  stage_refused (in_cells x g e) =
      stages m b ∙ then_ok _ (kept_centers m.sites m.triangles g.centers) ∙ then_ok _ g.reached ∙ then_refused (λ s. ok (built_from m b s)) e

-- ---- not refused

-- the states of a build that went through
pub record BuildRan (m : Mesh) (b : BoundingBox) (r : Built) : Type 0 where
  pub x : Extensions
  pub begun : AllExtended m b x
  pub h : CellState
  pub on_hull : HullTo m b x (length m.hull) h
  pub s : CellState
  pub rest : RestTo m b h (length m.triangles) s
  pub cells : r.cells ≡ s.cells
  pub steps : r.steps ≡ s.steps

module _ (m : Mesh) (b : BoundingBox) {r : Built} where
  hull_ran : (x : Extensions) (s : CellState) → AllExtended m b x → r.cells ≡ s.cells → r.steps ≡ s.steps
      → Went (clip_hull b (length m.triangles / 3) m.halfedges m.hull (table_of m) x.at 0 (length m.hull) (no_cells m b x))
      (λ h. clip_rest b (length m.triangles / 3) m.triangles m.halfedges 0 (length m.triangles) h) s → BuildRan m b r
  hull_ran x s g q t w = record { x = x; begun = g; h = w.value; on_hull = w.first; s = s; rest = w.then; cells = q; steps = t }

  cells_ran : (x : Extensions) → AllExtended m b x → Went (all_cells m b x) (λ s. ok (built_from m b s)) r → BuildRan m b r
  unfolding clip_all
  cells_ran x g w = hull_ran x w.value g (sym (ap (λ (u : Built). u.cells) (ok_same w.then))) (sym (ap (λ (u : Built). u.steps) (ok_same w.then))) (went _ _ w.first)

  extend_ran : Keeps (center_rule m.sites m.triangles) → Went (extend_all m b (centers_to m.sites m.triangles (length m.triangles / 3))) (cell_stage m b) r → BuildRan m b r
  extend_ran kept w = cells_ran w.value (record { centers = kept; reached = w.first }) (went (all_cells m b w.value) _ w.then)

  centers_ran : Went (centers_from m.sites m.triangles 0 (length m.triangles / 3) []) (extend_stage m b) r → BuildRan m b r
  centers_ran w =
      let c = centers_ok m.sites m.triangles w.first in
      extend_ran c.0 (went (extend_all m b (centers_to m.sites m.triangles (length m.triangles / 3))) _ (rw c.1 at w.then))

  pub ran : build m b ≡ ok r → BuildRan m b r
  ran is = centers_ran (went (centers_from m.sites m.triangles 0 (length m.triangles / 3) []) (extend_stage m b) (sym (stages m b) ∙ is))
