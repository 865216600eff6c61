-- Theorem: what the builder met is what the reason names: for 11 the lowest triangle whose circumcenter breaks its rule; for 12 the first hull place whose
-- extension does; for 13 and 14 the cell and the edge at which the builder stopped, every step before it having gone through. An empty cell of a site in use was tried in vain.
use Rattle.std.specs.Prelude.{◌≡◌, refl, List, [], ℕ, ◌/◌, ◌≤◌, length, get_or}
use Rattle.std.proofs.Common.{ap, ◌∙◌}
use Rattle.base.specs.common.Refusals.{Keeps, Breaks}
use Rattle.base.specs.numbers.Numbers.{refused_circumcenter, refused_extension, refused_no_crossing}
use Rattle.plane.specs.declared.boxes.BoundingBox.{BoundingBox}
use Rattle.mesh.specs.Mesh.{Used}
use Rattle.mesh.specs.Accepted.{Mesh, Accepted}
use Rattle.definition.specs.declared.Fault.{Fault}
use Rattle.definition.specs.Fault.{ok, refused}
use Rattle.definition.specs.Build.{Built, CellState, build}
use Rattle.definition.specs.Short.{fault}
use Rattle.build_laws.specs.Tries.{center_rule, extension_rule, TryOf, TriedInVain}
use Rattle.build_laws.specs.Met.{EdgeMet, FaultMet, at_triangle, at_hull_place, at_ring_edge}
use Rattle.build_laws.specs.FaultTheorem.{build_refused}
use Rattle.build_laws.specs.ByNumber.{edge_number}
use Rattle.build_laws.specs.TryTheorem.{tried_in_vain}
use Rattle.reasons.specs.declared.Reason.{Reason}
use Rattle.reasons.specs.declared.Reason.TheVariants.{AtTriangle, AtHullPlace, AtEdge}
use Rattle.reasons.specs.Reason.{of_fault}
use Rattle.reason_truth.specs.laws.Named.{center_named, extension_named, edge_named}

pub data BuilderTrue (m : Mesh) (b : BoundingBox) : Reason → Type 0 where
  center : {t : ℕ} → Breaks (center_rule m.sites m.triangles) (fault refused_circumcenter t 0 0) → BuilderTrue m b (AtTriangle refused_circumcenter t)
  extension : {i : ℕ} → Keeps (center_rule m.sites m.triangles) → Breaks (extension_rule m) (fault refused_extension i 0 0) → BuilderTrue m b (AtHullPlace refused_extension i)
  ring_edge : {n site p q : ℕ} → refused_no_crossing ≤ n → Keeps (center_rule m.sites m.triangles) → Keeps (extension_rule m) → {ring : List ℕ} {s : CellState}
      → TryOf m b site ring s → EdgeMet b (length m.triangles / 3) site ring s.verts s.owners p q n → BuilderTrue m b (AtEdge n site p q)

module _ {m : Mesh} {b : BoundingBox} where
  met_true : {f : Fault} → FaultMet m b f → BuilderTrue m b (of_fault f)
  met_true (at_triangle (t, first, l, e)) = rw (ap of_fault e ∙ center_named t) (center (t, first, l, refl))
  met_true (at_hull_place k (i, first, l, e)) = rw (ap of_fault e ∙ extension_named i) (extension k (i, first, l, refl))
  met_true {f} (at_ring_edge k x ring s t e) = let l = (edge_number e.breaks).0 in rw (edge_named f l) (ring_edge l k x t e)

  pub builder_true : Accepted m → {f : Fault} → build m b ≡ refused f → BuilderTrue m b (of_fault f)
  builder_true a e = met_true (build_refused a b e)

  -- every try gave nothing, and there was one
  pub vain_true : Accepted m → {r : Built} → build m b ≡ ok r → {s : ℕ} → Used m.triangles s → get_or r.cells s [] ≡ [] → TriedInVain m b s
  vain_true a is u e = tried_in_vain a b is u e
