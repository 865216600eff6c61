-- Theorem: where a build is refused, its fault is what the builder met, at that step and no earlier one, and there is one such fault.
use Rattle.std.specs.Prelude.{◌≡◌, ◌/◌, length}
use Rattle.std.proofs.Common.{sym, ◌∙◌}
use Rattle.base.specs.common.Refusals.{Keeps}
use Rattle.plane.specs.declared.boxes.BoundingBox.{BoundingBox}
use Rattle.mesh.specs.Accepted.{Mesh, Accepted}
use Rattle.definition.specs.declared.Fault.{Fault}
use Rattle.definition.specs.Fault.{ok, refused}
use Rattle.definition.specs.Build.{Built, build}
use Rattle.build_laws.specs.Tries.{center_rule, extension_rule}
use Rattle.build_laws.specs.Met.{FaultMet, at_triangle, at_hull_place, at_ring_edge}
use Rattle.build_laws.specs.laws.Runs.{refused_same}
use Rattle.build_laws.specs.laws.BeforeCells.{extend_ok}
use Rattle.build_laws.specs.laws.RingFault.{met_clip}
use Rattle.build_laws.specs.laws.TryRuns.{tried_long}
use Rattle.build_laws.specs.laws.BuildStages.{Stage, in_centers, in_extensions, in_cells, refused_stage, stage_refused, ran}
use Rattle.build_laws.specs.laws.BuildFault.{cells_refused, refused_cells}

module _ {m : Mesh} (a : Accepted m) (b : BoundingBox) where
  pub build_refused : {f : Fault} → build m b ≡ refused f → FaultMet m b f
  build_refused {f} h = by (refused_stage a b h)
    where
      by : Stage m b f → FaultMet m b f
      by (in_centers br) = at_triangle br
      by (in_extensions kept br) = at_hull_place kept br
      by (in_cells x g e) = cells_refused a b x g e

  pub met_refused : {f : Fault} → FaultMet m b f → build m b ≡ refused f
  met_refused (at_triangle br) = stage_refused a b (in_centers br)
  met_refused (at_hull_place kept br) = stage_refused a b (in_extensions kept br)
  met_refused {f} (at_ring_edge c x ring s t e) =
      stage_refused a b (refused_cells a b f.place ring s t (met_clip b (length m.triangles / 3) f.place ring s.verts s.owners (tried_long a b t) e))

  pub one_met : {f g : Fault} → FaultMet m b f → FaultMet m b g → f ≡ g
  one_met e k = refused_same (sym (met_refused e) ∙ met_refused k)

  -- where it is not refused, rules 11 and 12 hold
  pub build_keeps : {r : Built} → build m b ≡ ok r → Keeps (center_rule m.sites m.triangles) × Keeps (extension_rule m)
  build_keeps is = let w = ran m b is in (w.begun.centers, extend_ok a b w.begun.reached)
