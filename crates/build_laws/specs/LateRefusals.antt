-- Theorem: a build is refused with a number from 11 to 14, so that no refusal is taken for an earlier one or for none.
use Rattle.std.specs.Prelude.{[], ◌++◌, ◌/◌, length}
use Rattle.plane.specs.boxes.Box.{corners_of}
use Rattle.plane.specs.declared.boxes.BoundingBox.{BoundingBox}
use Rattle.mesh.specs.Accepted.{Mesh, site_count, table_of}
use Rattle.definition.specs.Build.{centers_from, extend_from, clip_all, build}
use Rattle.definition.specs.Short.{extensions}
use Rattle.build_laws.specs.Late.{Refuses, Numbered}
use Rattle.build_laws.specs.laws.LateRefusals.{late_then, late_centers, late_extensions, late_cells}

pub build_late : (m : Mesh) (b : BoundingBox) → Refuses Numbered (build m b)
unfolding build
build_late m b =
    let n = site_count m.sites in
    let nc = length m.triangles / 3 in
    let table = table_of m in
    late_then Numbered (centers_from m.sites m.triangles 0 nc []) _ (late_centers m.sites m.triangles 0 nc []) λ c.
    late_then Numbered (extend_from m.sites m.triangles m.hull table nc 0 (length m.hull) (extensions (c ++ corners_of b) [] [])) _
    (late_extensions m.sites m.triangles m.hull table nc 0 (length m.hull) _) λ x.
    late_then Numbered (clip_all b nc m.triangles m.halfedges m.hull table n _ x) _
    (late_cells b nc m.triangles m.halfedges m.hull table n _ x) (λ s. tt)
