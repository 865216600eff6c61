-- `cutting_writer::sites::cut_site`: a piece that was copied is the definition's.
use Rattle.cutting.specs.pen.Pen.{page}
use Rattle.cutting_writer.specs.sites.laws.Sheets.{center_room, copied_made}
use Rattle.cutting_writer.proofs.sites.cut_site.Goals as goal

pub copy_ring-requires : goal.copy_ring-requires
copy_ring-requires c =
    let a = c.args in
    let p = c.requires in
    (p.1, center_room a.b a.sites.now a.triangles.now a.halfedges.now a.centers a.t p.0 p.1 (page a.pen a.vertices.now a.indexes.now) p.2)

pub returns-in-Some : goal.returns-in-Some
returns-in-Some c =
    let a = c.args in
    let p = c.requires in
    copied_made a.b a.sites.now a.triangles.now a.halfedges.now a.centers a.t p.0 p.1 (page a.pen a.vertices.now a.indexes.now) p.2 c.in-Some.ensures
