-- `cutting_writer::sites::cut_any`: the ring, then the end of its piece.
use Rattle.cutting.specs.pen.Pen.{page}
use Rattle.cutting_writer.specs.sites.Pieces.{site_ink}
use Rattle.cutting_writer.specs.sites.laws.Sheets.{piece_ends, piece_made}
use borrow.Author.Rules.{rules}
use Rattle.cutting_writer.proofs.sites.cut_any.Statement.{statement}
use Rattle.cutting_writer.proofs.sites.cut_any.Tie as tie

abbrev Start : tie.After-end_piece-arg-1 → tie.Start
Start c = c.before.before.before.before.before.before.before.before.before.before.before.before.before

abbrev Cut-ring : tie.After-end_piece-arg-1 → tie.After-cut_ring-p
Cut-ring c = c.before.before.before.before.before

cut_ring-requires : tie.Need-cut_ring-p-requires
unfolding site_ink
cut_ring-requires c κs = c.requires

end_piece-requires : tie.Need-end_piece-requires
unfolding site_ink
end_piece-requires c κs = let a = (Start c).args in piece_ends a.b a.sites.now a.triangles.now a.halfedges.now a.centers
    (page a.pen a.vertices.now a.indexes.now) _ a.t (Cut-ring c).cut_ring-p.ensures (Start c).requires.2.room

same_length : tie.Need-shape_of-vertices
same_length c = search rules

same_length-2 : tie.Need-shape_of-indexes
same_length-2 c = search rules

returns : tie.Need-returns
unfolding site_ink
returns c =
    let a = (Start c.before.before.before).args in
    let e = c.end_piece.ensures in
    piece_made a.b a.sites.now a.triangles.now a.halfedges.now a.centers (page a.pen a.vertices.now a.indexes.now) _ a.t
    (Cut-ring c.before.before.before).cut_ring-p.ensures e.0 e.1

pub cut_any_spec : {M : Type 1} → statement M
cut_any_spec = tie.close (tie.spec cut_ring-requires end_piece-requires same_length same_length-2 returns)
