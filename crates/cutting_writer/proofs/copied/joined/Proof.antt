-- `cutting_writer::copied::joined`: both tests as facts.
use Rattle.mesh.specs.Mesh.{next_of}
use Rattle.mesh.specs.laws.Next.{next_sum}
use lib.ListN.{get_or}
use mathlib.Core.Bool.{not, not-not, false≢true}
use mathlib.Core.Path.{sym, ap, ◌∙◌}
use native.Mathlib.Omega.{arith}
use Rattle.cutting_writer.proofs.copied.joined.Statement.{statement}
use Rattle.cutting_writer.proofs.copied.joined.Tie as tie

next_halfedge-requires : tie.Need-next_halfedge-requires
next_halfedge-requires c κs = omega (arith, c.wide.ensures)

mul-if1 : tie.Need-offset_bounds-halfedges-next_halfedge
mul-if1 c = omega (arith, c.next_halfedge.ensures, c.wide.ensures, next_sum c.wide.result, c.requires.0, c.requires.2)

shared_slice_read-if1 : tie.Need-bounds-halfedges-next_halfedge
shared_slice_read-if1 c = omega (
  arith,
  c.next_halfedge.ensures,
  c.wide.ensures,
  next_sum c.wide.result,
  c.requires.1,
  c.requires.2,
)

returns-2 : tie.Need-returns
returns-2 c = λ z.
    let he = c.args.halfedges.now in
    record {
      step = sym c.if-halfedges-next_halfedge.false ∙ ap (λ k. get_or he k 0) (c.next_halfedge.ensures ∙ ap next_of c.wide.ensures);
      apart = sym c.same_place.ensures ∙ (sym (not-not _) ∙ ap not z);
    }

pub joined_spec : {M : Type 1} → statement M
joined_spec =
    tie.close (tie.spec (λ c κs. tt) next_halfedge-requires mul-if1 shared_slice_read-if1 (λ c z. absurd (false≢true z)) (λ c κs. tt) returns-2)
