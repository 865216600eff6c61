-- `cell_builder::clip_build` meets its contract: cells that were made can be put in their places, and the answer is settled from there.
use Prim.Native.Nat.{◌/◌}
use lib.ListN.{length}
use borrow.Author.Rules.{rules}
use Rattle.mesh.specs.Accepted.{mesh}
use Rattle.cell_builder.specs.Start.{extended_of}
use Rattle.cell_builder.specs.laws.BuildOutcome.{finishable}
use Rattle.cell_builder.specs.turned.laws.Marking.{no_marks}
use Rattle.cell_builder.proofs.clip_build.Statement.{statement}
use Rattle.cell_builder.proofs.clip_build.Tie as tie

-- the cells made, and the start from where they are asked for
abbrev Made : tie.After-slice_known-6-1 → tie.After-make_cells-p
Made c = c.before.before.before.before.before.before

abbrev Entry : tie.After-make_cells-arg-3-1 → tie.Start
Entry c = c.before.before.before.before.before.before.before.before.before.before.before.before

make_cells-requires : tie.Need-make_cells-p-requires
make_cells-requires c κs = ((Entry c).requires, no_marks)

settle-requires : tie.Need-settle-requires
settle-requires c κs =
    let m = Made c.before.before.before.before in
    let a = (Entry m.before).args in
    finishable (mesh a.sites.now a.triangles.now a.halfedges.now a.hull.now) a.table.now a.bounds a.owners _ _ _ _ _
    (extended_of a.sites.now a.triangles.now a.hull.now a.table.now a.bounds (length a.triangles.now / 3) a.vertices.now)
    m.make_cells-p.ensures

returns : tie.Need-returns
returns c =
    let k = c in
    let o = k in
    let m = Made o.before.before.before.before.before.before.before.before.before.before.before in
    record {
      progress = m.make_cells-p.result;
      marks = _;
      made_v = _;
      made_ix = _;
      made_off = _;
      makes = m.make_cells-p.ensures;
      settled = k.settle.ensures;
      long_v = o.vertices-1.given;
      long_ix = o.indexes-1.given;
      long_off = o.offsets-1.given;
    }

pub clip_build_spec : {M : Type 1} → statement M
clip_build_spec =
    tie.close
    (tie.spec make_cells-requires settle-requires (λ c. search rules) (λ c. search rules) (λ c. search rules) returns)
