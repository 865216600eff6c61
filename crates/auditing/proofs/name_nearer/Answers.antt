-- `auditing::name_nearer` meets its contract: the first such corner and the first such other are there.
use Rattle.std.proofs.Common.{◌<◌, ◌/◌, length, refl, arith}
use Rattle.ring_area.specs.lowest.laws.Loops.{named_twice}
use Rattle.auditing.specs.nearer.Nearer.{held_count}
use Rattle.auditing.specs.nearer.laws.Pieces.{held_cut, held_names, piece_names, other_there, other_site}
use Rattle.auditing.specs.laws.Names.{corner_below, other_below, nearer_named}
use Rattle.auditing.proofs.name_nearer.Goals as goal

pub held-part-requires : goal.held-part-requires
held-part-requires c = held_cut c.requires.held c.args.s c.requires.own

pub first_nearer-k-requires : goal.first_nearer-k-requires
first_nearer-k-requires c = (
  held_names c.requires.held c.args.s c.requires.own c.no_lists-all.ensures c.held-part.ensures,
  piece_names c.requires.pieces c.args.s c.requires.own c.cell-entries.ensures,
)

-- the corner is one of the cell's
pub offset_bounds-entries-k : goal.offset_bounds-entries-k
offset_bounds-entries-k c = record {
  fits = omega (
    arith,
    corner_below c.args.far c.args.sites.now c.args.starts.now c.args.others.now c.args.vertices.now c.args.offsets.now c.args.indexes.now c.args.s
        c.no_lists-all.ensures c.held-part.ensures c.cell-entries.ensures c.first_nearer-k.ensures c.requires.nearer,
  );
}

pub bounds-entries-k : goal.bounds-entries-k
bounds-entries-k c =
    corner_below c.args.far c.args.sites.now c.args.starts.now c.args.others.now c.args.vertices.now c.args.offsets.now c.args.indexes.now c.args.s
    c.no_lists-all.ensures c.held-part.ensures c.cell-entries.ensures c.first_nearer-k.ensures c.requires.nearer

pub point_at-requires : goal.point_at-requires
point_at-requires c =
    let k = c.first_nearer-k.result in
    let below : k < length c.cell-entries.result.now =
    corner_below c.args.far c.args.sites.now c.args.starts.now c.args.others.now c.args.vertices.now c.args.offsets.now c.args.indexes.now c.args.s
    c.no_lists-all.ensures c.held-part.ensures c.cell-entries.ensures c.first_nearer-k.ensures c.requires.nearer in
    rw c.wide.ensures (named_twice _ _ ((piece_names c.requires.pieces c.args.s c.requires.own c.cell-entries.ensures).each k below))

pub first_beyond-j-requires : goal.first_beyond-j-requires
first_beyond-j-requires c = held_names c.requires.held c.args.s c.requires.own c.no_lists-all.ensures c.held-part.ensures

-- and the other is one of those held against it
pub other_at-o-requires : goal.other_at-o-requires
other_at-o-requires c =
    let below : c.first_nearer-k.result < length c.cell-entries.result.now =
    corner_below c.args.far c.args.sites.now c.args.starts.now c.args.others.now c.args.vertices.now c.args.offsets.now c.args.indexes.now c.args.s
    c.no_lists-all.ensures c.held-part.ensures c.cell-entries.ensures c.first_nearer-k.ensures c.requires.nearer in
    let other : c.first_beyond-j.result < held_count c.no_lists-all.result c.held-part.result.now (length c.args.sites.now / 2) =
    other_below c.args.far c.args.sites.now c.args.starts.now c.args.others.now c.args.vertices.now c.args.offsets.now c.args.indexes.now c.args.s
    c.no_lists-all.ensures c.held-part.ensures c.cell-entries.ensures c.first_nearer-k.ensures c.wide.ensures c.point_at.ensures c.first_beyond-j.ensures below in
    other_there c.no_lists-all.result _ _ _ refl other

pub narrow-requires-2 : goal.narrow-requires-2
narrow-requires-2 c =
    let below : c.first_nearer-k.result < length c.cell-entries.result.now =
    corner_below c.args.far c.args.sites.now c.args.starts.now c.args.others.now c.args.vertices.now c.args.offsets.now c.args.indexes.now c.args.s
    c.no_lists-all.ensures c.held-part.ensures c.cell-entries.ensures c.first_nearer-k.ensures c.requires.nearer in
    let other : c.first_beyond-j.result < held_count c.no_lists-all.result c.held-part.result.now (length c.args.sites.now / 2) =
    other_below c.args.far c.args.sites.now c.args.starts.now c.args.others.now c.args.vertices.now c.args.offsets.now c.args.indexes.now c.args.s
    c.no_lists-all.ensures c.held-part.ensures c.cell-entries.ensures c.first_nearer-k.ensures c.wide.ensures c.point_at.ensures c.first_beyond-j.ensures below in
    let names = held_names c.requires.held c.args.s c.requires.own c.no_lists-all.ensures c.held-part.ensures in
    omega (arith, c.other_at-o.ensures, c.requires.few, other_site c.no_lists-all.result c.held-part.result.now _ c.first_beyond-j.result refl other names.named)

pub returns : goal.returns
returns c =
    nearer_named c.args.far c.args.sites.now c.args.starts.now c.args.others.now c.args.vertices.now c.args.offsets.now c.args.indexes.now c.args.s
    c.no_lists-all.ensures c.held-part.ensures c.cell-entries.ensures c.first_nearer-k.ensures c.wide.ensures c.point_at.ensures c.first_beyond-j.ensures
    c.narrow.ensures c.other_at-o.ensures c.narrow-2.ensures
