-- `certifying::call::name_nearer` meets its contract: the first such corner and the first such other are there.
use Rattle.std.proofs.Common.{arith}
use Rattle.ring_area.specs.lowest.laws.Loops.{named_twice}
use Rattle.auditing.specs.nearer.laws.Pieces.{piece_names}
use Rattle.certifying.specs.call.laws.Stages.{names_none, corner_there, other_there, nearer_named}
use Rattle.certifying.proofs.call.name_nearer.Goals as goal

pub first_nearer-k-requires : goal.first_nearer-k-requires
first_nearer-k-requires c = (
  names_none c.args.sites.now c.args.s c.requires.own,
  piece_names c.requires.pieces c.args.s c.requires.own c.cell-entries.ensures,
)

pub offset_bounds-entries-k : goal.offset_bounds-entries-k
offset_bounds-entries-k c =
    omega (
      arith,
      corner_there c.args.far c.args.sites.now c.args.vertices.now c.args.offsets.now c.args.indexes.now _ c.no_others-none.ensures c.args.s
          c.cell-entries.ensures c.first_nearer-k.ensures c.requires.nearer,
    )

pub bounds-entries-k : goal.bounds-entries-k
bounds-entries-k c =
    corner_there c.args.far c.args.sites.now c.args.vertices.now c.args.offsets.now c.args.indexes.now _ c.no_others-none.ensures c.args.s
    c.cell-entries.ensures c.first_nearer-k.ensures c.requires.nearer

pub point_at-requires : goal.point_at-requires
point_at-requires c =
    let there = corner_there c.args.far c.args.sites.now c.args.vertices.now c.args.offsets.now c.args.indexes.now _ c.no_others-none.ensures c.args.s
    c.cell-entries.ensures c.first_nearer-k.ensures c.requires.nearer in
    rw c.wide.ensures (named_twice _ _ ((piece_names c.requires.pieces c.args.s c.requires.own c.cell-entries.ensures).each _ there))

pub first_beyond-o-requires : goal.first_beyond-o-requires
first_beyond-o-requires c = names_none c.args.sites.now c.args.s c.requires.own

pub narrow-requires-2 : goal.narrow-requires-2
narrow-requires-2 c =
    let there = corner_there c.args.far c.args.sites.now c.args.vertices.now c.args.offsets.now c.args.indexes.now _ c.no_others-none.ensures c.args.s
    c.cell-entries.ensures c.first_nearer-k.ensures c.requires.nearer in
    omega (
      arith,
      c.requires.few,
      other_there c.args.far c.args.sites.now c.args.vertices.now c.args.offsets.now c.args.indexes.now _ c.no_others-none.ensures c.args.s
          c.cell-entries.ensures c.first_nearer-k.ensures c.wide.ensures c.point_at.ensures c.first_beyond-o.ensures there,
    )

pub returns : goal.returns
returns c =
    nearer_named c.args.far c.args.sites.now c.args.vertices.now c.args.offsets.now c.args.indexes.now _ c.no_others-none.ensures c.args.s
    c.cell-entries.ensures c.first_nearer-k.ensures c.wide.ensures c.point_at.ensures c.first_beyond-o.ensures c.narrow.ensures c.narrow-2.ensures
