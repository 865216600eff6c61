-- `cells::listing::cell_lines` meets its contract: the invariant is that the lines so far are written; each turn writes one more, of the part between two offsets.
use mathlib.Core.Path.{◌≡◌, refl, sym, subst}
use mathlib.Core.List.{List}
use Prim.Native.Nat.{ℕ, ◌-◌, ◌≤◌, ◌<◌}
use native.Mathlib.Omega.{arith}
use native.Mathlib.Nat.{zero-add}
use lib.ListN.{length, take, drop}
use Rattle.cells.specs.listing.Listing.{cell_line}
use Rattle.printing.specs.parts.Listed.{listed_cell}
use Rattle.cells.specs.listing.laws.Listing.{lines_are}
use Rattle.printing.specs.parts.laws.Listed.{part_bounds, part_is}
use Rattle.octets.specs.Wrote.{HasRoom, Wrote}
use Rattle.octets.specs.laws.Wrote.{lined_start, lined_end, wrote_length, wrote_as}
use Rattle.octets.specs.laws.Lines.{line_fits, line_written}
use Rattle.cells.proofs.listing.cell_lines.Goals as goal

pub loop-i-init : goal.loop-i-init
loop-i-init c = let a = c.args in lined_start _ a.sites a.out.now a.at refl

pub offset_bounds-offsets-i : goal.offset_bounds-offsets-i
offset_bounds-offsets-i c = omega (arith, c.requires.0.long, c.well_formed.1.1.1.0.1)

pub bounds-offsets-i : goal.bounds-offsets-i
bounds-offsets-i c = omega (arith, c.requires.0.long)

pub overflow_add-i : goal.overflow_add-i
overflow_add-i c = omega (arith, c.requires.0.few)

pub offset_bounds-offsets-i-in-loop-i : goal.offset_bounds-offsets-i-in-loop-i
offset_bounds-offsets-i-in-loop-i c = omega (arith, c.requires.0.long, c.well_formed.1.1.1.0.1)

pub bounds-offsets-i-in-loop-i : goal.bounds-offsets-i-in-loop-i
bounds-offsets-i-in-loop-i c = omega (arith, c.requires.0.long)

pub overflow_cast-i : goal.overflow_cast-i
overflow_cast-i c =
    let turn : c.loop-i.i < c.args.sites = c.loop-i-test.true in
    omega (arith, c.requires.0.few, turn)

pub offset_bounds-cells-from : goal.offset_bounds-cells-from
offset_bounds-cells-from c =
    let turn : c.loop-i.i < c.args.sites = c.loop-i-test.true in
    let bounds : (c.wide-from.result ≤ c.wide-to.result) × (c.wide-to.result ≤ length c.args.cells.now) = part_bounds c.requires.0 turn c.wide-from.ensures c.wide-to.ensures in
    omega (arith, bounds, c.well_formed.1.1.1.1.0.1)

pub cell_line-end-requires : goal.cell_line-end-requires
cell_line-end-requires c =
    let turn : c.loop-i.i < c.args.sites = c.loop-i-test.true in
    let part : take (c.wide-to.result - c.wide-from.result) (drop c.wide-from.result c.args.cells.now)
    ≡ listed_cell c.args.offsets.now c.args.cells.now c.loop-i.i = part_is c.requires.0 turn c.wide-from.ensures c.wide-to.ensures in
    let a = c.args in
    subst (λ (z : List ℕ). HasRoom c.loop-i.out c.loop-i.end (cell_line c.loop-i.i z)) (sym part)
    (line_fits _ c.loop-i.invariant turn (zero-add c.loop-i.i) (subst (HasRoom a.out.now a.at) (lines_are a.offsets.now a.cells.now a.sites 0) c.requires.1))

pub loop-i-preserved : goal.loop-i-preserved
loop-i-preserved c =
    let turn : c.loop-i.i < c.args.sites = c.loop-i-test.true in
    let part : take (c.wide-to.result - c.wide-from.result) (drop c.wide-from.result c.args.cells.now)
    ≡ listed_cell c.args.offsets.now c.args.cells.now c.loop-i.i = part_is c.requires.0 turn c.wide-from.ensures c.wide-to.ensures in
    line_written _ c.loop-i.invariant turn (zero-add c.loop-i.i)
    (subst (λ (z : List ℕ). Wrote c.loop-i.out c.cell_line-end.new.out c.loop-i.end c.cell_line-end.result (cell_line c.loop-i.i z)) part c.cell_line-end.ensures)

pub returns : goal.returns
returns c =
    let a = c.args in
    wrote_as (lined_end c.loop-i.invariant c.loop-i-test.false) (sym (lines_are a.offsets.now a.cells.now a.sites 0))

pub slice_bounds-cell_line-count : goal.slice_bounds-cell_line-count
slice_bounds-cell_line-count c =
    let turn : c.loop-i.i < c.args.sites = c.loop-i-test.true in
    let bounds : (c.wide-from.result ≤ c.wide-to.result) × (c.wide-to.result ≤ length c.args.cells.now) = part_bounds c.requires.0 turn c.wide-from.ensures c.wide-to.ensures in
    bounds.0

pub slice_bounds-cell_line-start : goal.slice_bounds-cell_line-start
slice_bounds-cell_line-start c =
    let turn : c.loop-i.i < c.args.sites = c.loop-i-test.true in
    let bounds : (c.wide-from.result ≤ c.wide-to.result) × (c.wide-to.result ≤ length c.args.cells.now) = part_bounds c.requires.0 turn c.wide-from.ensures c.wide-to.ensures in
    bounds.0

pub slice_bounds-cell_line-end : goal.slice_bounds-cell_line-end
slice_bounds-cell_line-end c =
    let turn : c.loop-i.i < c.args.sites = c.loop-i-test.true in
    let bounds : (c.wide-from.result ≤ c.wide-to.result) × (c.wide-to.result ≤ length c.args.cells.now) = part_bounds c.requires.0 turn c.wide-from.ensures c.wide-to.ensures in
    bounds.1

pub loop-i-smaller : goal.loop-i-smaller
loop-i-smaller c =
    let turn : c.loop-i.i < c.args.sites = c.loop-i-test.true in
    omega (arith, turn)

pub shape_of-out : goal.shape_of-out
shape_of-out c = wrote_length c.loop-i.invariant.wrote
