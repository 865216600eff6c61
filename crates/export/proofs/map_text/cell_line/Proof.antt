-- `export::map_text::cell_line` meets its contract: the image has room, and its line is written.
use mathlib.Core.Path.{sym, ap}
use native.Mathlib.Omega.{arith}
use lib.ListN.{length}
use lib.Seq.{length-take-le}
use Prim.Native.Nat.{◌≤◌}
use Rattle.octets.specs.laws.Wrote.{wrote_all, wrote_as}
use Rattle.wkb.specs.Polygon.{patterns}
use Rattle.wkb.specs.Promise.{image}
use Rattle.export.specs.map_text.MapText.{map_line}
use Rattle.export.specs.map_text.laws.MapText.{sized_short, image_short}
use borrow.Author.Rules.{rules}
use Rattle.export.proofs.map_text.cell_line.Statement.{statement}
use Rattle.export.proofs.map_text.cell_line.Tie as tie

abbrev Entry : tie.After-put_cell-n → tie.Start
Entry c = c.before.before.before.before.before

-- the image is within the buffer
few : (s : tie.Start) → length (image (patterns s.args.vertices.now) s.args.entries.now) ≤ 49245
few s = omega (arith, image_short (patterns s.args.vertices.now) s.args.entries.now, s.requires.1)

put_cell-requires : tie.Need-put_cell-n-requires
put_cell-requires c κs =
    let start = c in
    (start.requires.0, sized_short _ _ start.requires.1 (omega arith))

array_share_prefix-bytes : tie.Need-slice_bounds-bytes-end
array_share_prefix-bytes c = omega (arith, c.put_cell-n.ensures.place, few (Entry c.before.before))

slice_aggregate-map_line : tie.Need-slice_bounds-map_line-end
slice_aggregate-map_line c =
    let at-put-cell = c in
    sym (length-take-le at-put-cell.put_cell-n.result at-put-cell.put_cell-n.new.out (omega
    (arith, at-put-cell.put_cell-n.ensures.place, few (Entry at-put-cell.before.before.before), at-put-cell.put_cell-n.auto.out)))

map_line-requires : tie.Need-map_line-requires
map_line-requires c κs =
    let at-put-cell = c in
    rw (wrote_all at-put-cell.put_cell-n.ensures (omega (arith, few (Entry at-put-cell.before.before.before)))) (Entry at-put-cell.before.before.before).requires.2

returns : tie.Need-returns
returns c =
    let at-put-cell = c in
    wrote_as c.map_line.ensures (ap (map_line (Entry at-put-cell.before.before.before.before.before.before).args.i) (wrote_all at-put-cell.put_cell-n.ensures (omega (arith, few (Entry at-put-cell.before.before.before.before.before.before)))))

pub cell_line_spec : {M : Type 1} → statement M
cell_line_spec =
    tie.close
    (tie.spec (λ c. search rules) put_cell-requires array_share_prefix-bytes slice_aggregate-map_line
    map_line-requires (λ c. search rules) returns)
