-- `all_wkb::append_image` meets its contract: the image fits what is left of the slice.
use native.Mathlib.Omega.{arith}
use borrow.Author.Rules.{rules}
use Rattle.all_wkb.specs.laws.Writes.{appended_cell, part_room}
use Rattle.all_wkb.proofs.append_image.Statement.{statement}
use Rattle.all_wkb.proofs.append_image.Tie as tie

abbrev Begin : tie.After-cell → tie.Start
Begin c = c.before.before.before.before.before.before

put_cell-requires : tie.Need-put_cell-w-requires
put_cell-requires c κs =
    let s = Begin c in
    part_room s.args.vertices.now s.args.offsets.now s.args.indexes.now s.args.s s.args.n s.args.out.now
    s.requires.0 s.requires.1 s.requires.2 s.requires.3 c.cell.ensures

add-result : tie.Need-overflow_add-result
add-result c =
    let at-put = c in
    let s = Begin at-put.before.before.before in
    let e =
    (appended_cell s.args.vertices.now s.args.offsets.now s.args.indexes.now s.args.s s.args.n s.args.out.now
    s.requires.3 at-put.cell.ensures at-put.put_cell-w.ensures).end in
    omega (arith, e, s.requires.3, s.well_formed.1.1.1.1.1.0.1)

returns : tie.Need-returns
returns c =
    let at-put = c in
    let s = Begin at-put.before.before.before in
    appended_cell s.args.vertices.now s.args.offsets.now s.args.indexes.now s.args.s s.args.n s.args.out.now
    s.requires.3 at-put.cell.ensures at-put.put_cell-w.ensures

pub append_image_spec : {M : Type 1} → statement M
append_image_spec =
    tie.close
    (tie.spec (λ c. search rules) (λ c. search rules) (λ c. search rules) (λ c κs. search rules) put_cell-requires add-result
    (λ c. search rules) returns)
