-- `mend::box_line::box_line` meets its contract: nothing, or the label with the kind, the four patterns and the line's end.
use mathlib.Core.Path.{◌≡◌, sym, subst}
use mathlib.Core.List.{[], ◌∷◌, ◌++◌}
use native.Mathlib.Omega.{arith}
use lib.ListN.{length, get_or, take, drop, length-drop, length-append}
use lib.Seq.{length-take-le}
use Rattle.printing.specs.parts.Text.{ascii}
use Rattle.printing.specs.parts.Labelled.{entries}
use Rattle.octets.specs.Wrote.{HasRoom}
use Rattle.octets.specs.laws.Wrote.{wrote_then, wrote_none, wrote_as}
use Rattle.mend.specs.box_line.BoxLine.{pattern_texts}
use Rattle.mend.specs.box_line.laws.BoxLine.{box_none, box_is}
use Rattle.mend.proofs.box_line.box_line.Goals as goal

pub returns-then-first-ne33 : goal.returns-then-first-ne33
returns-then-first-ne33 c =
    let a = c.args in
    wrote_as (wrote_none a.out.now a.at) (sym (box_none a.first.now c.if-first-ne33.true))

pub patterns-b-requires : goal.patterns-b-requires
patterns-b-requires c =
    let long : length c.args.first.now ≡ 33 = c.if-first-ne33.false in
    let room : HasRoom c.args.out.now c.args.at ((ascii "box 0: 6" ++ entries (get_or c.args.first.now 0 0 ∷ [])) ++ (pattern_texts (take 32 (drop 1 c.args.first.now))) ++ ascii "\n") = subst (HasRoom c.args.out.now c.args.at) (box_is c.args.first.now long) c.requires in
    (length-take-le 32 (drop 1 c.args.first.now) (omega (arith, long, length-drop 1 c.args.first.now)), omega (arith, simp length-append at room))

pub returns : goal.returns
returns c =
    let long : length c.args.first.now ≡ 33 = c.if-first-ne33.false in
    wrote_as (wrote_then (wrote_then c.labelled-a.ensures c.patterns-b.ensures) c.put.ensures) (sym (box_is c.args.first.now long))

pub labelled-a-requires : goal.labelled-a-requires
labelled-a-requires c =
    let long : length c.args.first.now ≡ 33 = c.if-first-ne33.false in
    let room : HasRoom c.args.out.now c.args.at ((ascii "box 0: 6" ++ entries (get_or c.args.first.now 0 0 ∷ [])) ++ (pattern_texts (take 32 (drop 1 c.args.first.now))) ++ ascii "\n") = subst (HasRoom c.args.out.now c.args.at) (box_is c.args.first.now long) c.requires in
    omega (arith, simp length-append at room)

pub slice_bounds-patterns-end : goal.slice_bounds-patterns-end
slice_bounds-patterns-end c =
    let long : length c.args.first.now ≡ 33 = c.if-first-ne33.false in
    omega (arith, long)

pub put-requires : goal.put-requires
put-requires c =
    let long : length c.args.first.now ≡ 33 = c.if-first-ne33.false in
    let room : HasRoom c.args.out.now c.args.at ((ascii "box 0: 6" ++ entries (get_or c.args.first.now 0 0 ∷ [])) ++ (pattern_texts (take 32 (drop 1 c.args.first.now))) ++ ascii "\n") = subst (HasRoom c.args.out.now c.args.at) (box_is c.args.first.now long) c.requires in
    omega (arith, simp length-append at room)
