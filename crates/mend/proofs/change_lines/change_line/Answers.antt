-- `mend::change_lines::change_line` meets its contract: the labelled place, the colon, both values and the line's end, one after the other.
use mathlib.Core.List.{[], ◌∷◌, ◌++◌}
use Prim.Native.Nat.{◌+◌, ◌≤◌}
use native.Mathlib.Omega.{arith}
use lib.ListN.{length, length-append}
use Rattle.printing.specs.parts.Text.{ascii}
use Rattle.printing.specs.parts.Labelled.{entries}
use Rattle.octets.specs.laws.Wrote.{wrote_then}
use Rattle.mend.specs.change_lines.ChangeLines.{or_none, change_line}
use Rattle.mend.proofs.change_lines.change_line.Goals as goal

pub returns : goal.returns
unfolding change_line
returns c =
    wrote_then (wrote_then (wrote_then c.labelled-a.ensures c.put-b.ensures) c.values-c.ensures) c.put.ensures

pub labelled-a-requires : goal.labelled-a-requires
unfolding change_line
labelled-a-requires c =
    let room : c.args.at + length ((c.args.label.now ++ entries (c.args.place ∷ []))) + 1 + length ((or_none c.args.old ++ or_none c.args.new)) + 1 ≤ length c.args.out.now = omega (arith, c.requires, length-append ((c.args.label.now ++ entries (c.args.place ∷ [])) ++ ascii ":" ++ (or_none c.args.old ++ or_none c.args.new)) (ascii "\n"), length-append ((c.args.label.now ++ entries (c.args.place ∷ [])) ++ ascii ":") ((or_none c.args.old ++ or_none c.args.new)), length-append ((c.args.label.now ++ entries (c.args.place ∷ []))) (ascii ":")) in
    omega (arith, room)

pub put-b-requires : goal.put-b-requires
unfolding change_line
put-b-requires c =
    let room : c.args.at + length ((c.args.label.now ++ entries (c.args.place ∷ []))) + 1 + length ((or_none c.args.old ++ or_none c.args.new)) + 1 ≤ length c.args.out.now = omega (arith, c.requires, length-append ((c.args.label.now ++ entries (c.args.place ∷ [])) ++ ascii ":" ++ (or_none c.args.old ++ or_none c.args.new)) (ascii "\n"), length-append ((c.args.label.now ++ entries (c.args.place ∷ [])) ++ ascii ":") ((or_none c.args.old ++ or_none c.args.new)), length-append ((c.args.label.now ++ entries (c.args.place ∷ []))) (ascii ":")) in
    omega (arith, room)

pub values-c-requires : goal.values-c-requires
unfolding change_line
values-c-requires c =
    let room : c.args.at + length ((c.args.label.now ++ entries (c.args.place ∷ []))) + 1 + length ((or_none c.args.old ++ or_none c.args.new)) + 1 ≤ length c.args.out.now = omega (arith, c.requires, length-append ((c.args.label.now ++ entries (c.args.place ∷ [])) ++ ascii ":" ++ (or_none c.args.old ++ or_none c.args.new)) (ascii "\n"), length-append ((c.args.label.now ++ entries (c.args.place ∷ [])) ++ ascii ":") ((or_none c.args.old ++ or_none c.args.new)), length-append ((c.args.label.now ++ entries (c.args.place ∷ []))) (ascii ":")) in
    omega (arith, room)

pub put-requires : goal.put-requires
unfolding change_line
put-requires c =
    let room : c.args.at + length ((c.args.label.now ++ entries (c.args.place ∷ []))) + 1 + length ((or_none c.args.old ++ or_none c.args.new)) + 1 ≤ length c.args.out.now = omega (arith, c.requires, length-append ((c.args.label.now ++ entries (c.args.place ∷ [])) ++ ascii ":" ++ (or_none c.args.old ++ or_none c.args.new)) (ascii "\n"), length-append ((c.args.label.now ++ entries (c.args.place ∷ [])) ++ ascii ":") ((or_none c.args.old ++ or_none c.args.new)), length-append ((c.args.label.now ++ entries (c.args.place ∷ []))) (ascii ":")) in
    omega (arith, room)
