-- `mend::writer::write` meets its contract: the first record, the sites' records and the lists, one after the other.
use mathlib.Core.List.{◌++◌}
use Rattle.octets.specs.laws.Wrote.{fits_left, fits_then, wrote_then}
use Rattle.mend.specs.writer.Written.{lists, written_form}
use borrow.Author.Rules.{rules}
use Rattle.mend.proofs.writer.write.Statement.{statement}
use Rattle.mend.proofs.writer.write.Tie as tie

abbrev Start : tie.After-put-arg-1 → tie.Start
Start c = c.before.before.before.before.before.before.before

put-requires : tie.Need-put-a-requires
unfolding written_form
put-requires c κs =
    let a = (Start c).args in
    let rest = lists a.triangles.now a.halfedges.now a.hull.now in
    fits_left a.out.now 0 a.first.now a.sites.now (fits_left a.out.now 0 (a.first.now ++ a.sites.now) rest (Start c).requires.1)

put-requires-2 : tie.Need-put-b-requires
unfolding written_form
put-requires-2 c κs =
    let at-put = c in
    let a = (Start at-put.before.before.before.before).args in
    let rest = lists a.triangles.now a.halfedges.now a.hull.now in
    fits_then a.first.now a.sites.now at-put.put-a.ensures (fits_left a.out.now 0 (a.first.now ++ a.sites.now) rest (Start at-put.before.before.before.before).requires.1)

put_lists-requires : tie.Need-put_lists-requires
unfolding written_form
put_lists-requires c κs =
    let at-put2 = c in
    let at-put = at-put2 in
    let start = Start at-put.before.before.before.before.before.before.before.before in
    let a = start.args in
    let rest = lists a.triangles.now a.halfedges.now a.hull.now in
    (start.requires.0, fits_then (a.first.now ++ a.sites.now) rest (wrote_then at-put.put-a.ensures at-put2.put-b.ensures) start.requires.1)

returns : tie.Need-returns
unfolding written_form
returns c =
    let at-put2 = c in
    wrote_then (wrote_then at-put2.put-a.ensures at-put2.put-b.ensures) c.put_lists.ensures

pub write_spec : {M : Type 1} → statement M
write_spec = tie.close (tie.spec put-requires put-requires-2 put_lists-requires (λ c. search rules) returns)
