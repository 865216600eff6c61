-- `mend::show` meets its contract: by the number, and by what is asked for; there is room for each text.
use native.Mathlib.Omega.{arith}
use Rattle.printing.specs.parts.laws.Labelled.{refusal_short}
use Rattle.mend.specs.laws.Text.{form_room, text_room, shown_refused, shown_form, shown_lines}
use borrow.Author.Rules.{rules}
use Rattle.mend.proofs.show.Statement.{statement}
use Rattle.mend.proofs.show.Tie as tie

abbrev Start : tie.After-shared_slice_known-6-1 → tie.Start
Start c = c.before.before.before.before.before.before.before

refusal-requires : tie.Need-refusal-requires
refusal-requires c κs = omega (arith, refusal_short (Start c.before.before).args.number, (Start c.before.before).requires.room)

returns : tie.Need-returns-then-number-ne0
returns c =
    let at-if1 = c in
    let a = (Start at-if1.before.before.before.before.before).args in
    shown_refused a.number a.form a.first.now a.records.now a.triangles.now a.pairs.now a.hull.now a.changes.now a.repaired a.replaced
    at-if1.if-number-ne0.true c.refusal.ensures

write-requires : tie.Need-write-requires
write-requires c κs =
    let start = Start c.before.before.before in
    (start.requires.same, omega (arith, form_room start.requires))

returns-2 : tie.Need-returns-then-form
returns-2 c =
    let at-if2 = c in
    let a = (Start at-if2.before.before.before.before.before.before).args in
    shown_form a.number a.form a.first.now a.records.now a.triangles.now a.pairs.now a.hull.now a.changes.now a.repaired a.replaced
    at-if2.if-number-ne0.false at-if2.if-form.true c.write.ensures

mend_text-requires : tie.Need-mend_text-requires
mend_text-requires c κs =
    let start = Start c.before.before.before in
    (start.requires.changes, omega (arith, text_room start.requires))

returns-3 : tie.Need-returns
returns-3 c =
    let at-if2 = c in
    let a = (Start at-if2.before.before.before.before.before.before).args in
    shown_lines a.number a.form a.first.now a.records.now a.triangles.now a.pairs.now a.hull.now a.changes.now a.repaired a.replaced
    at-if2.if-number-ne0.false at-if2.if-form.false c.mend_text.ensures

pub show_spec : {M : Type 1} → statement M
show_spec =
    tie.close
    (tie.spec refusal-requires (λ c. search rules) returns write-requires (λ c. search rules) returns-2
    mend_text-requires (λ c. search rules) returns-3)
