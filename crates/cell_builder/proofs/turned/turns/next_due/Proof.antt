-- `cell_builder::turned::turns::next_due` meets its contract: all from `from` up to e are passed by.
use mathlib.Core.Path.{◌≡◌, sym, ap, ◌∙◌}
use mathlib.Core.Bool.{not}
use Prim.Native.Nat.{ℕ, ◌-◌, ◌≤◌, ◌<◌}
use native.Mathlib.Omega.{arith}
use lib.ListN.{length}
use Rattle.base.specs.common.laws.Decide.{refused, granted}
use Rattle.cell_builder.specs.turned.Marks.{mark_of}
use Rattle.cell_builder.specs.turned.Turns.{PassedBy}
use Rattle.cell_builder.specs.turned.laws.Due.{passed_more, passed_eight}
use Rattle.cell_builder.proofs.turned.turns.next_due.Statement.{statement}
use Rattle.cell_builder.proofs.turned.turns.next_due.Tie as tie

abbrev invariant-loop : tie.invariant-loop-e
invariant-loop triangles halfedges table marks from e₀ e =
    (from ≤ e) × ((j : ℕ) → from ≤ j → j < e → j < length triangles → PassedBy triangles halfedges table marks j)

abbrev decreases-loop : tie.decreases-loop-e
decreases-loop triangles halfedges table marks from e₀ e = length triangles - e

abbrev Entry : tie.At-loop-e invariant-loop decreases-loop → tie.Start invariant-loop decreases-loop
Entry l = l.before.before.before.before

loop-holds : tie.Need-loop-e-init invariant-loop decreases-loop
loop-holds c = (omega arith, λ j lo hi l. absurd (omega arith))

unmarked-requires : tie.Need-unmarked-requires invariant-loop decreases-loop
unmarked-requires c κs = omega (arith, c.loop-e-test.true, (Entry c.before).requires.0.few)

mul-e : tie.Need-overflow_mul-e invariant-loop decreases-loop
mul-e c = let t = c in omega (arith, t.loop-e-test.true, (Entry t.before.before.before).requires.0.few)

add-e : tie.Need-overflow_add-e invariant-loop decreases-loop
add-e c = let t = c in omega (arith, t.loop-e-test.true, (Entry t.before.before.before).requires.0.few)

loop-again : tie.Need-loop-e-preserved-then-unmarked invariant-loop decreases-loop
loop-again c =
    let u = c in
    let l = u in
    let i = l.loop-e.invariant in
    let a = (Entry l.before.before.before).args in (
      omega (arith, i.0),
      passed_eight a.triangles.now a.halfedges.now a.table.now a.marks.now a.from l.loop-e.e i.1
          (granted {P = mark_of a.marks.now l.loop-e.e ≡ 0} u.unmarked.result (ap not c.if-unmarked.true) u.unmarked.ensures),
    )

due-requires : tie.Need-due-requires invariant-loop decreases-loop
due-requires c κs =
    let t = c in
    let l = t in
    let s = Entry l.before.before.before in
    (s.requires.0.threes, t.loop-e-test.true, s.requires.0.each l.loop-e.e t.loop-e-test.true)

returns : tie.Need-returns-then-due invariant-loop decreases-loop
returns c =
    let d = c in
    let x = d in
    let u = x in
    let t = u in
    let l = t in
    let i = l.loop-e.invariant in
    let a = (Entry l.before.before.before.before.before).args in
    record {
      low = i.0;
      high = omega (arith, t.loop-e-test.true);
      passed = λ j lo hi. i.1 j lo hi (omega (arith, t.loop-e-test.true));
      due = λ h. (
        sym d.due.ensures ∙ c.if-due.true,
        λ z. refused {P = mark_of a.marks.now l.loop-e.e ≡ 0} u.unmarked.result (ap not x.if-unmarked.false) u.unmarked.ensures z,
      );
    }

add-e-2 : tie.Need-overflow_add-e-else-unmarked invariant-loop decreases-loop
add-e-2 c = let t = c in omega (arith, t.loop-e-test.true, (Entry t.before.before.before.before.before).requires.0.few)

loop-again-2 : tie.Need-loop-e-preserved invariant-loop decreases-loop
loop-again-2 c =
    let d = c in
    let l = d in
    let i = l.loop-e.invariant in
    let a = (Entry l.before.before.before.before.before).args in (
      omega (arith, i.0),
      passed_more a.triangles.now a.halfedges.now a.table.now a.marks.now a.from l.loop-e.e i.1 (sym d.due.ensures ∙ c.if-due.false),
    )

returns-2 : tie.Need-returns invariant-loop decreases-loop
returns-2 c =
    let i = c.loop-e.invariant in
    record {
      low = (Entry c.before).requires.1;
      high = omega arith;
      passed = λ j lo hi. i.1 j lo (omega (arith, c.loop-e-test.false)) hi;
      due = λ h. absurd (omega arith);
    }

pub next_due_spec : {M : Type 1} → statement M
next_due_spec =
    tie.close
    (tie.spec invariant-loop decreases-loop loop-holds unmarked-requires mul-e add-e (λ c. omega arith) loop-again due-requires returns add-e-2 (λ c. omega arith) loop-again-2 returns-2)
