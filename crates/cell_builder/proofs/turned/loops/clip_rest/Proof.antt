-- `cell_builder::turned::loops::clip_rest` meets its contract: before half-edge e, which is due and marked, the definition on the half-edges left makes the whole, inner
-- sites with table entries below e are settled, and early ones of them may be left out.
use mathlib.Core.Path.{◌≡◌, refl, ◌∙◌}
use mathlib.Core.Bool.{true}
use mathlib.Core.List.{List}
use mathlib.Core.Logic.{◌≢◌}
use Prim.Native.Nat.{ℕ, ◌-◌, ◌≤◌, ◌<◌}
use native.Mathlib.Omega.{arith}
use lib.ListN.{length}
use Rattle.cell_builder.specs.tried.SlicesInvariant.{plan}
use Rattle.cell_builder.specs.turned.Marks.{mark_of}
use Rattle.cell_builder.specs.turned.Turns.{due_of}
use Rattle.cell_builder.specs.turned.laws.TryLoops.{EdgesAlong, edges_amid, edges_step, edges_refused, edges_end}
use Rattle.cell_builder.specs.turned.laws.Passing.{edges_pass, edges_first, edges_entries, tried_fits}
use Rattle.cell_builder.proofs.turned.loops.clip_rest.Statement.{statement}
use Rattle.cell_builder.proofs.turned.loops.clip_rest.Tie as tie

abbrev invariant-loop : tie.invariant-loop-e
invariant-loop triangles halfedges table marks v₀ ix₀ off f at₀ e₀ v ix at e =
    (length v ≡ length v₀) × (length ix ≡ length ix₀) × ((hull : List ℕ) → EdgesAlong (plan triangles halfedges hull table f off) marks at₀ v₀ ix₀ e at v ix)
    × (e < length triangles → (due_of triangles halfedges table e ≡ true) × (mark_of marks e ≢ 0)) × (e ≤ length triangles)

abbrev decreases-loop : tie.decreases-loop-e
decreases-loop triangles halfedges table marks v₀ ix₀ off f at₀ e₀ v ix at e = length triangles - e

abbrev Entry : tie.At-loop-e invariant-loop decreases-loop → tie.Start invariant-loop decreases-loop
Entry l = l.before.before.before.before.before.before.before.before

abbrev Loop : tie.After-clip_due-r invariant-loop decreases-loop → tie.At-loop-e invariant-loop decreases-loop
Loop t = t.before.before.before.before

next_due-requires : tie.Need-next_due-e-requires invariant-loop decreases-loop
next_due-requires c κs = let s = c in (edges_entries _ _ _ _ s.requires.1, omega arith)

loop-holds : tie.Need-loop-e-init invariant-loop decreases-loop
loop-holds c = (refl, refl, λ hull. edges_first _ _ _ _ _ _ c.next_due-e.ensures, c.next_due-e.ensures.due, c.next_due-e.ensures.high)

clip_due-requires : tie.Need-clip_due-r-requires invariant-loop decreases-loop
clip_due-requires c κs =
    let l = c in
    let s = Entry l.before.before.before in
    (c.loop-e-test.true, s.requires.0, edges_amid _ _ _ _ _ _ _ _ _ (l.loop-e.invariant.2 s.requires.0) s.requires.1)

same_length : tie.Need-shape_of-vertices-then-fault-ne0 invariant-loop decreases-loop
same_length c = let v = c in v.vertices-1.given ∙ (Loop v.before.before.before.before.before.before.before).loop-e.invariant.0

same_length-2 : tie.Need-shape_of-indexes-then-fault-ne0 invariant-loop decreases-loop
same_length-2 c = let x = c in x.indexes-1.given ∙ (Loop x.before.before.before.before.before.before.before).loop-e.invariant.1

returns : tie.Need-returns-then-fault-ne0 invariant-loop decreases-loop
returns c =
    let t = c in
    let l = Loop t.before.before.before.before.before.before.before in
    let h = t.loop-e-test.true in
    λ hull. edges_refused _ _ _ _ _ _ _ _ _ (l.loop-e.invariant.2 hull) h _ _ _ (t.clip_due-r.ensures hull)
    (tried_fits _ _ _ _ _ _ h (l.loop-e.invariant.3 h)) c.if-fault-ne0.true

add-next_due : tie.Need-overflow_add-e invariant-loop decreases-loop
add-next_due c =
    let l = Loop c.before.before.before.before.before.before.before in
    omega (arith, (Entry l).requires.1.amid.on.few_entries)

next_due-requires-2 : tie.Need-next_due-e-requires-in-loop-e invariant-loop decreases-loop
next_due-requires-2 c κs =
    let t = c in
    (edges_entries _ _ _ _ (Entry (Loop t.before.before.before.before.before.before.before)).requires.1, omega (arith, t.loop-e-test.true))

loop-less : tie.Need-loop-e-smaller invariant-loop decreases-loop
loop-less c =
    let o = c in
    let t = o in
    omega (arith, c.next_due-e-in-loop-e.ensures.low, t.loop-e-test.true)

loop-again : tie.Need-loop-e-preserved invariant-loop decreases-loop
loop-again c =
    let o = c in
    let x = o in
    let v = x in
    let t = v in
    let l = Loop t.before.before.before.before.before.before.before.before in
    let n = c.next_due-e-in-loop-e.ensures in
    let h = t.loop-e-test.true in (
      v.vertices-1.given ∙ l.loop-e.invariant.0,
      x.indexes-1.given ∙ l.loop-e.invariant.1,
      λ hull. edges_pass _ _ _ _ _ _ _ _ _ _ n
          (edges_step _ _ _ _ _ _ _ _ _ (l.loop-e.invariant.2 hull) h _ _ _ (t.clip_due-r.ensures hull)
          (tried_fits _ _ _ _ _ _ h (l.loop-e.invariant.3 h)) o.if-fault-ne0.false),
      n.due,
      n.high,
    )

same_length-3 : tie.Need-shape_of-vertices invariant-loop decreases-loop
same_length-3 c = c.loop-e.invariant.0

same_length-4 : tie.Need-shape_of-indexes invariant-loop decreases-loop
same_length-4 c = c.loop-e.invariant.1

returns-2 : tie.Need-returns invariant-loop decreases-loop
returns-2 c = let l = c in λ hull. edges_end _ _ _ _ _ _ _ _ _ (l.loop-e.invariant.2 hull) (omega (arith, c.loop-e-test.false, l.loop-e.invariant.4))

pub clip_rest_spec : {M : Type 1} → statement M
clip_rest_spec =
    tie.close
    (tie.spec invariant-loop decreases-loop next_due-requires loop-holds clip_due-requires same_length same_length-2 returns add-next_due next_due-requires-2 loop-less
    loop-again same_length-3 same_length-4 returns-2)
