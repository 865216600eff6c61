-- `cell_builder::turned::marks::mark_walk` meets its contract: what of the walk comes before e is marked.
use mathlib.Core.Path.{◌≡◌, ◌∙◌}
use native.Mathlib.Omega.{arith}
use lib.ListN.{length}
use borrow.Author.Rules.{rules}
use Rattle.walks.specs.neighbours.Cursor.{rest_of, Settled}
use Rattle.cell_builder.specs.turned.laws.Marking.{MarkingWalk, marking_settled, marking_on, marking_start, marking_step, marking_end}
use Rattle.cell_builder.proofs.turned.marks.mark_walk.Statement.{statement}
use Rattle.cell_builder.proofs.turned.marks.mark_walk.Tie as tie

abbrev invariant-loop : tie.invariant-loop-e
invariant-loop triangles halfedges s marks₀ e₀ marks e = Settled halfedges s e × (length marks₀ ≡ 16384 → MarkingWalk halfedges marks₀ s marks e)

abbrev decreases-loop : tie.decreases-loop-e
decreases-loop triangles halfedges s marks₀ e₀ marks e = length (rest_of halfedges s e)

abbrev Entry : tie.At-loop-e invariant-loop decreases-loop → tie.Start invariant-loop decreases-loop
Entry l = l.before.before.before.before

loop-holds : tie.Need-loop-e-init invariant-loop decreases-loop
loop-holds c = (marking_settled _ _ _ c.requires.0 _ c.wide-e.ensures, λ long. marking_start _ _ _ long _ c.wide-e.ensures)

element_write-marks : tie.Need-bounds-marks-e invariant-loop decreases-loop
element_write-marks c = omega (arith, c.loop-e-test.true, (Entry c.before.before).requires.1)

turn-requires : tie.Need-turn-requires invariant-loop decreases-loop
turn-requires c κs = ((Entry c.before.before).requires.0.threes, c.loop-e-test.true)

loop-less : tie.Need-loop-e-smaller invariant-loop decreases-loop
loop-less c =
    let t = c in
    (marking_on _ _ _ t.loop-e-test.true t.loop-e.invariant.0 _ (c.wide-e-in-loop-e.ensures ∙ c.turn.ensures)).1

loop-again : tie.Need-loop-e-preserved invariant-loop decreases-loop
loop-again c =
    let t = c in
    let l = t in
    let q = c.wide-e-in-loop-e.ensures ∙ c.turn.ensures in (
      (marking_on _ _ _ t.loop-e-test.true l.loop-e.invariant.0 _ q).0,
      λ long. marking_step _ _ _ _ _ t.loop-e-test.true (Entry l.before.before.before.before).requires.1 l.loop-e.invariant.0 (l.loop-e.invariant.1 long) _ q,
    )

returns : tie.Need-returns invariant-loop decreases-loop
returns c = let l = c in λ long. marking_end _ _ _ _ _ c.loop-e-test.false (l.loop-e.invariant.1 long)

pub mark_walk_spec : {M : Type 1} → statement M
mark_walk_spec =
    tie.close
    (tie.spec invariant-loop decreases-loop (λ c κs. search rules) loop-holds element_write-marks turn-requires (λ c κs. search rules) loop-less loop-again returns)
