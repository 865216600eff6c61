-- `cell_builder::turned::retries::walk_end` meets its contract: at each half-edge the walk ends where the whole walk does.
use mathlib.Core.Path.{◌∙◌}
use lib.ListN.{length}
use borrow.Author.Rules.{rules}
use Rattle.walks.specs.neighbours.Cursor.{rest_of}
use Rattle.cell_builder.specs.turned.laws.Retrying.{Ending, ending_start, ending_step, ending_end}
use Rattle.cell_builder.proofs.turned.retries.walk_end.Statement.{statement}
use Rattle.cell_builder.proofs.turned.retries.walk_end.Tie as tie

abbrev invariant-loop : tie.invariant-loop-e
invariant-loop halfedges s last₀ e₀ last e = Ending halfedges s last e

abbrev decreases-loop : tie.decreases-loop-e
decreases-loop halfedges s last₀ e₀ last e = length (rest_of halfedges s e)

abbrev Entry : tie.At-loop-e invariant-loop decreases-loop → tie.Start invariant-loop decreases-loop
Entry l = l.before.before.before.before

loop-holds : tie.Need-loop-e-init invariant-loop decreases-loop
loop-holds c = let s = c in ending_start _ _ s.requires.1 s.requires.2 _ _ c.wide-last.ensures c.wide-e.ensures

turn-requires : tie.Need-turn-requires invariant-loop decreases-loop
turn-requires c κs = ((Entry c.before).requires.0, c.loop-e-test.true)

loop-less : tie.Need-loop-e-smaller invariant-loop decreases-loop
loop-less c = let t = c in (ending_step _ _ t.loop-e.invariant t.loop-e-test.true _ (c.wide-e-in-loop-e.ensures ∙ c.turn.ensures)).1

loop-again : tie.Need-loop-e-preserved invariant-loop decreases-loop
loop-again c = let t = c in (ending_step _ _ t.loop-e.invariant t.loop-e-test.true _ (c.wide-e-in-loop-e.ensures ∙ c.turn.ensures)).0

returns : tie.Need-returns invariant-loop decreases-loop
returns c = ending_end _ _ c.loop-e.invariant c.loop-e-test.false

pub walk_end_spec : {M : Type 1} → statement M
walk_end_spec =
    tie.close
    (tie.spec invariant-loop decreases-loop (λ c κs. search rules) (λ c κs. search rules) loop-holds turn-requires (λ c κs. search rules) loop-less loop-again returns)
