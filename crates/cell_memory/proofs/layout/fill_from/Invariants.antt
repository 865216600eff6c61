-- Each turn clears one place more.
use Rattle.std.specs.Prelude.{drop}
use Rattle.cell_memory.specs.layout.laws.Overwritten.{Clearing}
use Rattle.cell_memory.proofs.layout.fill_from.Given as goal

abbrev pub invariant-loop-place : goal.invariant-loop-place
invariant-loop-place g l = Clearing (drop l.from l.fn.s) l.value 0 l.place-items l.place-index
