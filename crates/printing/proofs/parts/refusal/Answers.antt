-- `printing::parts::refusal` meets its contract: a labelled number and the line's end.
use native.Mathlib.Omega.{arith}
use lib.ListN.{length-append}
use Rattle.octets.specs.laws.Wrote.{wrote_then}
use Rattle.printing.specs.parts.Labelled.{labelled, refusal}
use Rattle.printing.proofs.parts.refusal.Goals as goal

pub labelled-end-requires : goal.labelled-end-requires
unfolding refusal labelled
labelled-end-requires c = omega (arith, simp length-append at c.requires)

pub put-requires : goal.put-requires
unfolding refusal labelled
put-requires c = omega (arith, simp length-append at c.requires)

pub returns : goal.returns
unfolding refusal labelled
returns c = wrote_then c.labelled-end.ensures c.put.ensures
