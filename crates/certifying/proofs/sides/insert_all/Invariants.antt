-- The sides that were passed are inserted.
use Rattle.certifying.specs.sides.laws.Inserting.{InsertsTo}
use Rattle.certifying.proofs.sides.insert_all.Given as goal

abbrev pub invariant-loop-k : goal.invariant-loop-k
invariant-loop-k l = InsertsTo l.vertices l.offsets l.indexes l.count l.k l.initial.work l.work
