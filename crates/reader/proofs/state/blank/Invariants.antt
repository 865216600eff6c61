-- What is left of the words is blank exactly where all are.
use Rattle.reader.specs.state.laws.Blank.{Blanking}
use Rattle.reader.proofs.state.blank.Given as goal

abbrev pub invariant-loop-word : goal.invariant-loop-word
invariant-loop-word l = Blanking l.words l.word-index
