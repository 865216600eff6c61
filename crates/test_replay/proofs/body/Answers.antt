-- `test_replay::body` meets its contract: the bytes that were read are a record's, or there were too few.
use mathlib.Core.Path.{refl}
use mathlib.Core.Logic.{inl, inr}
use Rattle.test_replay.proofs.body.Goals as goal

pub returns-then-got-b : goal.returns-then-got-b
returns-then-got-b c = inr refl

pub returns : goal.returns
returns c = inl (_, c.«record».ensures)
