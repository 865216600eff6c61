-- `cutting_writer::end::closed_at` meets its contract.
use Rattle.std.proofs.Common.{arith, sym, ◌∙◌, lt-ltb, le-ltb}
use Rattle.cutting_writer.specs.end.Ended.{closed_at}
use Rattle.cutting_writer.proofs.end.closed_at.Goals as goal

pub returns-then-pen-begin-lt2 : goal.returns-then-pen-begin-lt2
unfolding closed_at
returns-then-pen-begin-lt2 c = (rw (lt-ltb _ _ c.if-pen-begin-lt2.true), omega arith, omega arith)

pub returns-in-Some : goal.returns-in-Some
unfolding closed_at
returns-in-Some c = (
  rw (le-ltb _ _ c.if-pen-begin-lt2.false, c.in-Some.is, sym c.same_place.ensures ∙ c.if-same_place.true),
  omega (arith, c.if-pen-begin-lt2.false),
  omega arith,
)

pub returns-in_default : goal.returns-in_default
unfolding closed_at
returns-in_default c = (
  rw (le-ltb _ _ c.if-pen-begin-lt2.false, c.in-Some.is, sym c.same_place.ensures ∙ c.if-same_place.false),
  omega (arith, c.if-pen-begin-lt2.false),
  omega arith,
)

pub returns-in_default-2 : goal.returns-in_default-2
unfolding closed_at
returns-in_default-2 c = (rw (le-ltb _ _ c.if-pen-begin-lt2.false, c.in_default.is), omega (arith, c.if-pen-begin-lt2.false), omega arith)
