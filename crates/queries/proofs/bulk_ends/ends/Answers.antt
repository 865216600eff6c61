-- The mesh is admitted and the ends are written; or the number is the refusal's.
use Rattle.std.proofs.Common.{refl, sym}
use Rattle.std.proofs.Math.Seq.{length-take-le}
use Rattle.base.specs.refusal.laws.Number.{some_number, handed_on}
use Rattle.queries.specs.bulk_ends.laws.Answers.{ends_refused, count_long, reachable, ends_given}
use Rattle.queries.proofs.bulk_ends.ends.Goals as goal

pub returns-in_err-admit_ends : goal.returns-in_err-admit_ends
returns-in_err-admit_ends c = rw (handed_on c.from_residual.result _ c.from_residual.ensures.1) (ends_refused c.in_err-admit_ends.ensures (some_number _))

pub slice_bounds-write_ends-end : goal.slice_bounds-write_ends-end
slice_bounds-write_ends-end c = count_long c.in_ok-admit_ends.ensures refl

pub slice_bounds-write_ends-end-2 : goal.slice_bounds-write_ends-end-2
slice_bounds-write_ends-end-2 c = sym (length-take-le _ _ (count_long c.in_ok-admit_ends.ensures refl))

pub write_ends-requires : goal.write_ends-requires
write_ends-requires c = reachable c.in_ok-admit_ends.ensures refl

pub returns : goal.returns
returns c = ends_given c.in_ok-admit_ends.ensures refl c.write_ends.ensures
