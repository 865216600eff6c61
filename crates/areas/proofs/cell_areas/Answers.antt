-- `areas::cell_areas` meets its contract: the number, then the slice.
use Rattle.std.proofs.Common.{refl}
use Rattle.base.specs.refusal.laws.Number.{some_number, handed_on}
use Rattle.areas.specs.laws.Answers.{refused_areas, given_areas}
use Rattle.areas.proofs.cell_areas.Goals as goal

pub returns-in_err-ask : goal.returns-in_err-ask
returns-in_err-ask c = rw (handed_on c.from_residual.result _ c.from_residual.ensures.1) (refused_areas c.in_err-ask.ensures (some_number _))

pub returns : goal.returns
returns c = given_areas c.in_ok-ask.ensures refl c.write_areas.ensures
