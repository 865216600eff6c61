-- `all_wkb::all_wkb` meets its contract: the number, then the images and their starts.
use Rattle.std.proofs.Common.{refl}
use Rattle.base.specs.refusal.laws.Number.{some_number, handed_on}
use Rattle.all_wkb.specs.laws.Answers.{admitted, refused_all}
use Rattle.all_wkb.specs.laws.Writes.{given_all}
use Rattle.all_wkb.proofs.all_wkb.Goals as goal

pub returns-in_err-ask : goal.returns-in_err-ask
returns-in_err-ask c = rw (handed_on c.from_residual.result _ c.from_residual.ensures.1) (refused_all c.in_err-ask.ensures (some_number _))

pub returns : goal.returns
returns c =
    let fit = admitted c.in_ok-ask.ensures refl in
    given_all c.in_ok-ask.ensures fit.cells.cut.some fit.one_more refl c.write_images-written.ensures c.fill_from.ensures
