-- `all_wkb::ask` meets its contract: the cells, then 2 twice.
use Rattle.std.proofs.Common.{ap, not, refl}
use Rattle.base.specs.common.laws.Decide.{refused, granted}
use Rattle.all_wkb.specs.laws.Answers.{no_room, has_room}
use Rattle.all_wkb.proofs.ask.Goals as goal

pub returns-then-not-fits : goal.returns-then-not-fits
returns-then-not-fits c =
    no_room _ _ c.in_ok-ask_cells.ensures refl c.if-starts-offsets.false (refused c.fits.result (ap not c.if-not-fits.true) c.fits.ensures)

pub returns : goal.returns
returns c =
    has_room _ _ c.in_ok-ask_cells.ensures refl c.if-starts-offsets.false (granted c.fits.result (ap not c.if-not-fits.false) c.fits.ensures)
