-- `auditing::rings::site_folds` meets its contract: the ring of the site.
use Rattle.std.proofs.Common.{ap, ◌∙◌, arith}
use Rattle.areas.specs.laws.Entries.{cell_corners}
use Rattle.auditing.specs.rings.Fan.{ring_folds}
use Rattle.auditing.proofs.rings.site_folds.Goals as goal

pub ring_folds-requires : goal.ring_folds-requires
ring_folds-requires c = (c.requires.0, rw c.cell.ensures (cell_corners c.requires.1 c.args.s (omega arith)))

pub returns : goal.returns
returns c box bits e = c.ring_folds.ensures box bits e ∙ ap (ring_folds box bits c.args.vertices.now) c.cell.ensures
