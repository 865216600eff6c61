-- `ring_area::rounding::ring_area` meets its contract: of no corners the area is 0.
use Rattle.ring_area.specs.rounding.laws.Rings.{no_corners}
use Rattle.ring_area.proofs.rounding.ring_area.Goals as goal

pub returns-then-entries-eq0 : goal.returns-then-entries-eq0
returns-then-entries-eq0 c = no_corners c.args.vertices.now c.args.entries.now c.if-entries-eq0.true
