-- `auditing::limit::box_area` meets its contract: the ring of the four corners.
use mathlib.Core.Path.{ap, ◌∙◌}
use borrow.Author.Rules.{rules}
use Rattle.ring_area.specs.Area.{area}
use Rattle.auditing.specs.limit.laws.Boxes.{as_corners, box_corners}
use Rattle.auditing.proofs.limit.box_area.Statement.{statement}
use Rattle.auditing.proofs.limit.box_area.Tie as tie

ring_area-requires : tie.Need-ring_area-requires
ring_area-requires c κs = let s = c in box_corners s.args.bounds s.requires

returns : tie.Need-returns
returns c = c.ring_area.ensures ∙ ap area (as_corners c.args.bounds)

pub box_area_spec : {M : Type 1} → statement M
box_area_spec = tie.close (tie.spec (λ c. search rules) (λ c. search rules) ring_area-requires returns)
