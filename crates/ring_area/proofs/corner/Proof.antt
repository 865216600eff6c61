-- `ring_area::corner` meets its contract: the entry as a place.
use mathlib.Core.Path.{ap, ◌∙◌}
use borrow.Author.Rules.{rules}
use Rattle.plane.specs.points.Flat.{point_at}
use Rattle.ring_area.proofs.corner.Statement.{statement}
use Rattle.ring_area.proofs.corner.Tie as tie

returns : tie.Need-returns
returns c = c.point_at.ensures ∙ ap (point_at c.args.vertices.now) c.wide.ensures

pub corner_spec : {M : Type 1} → statement M
corner_spec =
    tie.close
    (tie.spec (λ c κs. search rules) (λ c κs. search rules) returns)
