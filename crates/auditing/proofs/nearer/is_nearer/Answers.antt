-- `auditing::nearer::is_nearer` meets its contract: the first that is beyond is before the end.
use Rattle.std.proofs.Common.{ap, ◌∙◌, ℕ}
use Rattle.plane.specs.points.Flat.{point_at}
use Rattle.auditing.specs.nearer.Nearer.{nearer_at}
use Rattle.auditing.specs.nearer.laws.Pieces.{nearer_is}
use Rattle.auditing.proofs.nearer.is_nearer.Goals as goal

pub returns : goal.returns
returns c =
    nearer_is c.args.far c.point_at-corner.result c.args.sites.now c.args.s c.args.part.now c.args.all c.first_beyond.ensures c.held_count.ensures
    ∙ ap (λ p. nearer_at c.args.far p c.args.sites.now c.args.s c.args.part.now c.args.all) (c.point_at-corner.ensures ∙ ap (point_at c.args.vertices.now) c.wide.ensures)
