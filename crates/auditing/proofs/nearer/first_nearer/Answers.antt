-- `auditing::nearer::first_nearer` meets its contract: what `position` tells is the lowest.
use Rattle.std.proofs.Common.{◌≡◌, ◌+◌, ◌*◌, ◌<◌, true, false, rules, ℕ, arith, refl, Bool, get_or, length}
use Rattle.std.proofs.lemmas.List.{get_or_default}
use Rattle.std.proofs.lemmas.Iterator.{YieldsList-from_slice, IsFirst-from_position}
use Rattle.std.proofs.lemmas.Iterator.Adapters.{serves_from_places}
use Rattle.ring_area.specs.lowest.laws.Found.{placed}
use Rattle.plane.specs.points.Flat.{point_at}
use Rattle.auditing.specs.nearer.Nearer.{corner_nearer, nearer_at}
use Rattle.auditing.proofs.nearer.first_nearer.Goals as goal

pub position-requires-clause-callable : goal.position-requires-clause-callable
position-requires-clause-callable c =
    serves_from_places (YieldsList-from_slice c.args.entries.now cc) (λ x q k. search rules)
    (λ x k h e.
    let n : 2 * x.now + 1 < length c.args.vertices.now = omega (arith, e, get_or_default c.args.entries.now k x.now 0 h, c.requires.1.each k h) in
    search rules)

pub returns : goal.returns
unfolding corner_nearer
returns c =
    let t : ℕ → Bool = λ e. nearer_at c.args.far (point_at c.args.vertices.now e) c.args.sites.now c.args.s c.args.part.now c.args.all in
    placed (corner_nearer c.args.far c.args.sites.now c.args.s c.args.part.now c.args.all c.args.vertices.now c.args.entries.now) t c.args.entries.now
    c.position.result (λ k h. refl)
    (IsFirst-from_position _ _ c.position.result (λ x. t x ≡ true) (λ x. t x ≡ false) c.position.ensures.ran (YieldsList-from_slice c.args.entries.now cc)
    (λ x q k. search rules) (λ x q k. search rules)) c.unwrap_or.ensures
