-- `auditing::corners::first_outside` meets its contract: what `position` tells is the lowest.
use Rattle.std.proofs.Common.{◌≡◌, ◌+◌, ◌*◌, ◌<◌, length, not, true, false, rules, ℕ, arith, refl, Bool, get_or}
use Rattle.std.proofs.lemmas.List.{get_or_default}
use Rattle.std.proofs.lemmas.Iterator.{YieldsList-from_slice, IsFirst-from_position}
use Rattle.std.proofs.lemmas.Iterator.Adapters.{serves_from_places}
use Rattle.ring_area.specs.lowest.laws.Found.{placed}
use Rattle.plane.specs.sides.Sides.{inside_of}
use Rattle.plane.specs.points.Flat.{point_at}
use Rattle.auditing.specs.corners.Outside.{outside_at}
use Rattle.auditing.proofs.corners.first_outside.Goals as goal

pub position-requires-clause-callable : goal.position-requires-clause-callable
position-requires-clause-callable c =
    serves_from_places (YieldsList-from_slice c.args.entries.now cc) (λ x q k. search rules)
    (λ x k h e.
    let n : 2 * x.now + 1 < length c.args.vertices.now = omega (arith, e, get_or_default c.args.entries.now k x.now 0 h, c.requires.each k h) in
    search rules)

pub returns : goal.returns
unfolding outside_at
returns c =
    let t : ℕ → Bool = λ e. not (inside_of c.args.bounds (point_at c.args.vertices.now e)) in
    placed (outside_at c.args.bounds c.args.vertices.now c.args.entries.now) t c.args.entries.now c.position.result (λ k h. refl)
    (IsFirst-from_position _ _ c.position.result (λ x. t x ≡ true) (λ x. t x ≡ false) c.position.ensures.ran (YieldsList-from_slice c.args.entries.now cc)
    (λ x q k. search rules) (λ x q k. search rules)) c.unwrap_or.ensures
