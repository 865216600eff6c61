-- `wkb::put_ring` meets its contract: the count, the points, the first again.
use mathlib.Core.Path.{refl}
use mathlib.Core.List.{◌++◌}
use native.Mathlib.Omega.{arith}
use lib.ListN.{length-map}
use lib.Seq.{length-take-le}
use Rattle.octets.specs.laws.Wrote.{wrote_length}
use Rattle.wkb.specs.Polygon.{pattern_at, patterns_of, patterns}
use Rattle.wkb.specs.laws.Points.{points_length, ring_wrote}
use Rattle.wkb.specs.laws.Room.{named_first}
use borrow.Author.Rules.{rules}
use Rattle.wkb.proofs.put_ring.Statement.{statement}
use Rattle.wkb.proofs.put_ring.Tie as tie

abbrev Start : tie.After-put_points-last → tie.Start
Start c = c.before.before.before.before.before.before.before.before.before.before

put_points-requires-2 : tie.Need-put_points-requires
put_points-requires-2 c κs =
    let at-put-points = c in
    let start = Start at-put-points.before.before.before.before in
    let list = start.args.entries.now in
    let v = patterns start.args.floats.now ++ start.args.bits.now in
    let first = at-put-points.put_le-first.ensures in
    let last = at-put-points.put_points-last.ensures in (
      named_first list _ start.requires.0,
      omega (
        arith,
        first.place,
        last.place,
        points_length (patterns_of v list),
        length-map list (pattern_at v),
        wrote_length first,
        wrote_length last,
        length-take-le 1 list (omega (arith, start.requires.1)),
        start.requires.3,
      ),
    )

returns : tie.Need-returns
returns c =
    let at-put-points = c in
    let a = (Start at-put-points.before.before.before.before.before.before.before).args in
    ring_wrote (patterns a.floats.now ++ a.bits.now) a.entries.now (omega (arith, (Start at-put-points.before.before.before.before.before.before.before).requires.1)) refl
    at-put-points.put_le-first.ensures at-put-points.put_points-last.ensures c.put_points.ensures

pub put_ring_spec : {M : Type 1} → statement M
put_ring_spec =
    tie.close
    (tie.spec (λ c. search rules) (λ c κs. search rules) (λ c κs. search rules) (λ c. search rules)
    (λ c. search rules) (λ c. search rules) put_points-requires-2 (λ c. search rules) returns)
