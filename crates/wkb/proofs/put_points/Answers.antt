-- `wkb::put_points` meets its contract: each turn writes one more point.
use Rattle.std.proofs.Common.{◌++◌, List, ℕ, ap, arith, refl, take, get_or, length-take-le}
use Rattle.std.proofs.lemmas.List.{length-map}
use Rattle.std.proofs.Math.Seq.{take-length}
use Rattle.octets.specs.Bytes.{each}
use Rattle.octets.specs.laws.Wrote.{lined_start, lined_step, lined_end, wrote_length, wrote_as}
use Rattle.wkb.specs.Polygon.{point_bytes, pattern_at, patterns_of, patterns}
use Rattle.wkb.specs.laws.Points.{points_more, points_length}
use Rattle.wkb.proofs.put_points.Goals as goal

pub loop-entry-init : goal.loop-entry-init
loop-entry-init c = lined_start _ _ _ _ refl

pub put_point-end-requires : goal.put_point-end-requires
put_point-end-requires c =
    let v = patterns c.args.floats.now ++ c.args.bits.now in
    let list = c.args.entries.now in
    let i = c.loop-entry.entry-index in (
      omega (arith, c.requires.0.each i (omega arith)),
      omega (
        arith,
        c.loop-entry.invariant.wrote.place,
        points_length (patterns_of v (take i list)),
        length-map (take i list) (pattern_at v),
        length-take-le i list c.loop-entry.invariant.within,
        wrote_length c.loop-entry.invariant.wrote,
        c.requires.1,
      ),
    )

pub loop-entry-preserved : goal.loop-entry-preserved
loop-entry-preserved c =
    let v = patterns c.args.floats.now ++ c.args.bits.now in
    let list = c.args.entries.now in
    let i = c.loop-entry.entry-index in
    lined_step c.loop-entry.invariant (point_bytes (pattern_at v (get_or list i 0))) (omega arith) (points_more v list i (omega arith)) c.put_point-end.ensures

pub returns : goal.returns
returns c =
    wrote_as (lined_end c.loop-entry.invariant (omega arith))
    (ap (λ (l : List ℕ). each point_bytes (patterns_of (patterns c.args.floats.now ++ c.args.bits.now) l)) (take-length c.args.entries.now))
