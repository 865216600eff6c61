-- `wkb::multipoint_writer::put_points` meets its contract: each turn writes one more point.
use Rattle.std.proofs.Common.{arith, refl}
use Rattle.octets.specs.laws.Wrote.{lined_start, lined_step, lined_end, wrote_length}
use Rattle.wkb.specs.multipoint.MultiPoint.{file_point_bytes}
use Rattle.wkb.specs.multipoint.Promise.{firsts}
use Rattle.wkb.specs.multipoint.laws.Firsts.{length_firsts, each_firsts}
use Rattle.wkb.specs.multipoint.laws.Points.{points_length}
use Rattle.wkb.specs.multipoint_writer.Promise.{site_point}
use Rattle.wkb.proofs.multipoint_writer.put_points.Goals as goal

pub loop-i-init : goal.loop-i-init
loop-i-init c = lined_start _ _ _ _ refl

pub put_site-end-requires : goal.put_site-end-requires
put_site-end-requires c =
    let f = site_point c.args.sites.now in
    let l = c.loop-i in (
      omega (
        arith,
        l.invariant.wrote.place,
        points_length (firsts f l.i),
        length_firsts f l.i,
        wrote_length l.invariant.wrote,
        c.requires,
      ),
      omega arith,
    )

pub loop-i-preserved : goal.loop-i-preserved
loop-i-preserved c =
    lined_step c.loop-i.invariant _ c.loop-i-test.true (each_firsts (site_point c.args.sites.now) file_point_bytes c.loop-i.i) c.put_site-end.ensures

pub returns : goal.returns
returns c = lined_end c.loop-i.invariant (omega arith)
