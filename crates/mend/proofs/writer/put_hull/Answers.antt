-- `mend::writer::put_hull` meets its contract: the invariant is that the hull sites so far are written; each turn writes one more.
use mathlib.Core.Path.{refl, sym, ap, subst}
use Prim.Native.Nat.{◌+◌}
use lib.ListN.{length, get_or, drop}
use lib.Seq.{take-length}
use Rattle.octets.specs.Bytes.{each}
use Rattle.octets.specs.Wrote.{HasRoom}
use Rattle.octets.specs.laws.Wrote.{lined_start, lined_fits, lined_step, lined_end, wrote_as}
use Rattle.form.specs.Form.{hull_bytes}
use Rattle.mend.specs.writer.laws.Records.{each_more, each_whole}
use Rattle.mend.proofs.writer.put_hull.Goals as goal

pub loop-site-init : goal.loop-site-init
loop-site-init c = let a = c.args in lined_start _ (length a.hull.now) a.out.now a.at refl

pub put_hull_site-end-requires : goal.put_hull_site-end-requires
put_hull_site-end-requires c =
    let at-loop-test = c in
    let start = at-loop-test in
    let l = at-loop-test.loop-site in
    let list = start.args.hull.now in
    lined_fits l.invariant (hull_bytes (get_or list l.site-index 0)) (each hull_bytes (drop (l.site-index + 1) list)) (each_more hull_bytes list l.site-index 0 at-loop-test.loop-site-test.true)
    (each_whole hull_bytes list (l.site-index + 1)) (subst (HasRoom start.args.out.now start.args.at) (ap (each hull_bytes) (sym (take-length list))) start.requires)

pub loop-site-preserved : goal.loop-site-preserved
loop-site-preserved c =
    let at-loop-test = c in
    let l = at-loop-test.loop-site in
    let list = at-loop-test.args.hull.now in
    let more = at-loop-test.loop-site-test.true in
    lined_step l.invariant (hull_bytes (get_or list l.site-index 0)) more (each_more hull_bytes list l.site-index 0 more) c.put_hull_site-end.ensures

pub returns : goal.returns
returns c = wrote_as (lined_end c.loop-site.invariant c.loop-site-test.false) (ap (each hull_bytes) (take-length c.args.hull.now))
