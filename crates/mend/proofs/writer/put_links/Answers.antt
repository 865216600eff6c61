-- `mend::writer::put_links` meets its contract: the invariant is that the numbers so far are written; each turn writes one more.
use mathlib.Core.Path.{refl, sym, ap, subst}
use Prim.Native.Nat.{◌+◌}
use lib.ListN.{length, get_or, drop}
use lib.Seq.{take-length}
use Rattle.octets.specs.Bytes.{le}
use Rattle.octets.specs.Wrote.{HasRoom}
use Rattle.octets.specs.laws.Wrote.{lined_start, lined_fits, lined_step, lined_end, wrote_as}
use Rattle.mend.specs.writer.Written.{links}
use Rattle.mend.specs.writer.laws.Records.{each_more, each_whole}
use Rattle.mend.proofs.writer.put_links.Goals as goal

pub loop-n-init : goal.loop-n-init
loop-n-init c = let a = c.args in lined_start _ (length a.numbers.now) a.out.now a.at refl

pub put_le-end-requires : goal.put_le-end-requires
put_le-end-requires c =
    let at-loop-test = c in
    let start = at-loop-test in
    let l = at-loop-test.loop-n in
    let list = start.args.numbers.now in
    lined_fits l.invariant (le 4 (get_or list l.n-index 0)) (links (drop (l.n-index + 1) list)) (each_more (le 4) list l.n-index 0 at-loop-test.loop-n-test.true)
    (each_whole (le 4) list (l.n-index + 1)) (subst (HasRoom start.args.out.now start.args.at) (ap links (sym (take-length list))) start.requires)

pub loop-n-preserved : goal.loop-n-preserved
loop-n-preserved c =
    let at-put-le = c in
    let at-loop-test = at-put-le in
    let l = at-loop-test.loop-n in
    let list = at-loop-test.args.numbers.now in
    let more = at-loop-test.loop-n-test.true in
    lined_step l.invariant (le 4 (get_or list l.n-index 0)) more (each_more (le 4) list l.n-index 0 more) (wrote_as at-put-le.put_le-end.ensures (ap (le 4) at-put-le.from.ensures))

pub returns : goal.returns
returns c = wrote_as (lined_end c.loop-n.invariant c.loop-n-test.false) (ap links (take-length c.args.numbers.now))
