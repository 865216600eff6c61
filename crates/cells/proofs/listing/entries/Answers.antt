-- `cells::listing::entries` meets its contract: the invariant is that the entries so far are written; each turn writes one more.
use mathlib.Core.Path.{sym, ap, subst}
use mathlib.Core.List.{[], ◌∷◌}
use Prim.Native.Nat.{◌+◌}
use lib.ListN.{length, get_or, drop}
use lib.Seq.{take-length}
use Rattle.printing.specs.parts.Labelled.{entries}
use Rattle.cells.specs.listing.laws.Listing.{entries_none, entries_more, entries_whole}
use Rattle.octets.specs.Wrote.{HasRoom}
use Rattle.octets.specs.laws.Wrote.{lined_fits, lined_start, lined_step, lined_end, wrote_length, wrote_as}
use Rattle.cells.proofs.listing.entries.Goals as goal

pub loop-n-init : goal.loop-n-init
loop-n-init c = let a = c.args in lined_start _ (length a.list.now) a.out.now a.at (entries_none a.list.now)

pub entry-end-requires : goal.entry-end-requires
entry-end-requires c = let l = c in
    let s = l in
    let list = s.args.list.now in
    let i = l.loop-n.n-index in
    lined_fits l.loop-n.invariant (entries (get_or list i 0 ∷ [])) (entries (drop (i + 1) list))
    (entries_more list i c.loop-n-test.true) (entries_whole list (i + 1)) (subst (HasRoom s.args.out.now s.args.at) (ap entries (sym (take-length list))) s.requires)

pub loop-n-preserved : goal.loop-n-preserved
loop-n-preserved c = let e = c in
    let u = e in
    let l = u in
    let list = l.args.list.now in
    lined_step l.loop-n.invariant (entries (get_or list l.loop-n.n-index 0 ∷ [])) u.loop-n-test.true (entries_more list l.loop-n.n-index u.loop-n-test.true) e.entry-end.ensures

pub shape_of-out : goal.shape_of-out
shape_of-out c = wrote_length c.loop-n.invariant.wrote

pub returns : goal.returns
returns c = wrote_as (lined_end c.loop-n.invariant c.loop-n-test.false) (ap entries (take-length c.args.list.now))
