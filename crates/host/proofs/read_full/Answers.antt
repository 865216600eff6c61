-- What a read adds lies behind what was read before.
use Rattle.std.proofs.Common.{◌+◌, ◌-◌, ◌≡◌, ◌++◌, ◌∙◌, take, length, rules, sym, ap, subst}
use Rattle.std.specs.Io.KnownBytes.{Consumes}
use Rattle.std.proofs.KnownBytes.{Consumes-trans}
use Rattle.std.proofs.lemmas.List.{take-append-le}
use Rattle.std.proofs.Math.Seq.{take-append-add, length-take-le}
use borrow.Rule.Slice.PartMut.{put_mid, post_of}
use Rattle.host.proofs.read_full.Goals as goal

pub loop-done-preserved : goal.loop-done-preserved
loop-done-preserved g c =
    let from = c.loop-done.done in
    let read = c.read_once-n.new.bytes in
    let more = c.read_once-n.result in
    let rest = post_of from (length c.loop-done.bytes - from) c.loop-done.bytes in
    let within = c.loop-done.invariant.0 in
    let joined : take (from + more) (put_mid from (length c.loop-done.bytes - from) c.loop-done.bytes read) ≡ take from c.loop-done.bytes ++ take more read =
    ap (λ l. take l (take from c.loop-done.bytes ++ (read ++ rest))) (ap (λ k. k + more) (sym (length-take-le from c.loop-done.bytes within)))
    ∙ take-append-add (take from c.loop-done.bytes) (read ++ rest) more ∙ ap (λ l. take from c.loop-done.bytes ++ l) (take-append-le more read rest c.read_once-n.ensures.within) in
    (search rules, subst (Consumes _ _) (sym joined) (Consumes-trans _ _ _ _ _ c.loop-done.invariant.1 c.read_once-n.ensures.read))
