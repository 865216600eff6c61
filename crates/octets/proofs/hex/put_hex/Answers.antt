-- `octets::hex::put_hex` meets its contract: each turn writes one byte more.
use Rattle.std.proofs.Common.{◌+◌, [], ◌∷◌, length, get_or, drop, sym, ap, subst}
use Rattle.std.proofs.Math.Seq.{take-length}
use Rattle.octets.specs.Wrote.{HasRoom}
use Rattle.octets.specs.laws.Wrote.{lined_start, lined_fits, lined_step, lined_end, wrote_as}
use Rattle.octets.specs.hex.Hex.{hex}
use Rattle.octets.specs.hex.laws.Hex.{hex_none, hex_more, hex_whole}
use Rattle.octets.proofs.hex.put_hex.Goals as goal

pub loop-byte-init : goal.loop-byte-init
loop-byte-init c = let a = c.args in lined_start _ (length a.bytes.now) a.out.now a.at (hex_none a.bytes.now)

pub put_byte-end-requires : goal.put_byte-end-requires
put_byte-end-requires c =
    let l = c.loop-byte in
    let list = c.args.bytes.now in
    lined_fits l.invariant (hex (get_or list l.byte-index 0 ∷ [])) (hex (drop (l.byte-index + 1) list)) (hex_more list l.byte-index c.loop-byte-test.true)
    (hex_whole list (l.byte-index + 1)) (subst (HasRoom c.args.out.now c.args.at) (ap hex (sym (take-length list))) c.requires)

pub loop-byte-preserved : goal.loop-byte-preserved
loop-byte-preserved c =
    let l = c.loop-byte in
    let list = c.args.bytes.now in
    let more = c.loop-byte-test.true in
    lined_step l.invariant (hex (get_or list l.byte-index 0 ∷ [])) more (hex_more list l.byte-index more) c.put_byte-end.ensures

pub returns : goal.returns
returns c = wrote_as (lined_end c.loop-byte.invariant c.loop-byte-test.false) (ap hex (take-length c.args.bytes.now))
