-- `octets::hex::put_turned` meets its contract: as `put_hex`, on the bytes from the last to the first.
use Rattle.std.proofs.Common.{◌≡◌, ◌+◌, ◌-◌, ◌<◌, ◌≤◌, List, ℕ, [], ◌∷◌, ◌++◌, reverse, length, get_or, take, drop, arith, sym, ap, subst}
use Rattle.std.proofs.lemmas.List.{length-reverse}
use Rattle.std.proofs.Math.Seq.{take-length}
use Rattle.octets.specs.Wrote.{HasRoom}
use Rattle.octets.specs.laws.Wrote.{Lined, lined_start, lined_fits, lined_step, lined_end, wrote_as}
use Rattle.octets.specs.hex.Hex.{hex}
use Rattle.octets.specs.hex.laws.Hex.{hex_none, hex_whole, turned_more}
use Rattle.octets.proofs.hex.put_turned.Goals as goal

-- the turn that writes byte i - 1 comes after length s - i others
next : (s : List ℕ) (i : ℕ) → 0 < i → i ≤ length s
    → hex (take (length s - i + 1) (reverse s)) ≡ hex (take (length s - i) (reverse s)) ++ hex (get_or s (i - 1) 0 ∷ [])
next s i h g =
    let e : length s - 1 - (length s - i) ≡ i - 1 = omega arith in
    subst (λ (k : ℕ). hex (take (length s - i + 1) (reverse s)) ≡ hex (take (length s - i) (reverse s)) ++ hex (get_or s k 0 ∷ [])) e (turned_more s (length s - i) (omega arith))

pub loop-i-init : goal.loop-i-init
loop-i-init c =
    let a = c.args in
    let s = a.bytes.now in
    let e : 0 ≡ length s - length s = omega arith in
    subst (λ (k : ℕ). Lined (λ j. hex (take j (reverse s))) (length (reverse s)) a.out.now a.out.now a.at a.at k) e
    (lined_start _ (length (reverse s)) a.out.now a.at (hex_none (reverse s)))

pub put_byte-end-requires : goal.put_byte-end-requires
put_byte-end-requires c =
    let l = c.loop-i in
    let s = c.args.bytes.now in
    let k = length s - l.i in
    lined_fits l.invariant (hex (get_or s (l.i - 1) 0 ∷ [])) (hex (drop (k + 1) (reverse s))) (next s l.i c.loop-i-test.true (omega arith))
    (hex_whole (reverse s) (k + 1)) (subst (HasRoom c.args.out.now c.args.at) (ap hex (sym (take-length (reverse s)))) c.requires)

pub loop-i-preserved : goal.loop-i-preserved
loop-i-preserved c =
    let l = c.loop-i in
    let s = c.args.bytes.now in
    let e : length s - l.i + 1 ≡ length s - (l.i - 1) = omega arith in
    subst (λ (k : ℕ). Lined (λ j. hex (take j (reverse s))) (length (reverse s)) c.args.out.now c.put_byte-end.new.out c.args.at c.put_byte-end.result k) e
    (lined_step l.invariant (hex (get_or s (l.i - 1) 0 ∷ [])) (omega (arith, length-reverse s)) (next s l.i c.loop-i-test.true (omega arith)) c.put_byte-end.ensures)

pub returns : goal.returns
returns c =
    let s = c.args.bytes.now in
    wrote_as (lined_end c.loop-i.invariant (omega (arith, c.loop-i-test.false, length-reverse s))) (ap hex (take-length (reverse s)))
