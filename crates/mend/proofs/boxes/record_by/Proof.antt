-- `mend::boxes::record_by` meets its contract: digits of a box are 66, and their bytes fill the slice.
use mathlib.Core.Path.{sym, ap, ◌∙◌}
use native.Mathlib.Omega.{arith}
use lib.ListN.{take}
use lib.Seq.{take_all}
use Rattle.octets.specs.hex.Hex.{unhex}
use Rattle.octets.specs.hex.laws.Unhex.{unhex_length}
use Rattle.mend.specs.boxes.laws.Option.{no_box, is_given, box_long}
use borrow.Author.Rules.{rules}
use Rattle.mend.proofs.boxes.record_by.Statement.{statement}
use Rattle.mend.proofs.boxes.record_by.Tie as tie

get_hex-requires : tie.Need-get_hex-requires
get_hex-requires c κs =
    let t = c in
    let b = t in
    let s = b in
    omega (arith, box_long s.args.word.now (sym b.is_box.ensures ∙ t.if-is_box.true), s.requires)

returns : tie.Need-returns-then-is_box
returns c =
    let g = c in
    let t = g in
    let b = t in
    let s = b in
    let w = s.args.word.now in
    let whole = sym b.is_box.ensures ∙ t.if-is_box.true in
    let long = unhex_length 33 w (omega (arith, box_long w whole)) in
    (ap (take 33) g.get_hex.ensures ∙ take_all 33 (unhex w) (omega arith) ∙ sym (is_given w whole), omega arith)

returns-2 : tie.Need-returns
returns-2 c = let b = c in (sym (no_box b.args.word.now (sym b.is_box.ensures ∙ c.if-is_box.false)), omega arith)

pub record_by_spec : {M : Type 1} → statement M
record_by_spec = tie.close (tie.spec (λ c κs. search rules) get_hex-requires (λ c. search rules) returns returns-2)
