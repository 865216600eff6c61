-- `octets::hex::put_byte` meets its contract: two stores.
use mathlib.Core.List.{[], ◌∷◌}
use native.Mathlib.Omega.{arith}
use lib.ListN.{length-set}
use Rattle.octets.specs.hex.laws.Hex.{hex_length, byte_wrote}
use borrow.Author.Rules.{rules}
use Rattle.octets.proofs.hex.put_byte.Statement.{statement}
use Rattle.octets.proofs.hex.put_byte.Tie as tie

slice_write-out : tie.Need-bounds-out-at
slice_write-out c = omega (arith, c.requires, hex_length (c.args.b ∷ []))

slice_write-out-2 : tie.Need-bounds-out-at-2
slice_write-out-2 c =
    let start = c in
    omega (arith, start.requires, hex_length (start.args.b ∷ []), length-set start.args.out.now start.args.at c.digit-high.result)

returns : tie.Need-returns
returns c =
    let a = c.args in
    byte_wrote a.b a.out.now a.at c.digit-high.ensures c.digit-low.ensures

pub put_byte_spec : {M : Type 1} → statement M
put_byte_spec =
    tie.close
    (tie.spec (λ c κs. search rules) (λ c κs. search rules) slice_write-out (λ c. search rules)
    slice_write-out-2 (λ c. search rules) (λ c. search rules) returns)
