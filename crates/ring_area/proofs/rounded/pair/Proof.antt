-- `ring_area::rounded::pair` meets its contract: two limbs of 32 bits make one of 64.
use Prim.Native.Nat.{◌+◌}
use native.Mathlib.Omega.{arith}
use borrow.Author.Rules.{rules}
use Rattle.ring_area.proofs.rounded.pair.Statement.{statement}
use Rattle.ring_area.proofs.rounded.pair.Tie as tie

mul-result : tie.Need-overflow_mul-result
mul-result c =
    let s = c in
    omega (arith, c.limb-2.ensures, s.requires.0.each (s.args.i + 1))

add-result : tie.Need-overflow_add-result
add-result c =
    let s = c in
    omega (arith, c.limb-2.ensures, c.limb.ensures, s.requires.0.each s.args.i, s.requires.0.each (s.args.i + 1))

pub pair_spec : {M : Type 1} → statement M
pair_spec =
    tie.close
    (tie.spec (λ c κs. search rules) (λ c. search rules) (λ c κs. search rules) mul-result add-result (λ c. search rules))
