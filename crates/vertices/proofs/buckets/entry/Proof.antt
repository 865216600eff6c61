-- `vertices::buckets::entry`: the number is below the marks, and no digit is shifted out.
use mathlib.Core.Path.{ap, ap₂, ◌∙◌}
use Prim.Native.Nat.{◌+◌, ◌*◌, ◌/◌}
use native.Mathlib.Nat.{one-mul}
use native.Mathlib.Numerals.{add-one}
use native.Mathlib.Omega.{arith}
use lib.Bits.{bit_or}
use lib.Dec.{lit<}
use lib.Pow.{shl_exact}
use Rattle.vertices.specs.buckets.Buckets.{entry_with}
use Rattle.vertices.proofs.buckets.entry.Statement.{statement}
use Rattle.vertices.proofs.buckets.entry.Tie as tie

returns : tie.Need-returns
unfolding entry_with
returns c =
    ap₂ bit_or (ap (◌+◌ (c.args.e / 1048576 * 1048576)) (add-one c.args.k)) (shl_exact 1 c.args.mark 32 (lit< tt) (omega (arith, c.requires.1)) ∙ one-mul _)

pub entry_spec : {M : Type 1} → statement M
entry_spec =
    tie.close
    (tie.spec (λ c. omega arith) (λ c. record { fits = omega (arith, c.requires) }) (λ c. omega (arith, c.requires)) (λ c. omega (arith, c.requires)) (λ c. omega (arith, c.requires)) (λ c. c.requires.1) returns)
