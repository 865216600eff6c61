-- `octets::hex::byte_of` meets its contract: the byte of two values below 16.
use mathlib.Core.Path.{ap₂}
use Prim.Native.Nat.{ℕ, ◌+◌, ◌*◌, ◌%◌}
use borrow.Author.Rules.{rules}
use Rattle.octets.proofs.hex.byte_of.Statement.{statement}
use Rattle.octets.proofs.hex.byte_of.Tie as tie

returns : tie.Need-returns
returns c = ap₂ (λ (x y : ℕ). x % 16 * 16 + y % 16) c.value.ensures c.value-2.ensures

pub byte_of_spec : {M : Type 1} → statement M
byte_of_spec = tie.close (tie.spec (λ c κs. search rules) (λ c. search rules) (λ c κs. search rules) (λ c. search rules) returns)
