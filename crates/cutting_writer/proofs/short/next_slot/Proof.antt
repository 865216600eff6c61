-- Both cases of `next_slot`, by its test.
use Prim.Native.Nat.{◌+◌}
use Rattle.cutting_writer.specs.short.Short.{next_slot}
use borrow.Author.Rules.{rules}
use borrow.Author.Tests.{lt-ltb, le-ltb}
use mathlib.Core.Path.{refl}
use native.Mathlib.Omega.{arith}
use Rattle.cutting_writer.proofs.short.next_slot.Statement.{statement}
use Rattle.cutting_writer.proofs.short.next_slot.Tie as tie

returns : tie.Need-returns-then-i-count
unfolding next_slot
returns c = let a = c.args in rw (lt-ltb (a.i + 1) a.count c.if-i-count.true) refl

returns-2 : tie.Need-returns
unfolding next_slot
returns-2 c = let a = c.args in rw (le-ltb (a.i + 1) a.count (omega (arith, c.if-i-count.false))) refl

pub next_slot_spec : {M : Type 1} → statement M
next_slot_spec =
    tie.close
    (tie.spec (λ c. search rules) (λ c. search rules) (λ c. search rules) returns returns-2)
