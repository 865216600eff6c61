-- `clipping::ring::turned` meets its contract: the front of the turned ring is the part before f reversed, its back the rest reversed.
use Prim.Native.Nat.{ℕ, ◌-◌}
use mathlib.Core.Path.{ap, ◌∙◌}
use native.Mathlib.Omega.{arith}
use lib.ListN.{get_or}
use Rattle.clipping.specs.laws.ReversedRing.{turned_front, turned_back}
use borrow.Author.Rules.{rules}
use Rattle.clipping.proofs.ring.turned.Statement.{statement}
use Rattle.clipping.proofs.ring.turned.Tie as tie

returns : tie.Need-returns-then-k-f
returns c =
    let a = c.args in
    (omega arith, λ ring e. turned_front a.f ring (omega arith) a.k c.if-k-f.true)

returns-2 : tie.Need-returns
returns-2 c =
    let a = c.args in
    (omega arith, λ ring e. turned_back a.f ring (omega arith) a.k c.if-k-f.false (omega arith) ∙ ap (λ (n : ℕ). get_or ring (n - 1 - (a.k - a.f)) 0) e)

pub turned_spec : {M : Type 1} → statement M
turned_spec =
    tie.close (tie.spec (λ c. search rules) (λ c. search rules) returns (λ c. search rules) (λ c. search rules)
    returns-2)
