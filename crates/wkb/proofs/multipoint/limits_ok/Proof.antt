-- `wkb::multipoint::limits_ok` meets its contract: one comparison for each limit.
use mathlib.Core.Path.{◌≡◌, refl}
use mathlib.Core.Bool.{Bool, true, false}
use Prim.Native.Nat.{ℕ, ◌≤◌}
use native.Mathlib.Omega.{arith}
use lib.Dec.{leb}
use borrow.Author.Tests.{leb-true, leb-false}
use borrow.Author.Rules.{rules}
use Rattle.base.specs.common.Decide.{Says}
use Rattle.wkb.specs.multipoint.Promise.{SiteLimits}
use Rattle.wkb.proofs.multipoint.limits_ok.Statement.{statement}
use Rattle.wkb.proofs.multipoint.limits_ok.Tie as tie

says : (n : ℕ) (b : Bool) → 3 ≤ n → leb n 65536 ≡ b → Says b (SiteLimits n)
says n true h e = record { many = h; few = leb-true n 65536 e }
says n false h e = λ l. omega (arith, l.few, leb-false n 65536 e)

pub limits_ok_spec : {M : Type 1} → statement M
limits_ok_spec = tie.close (tie.spec (λ c. search rules) (λ c. says _ _ c.if-count-lt3.false refl))
