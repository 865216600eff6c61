-- `all_wkb::polygon_size` meets its contract: nine bytes, or 29 and 16 for each entry.
use mathlib.Core.Path.{sym}
use native.Mathlib.Omega.{arith}
use borrow.Author.Rules.{rules}
use Rattle.wkb.specs.laws.Room.{size_none, size_ring}
use Rattle.all_wkb.proofs.polygon_size.Statement.{statement}
use Rattle.all_wkb.proofs.polygon_size.Tie as tie

returns : tie.Need-returns-then-entries-lt3
returns c = sym (size_none _ c.if-entries-lt3.true)

returns-2 : tie.Need-returns
returns-2 c = omega (arith, size_ring _ c.if-entries-lt3.false)

pub polygon_size_spec : {M : Type 1} → statement M
polygon_size_spec = tie.close (tie.spec returns (λ c. search rules) (λ c. search rules) returns-2)
