-- Rules 7 to 10 and 16 give what neighbours after clipping need.
use Rattle.std.specs.Prelude.{◌≡◌, List, ℕ, ◌+◌, length}
use Rattle.std.proofs.Common.{arith}
use Rattle.mesh.specs.Accepted.{Topology}
use Rattle.mesh.specs.laws.Facts.{paired, entry_site}
use Rattle.walks.specs.shared.Cells.{Cells}
use Rattle.queries.specs.clipped.Clippable.{Clippable}

pub clippable : {tri he hull off ix : List ℕ} {n : ℕ} → Topology tri he hull n → length off ≡ n + 1 → Cells off (length ix) → Clippable tri he off ix
clippable t q c = record { paired = paired t; even = t.same; named = λ e l. omega (arith, entry_site t e l); cells = c }
