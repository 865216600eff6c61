-- `mend::change_lines::values` meets its contract: one value after the other.
use native.Mathlib.Omega.{arith}
use lib.ListN.{length-append}
use Rattle.octets.specs.laws.Wrote.{wrote_then}
use borrow.Author.Rules.{rules}
use Rattle.mend.proofs.change_lines.values.Statement.{statement}
use Rattle.mend.proofs.change_lines.values.Tie as tie

abbrev Entry : tie.After-value-end → tie.Start
Entry c = c.before.before.before

returns : tie.Need-returns
returns c =
    let two = c in
    let one = two in
    wrote_then one.value-end.ensures two.value.ensures

pub values_spec : {M : Type 1} → statement M
values_spec =
    tie.close
    (tie.spec (λ c κs. omega (arith, simp length-append at c.requires))
    (λ c κs. omega (arith, simp length-append at (Entry c.before.before.before).requires)) (λ c. search rules) returns)
