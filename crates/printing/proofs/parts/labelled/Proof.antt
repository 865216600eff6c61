-- `printing::parts::labelled` meets its contract: the label, and the entry after it.
use native.Mathlib.Omega.{arith}
use lib.ListN.{length-append}
use Rattle.octets.specs.laws.Wrote.{wrote_then}
use borrow.Author.Rules.{rules}
use Rattle.printing.proofs.parts.labelled.Statement.{statement}
use Rattle.printing.proofs.parts.labelled.Tie as tie

abbrev Entry : tie.After-put-end → tie.Start
Entry c = c.before.before.before.before

returns : tie.Need-returns
returns c =
    let two = c in
    let one = two in
    wrote_then one.put-end.ensures two.entry.ensures

pub labelled_spec : {M : Type 1} → statement M
labelled_spec =
    tie.close
    (tie.spec (λ c κs. omega (arith, simp length-append at c.requires))
    (λ c κs. omega (arith, simp length-append at (Entry c.before.before.before).requires)) (λ c. search rules) returns)
