-- `building::counts::finish` meets its contract: both slices are cleared, or the counts are put.
use borrow.Author.Tests.{eq-eqb, ne_eqb}
use borrow.Author.Rules.{rules}
use Rattle.building.proofs.counts.finish.Statement.{statement}
use Rattle.building.proofs.counts.finish.Tie as tie

returns : tie.Need-returns-then-number-ne0
returns c =
    let first = c in
    let t = first in
    let n = ne_eqb _ 0 t.if-number-ne0.true in
    record { work = rw n first.clear.ensures; counts = rw n c.clear-then-number-ne0.ensures }

returns-2 : tie.Need-returns
returns-2 c =
    let n = eq-eqb _ 0 c.if-number-ne0.false in
    record { work = rw n; counts = rw n c.put_counts.ensures }

pub finish_spec : {M : Type 1} → statement M
finish_spec =
    tie.close
    (tie.spec (λ c κs. search rules) (λ c κs. search rules) (λ c. search rules) (λ c. search rules) returns
    (λ c κs. search rules) (λ c. search rules) returns-2)
