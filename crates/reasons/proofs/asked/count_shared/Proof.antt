-- Entries are counted over the first cell; fewer than two of them fit.
use native.Mathlib.Omega.{arith}
use borrow.Author.Rules.{rules}
use Rattle.reasons.specs.laws.Answer.{shared_cells}
use Rattle.reasons.proofs.asked.count_shared.Statement.{statement}
use Rattle.reasons.proofs.asked.count_shared.Tie as tie

cast-result : tie.Need-overflow_cast-result
cast-result c =
    let second = c in
    let first = second in
    let start = first in
    let e = shared_cells _ _ first.wide.ensures second.wide-2.ensures first.cell-first.ensures second.cell-second.ensures c.shared_entries.ensures in
    record { fits = omega (arith, e, start.requires.3) }

returns : tie.Need-returns
returns c =
    let second = c in
    let first = second in
    shared_cells _ _ first.wide.ensures second.wide-2.ensures first.cell-first.ensures second.cell-second.ensures c.shared_entries.ensures

pub count_shared_spec : {M : Type 1} → statement M
count_shared_spec =
    tie.close
    (tie.spec (λ c κs. search rules) (λ c κs. search rules) (λ c κs. search rules) (λ c κs. search rules) (λ c κs. search rules) cast-result returns)
