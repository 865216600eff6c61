-- One direction, then the other.
use mathlib.Core.Logic.{inl}
use mathlib.Core.Path.{ap}
use mathlib.Core.Bool.{not}
use borrow.Author.Rules.{rules}
use Rattle.base.specs.common.laws.Decide.{refused, granted, says_or}
use Rattle.flipping.proofs.rule.joins.Statement.{statement}
use Rattle.flipping.proofs.rule.joins.Tie as tie

returns : tie.Need-returns-then-runs
returns c =
    let r = c in
    inl (rw r.end_site-t.ensures at (granted r.runs.result (ap not c.if-runs.true) r.runs.ensures))

returns-2 : tie.Need-returns
returns-2 c =
    let r = c in
    rw r.end_site-t.ensures at (says_or _ c.runs-2.result (refused r.runs.result (ap not c.if-runs.false) r.runs.ensures) c.runs-2.ensures)

pub joins_spec : {M : Type 1} → statement M
joins_spec =
    tie.close
    (tie.spec (λ c. search rules) (λ c. search rules) (λ c κs. search rules) (λ c κs. search rules) returns
    (λ c κs. search rules) returns-2)
