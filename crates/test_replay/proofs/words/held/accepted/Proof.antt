-- `test_replay::words::held::accepted` meets its contract.
use borrow.Author.Rules.{rules}
use Rattle.test_replay.specs.words.laws.Held.{build_says}
use Rattle.test_replay.proofs.words.held.accepted.Statement.{statement}
use Rattle.test_replay.proofs.words.held.accepted.Tie as tie

returns : tie.Need-returns
returns c =
    let at-floats = c in
    let at_end = at-floats in
    let a = at_end.args in
    build_says a.b.now a.k a.work.now a.vertices.now a.indexes.now a.offsets.now a.counts.now
    at-floats.holds.result at-floats.holds-2.result
    at-floats.holds_floats.result c.holds-3.result c.holds-4.result
    at-floats.table.result at-floats.points.result at-floats.index.result
    c.starts.result at_end.end-last.result c.after.result c.index-2.result
    at_end.end-last.ensures at-floats.table.ensures at-floats.points.ensures
    at-floats.index.ensures.0 c.starts.ensures c.after.ensures
    c.index-2.ensures.0 at-floats.holds.ensures
    at-floats.holds-2.ensures at-floats.holds_floats.ensures c.holds-3.ensures
    c.holds-4.ensures

pub accepted_spec : {M : Type 1} → statement M
accepted_spec =
    tie.close
    (tie.spec (λ c κs. search rules) (λ c κs. search rules) (λ c κs. search rules) (λ c κs. search rules)
    (λ c κs. search rules) (λ c κs. search rules) (λ c. search rules) (λ c κs. search rules) (λ c κs. search rules)
    (λ c κs. search rules) (λ c κs. search rules) (λ c κs. search rules) (λ c κs. search rules) returns)
