-- `test_replay::words::held::refused` meets its contract.
use borrow.Author.Rules.{rules}
use Rattle.test_replay.specs.words.laws.Held.{refused_says}
use Rattle.test_replay.proofs.words.held.refused.Statement.{statement}
use Rattle.test_replay.proofs.words.held.refused.Tie as tie

returns : tie.Need-returns
returns c =
    let at_bits = c in
    let at_rest = at_bits in
    let a = at_rest.args in
    refused_says a.number a.b.now a.work.now a.vertices.now a.indexes.now a.offsets.now a.counts.now
    at_bits.holds.result at_bits.holds-2.result c.holds_floats.result
    c.holds-3.result c.holds-4.result at_rest.rest-all.result at_bits.rest_bits.result at_rest.rest-all.ensures
    at_bits.rest_bits.ensures at_bits.holds.ensures at_bits.holds-2.ensures
    c.holds_floats.ensures c.holds-3.ensures c.holds-4.ensures

pub refused_spec : {M : Type 1} → statement M
refused_spec =
    tie.close
    (tie.spec (λ c κs. search rules) (λ c κs. search rules) (λ c κs. search rules) (λ c κs. search rules)
    (λ c κs. search rules) (λ c κs. search rules) (λ c κs. search rules) returns)
