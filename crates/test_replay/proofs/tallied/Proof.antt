-- `test_replay::tallied` meets its contract: one count is one more.
use borrow.Author.Rules.{rules}
use Rattle.test_replay.specs.laws.Tallied.{counts_built, counts_refused, counts_different}
use Rattle.test_replay.proofs.tallied.Statement.{statement}
use Rattle.test_replay.proofs.tallied.Tie as tie

returns : tie.Need-returns-then-verdict-eq-BUILT
returns c =
    let t = c in
    let a = t.args in
    counts_built a.all a.verdict t.if-verdict-eq-BUILT.true

returns-2 : tie.Need-returns-then-verdict-eq-REFUSED
returns-2 c =
    let t = c in
    let a = t.args in
    counts_refused a.all a.verdict t.if-verdict-eq-BUILT.false t.if-verdict-eq-REFUSED.true

returns-3 : tie.Need-returns
returns-3 c =
    let t = c in
    let a = t.args in
    counts_different a.all a.verdict t.if-verdict-eq-BUILT.false t.if-verdict-eq-REFUSED.false

pub tallied_spec : {M : Type 1} → statement M
tallied_spec = tie.close (tie.spec (λ c. search rules) returns (λ c. search rules) returns-2 (λ c. search rules) returns-3)
