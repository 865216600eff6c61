-- `ring_area::rounded::halved` meets its contract: by the last bit, and whether anything is below.
use borrow.Author.Rules.{rules}
use Rattle.ring_area.specs.rounded.laws.Halves.{halved_even, halved_tie, halved_up}
use Rattle.ring_area.proofs.rounded.halved.Statement.{statement}
use Rattle.ring_area.proofs.rounded.halved.Tie as tie

returns : tie.Need-returns-then-q-eq0
returns c = halved_even _ _ c.if-q-eq0.true

returns-2 : tie.Need-returns-then-exact
returns-2 c = halved_tie _ _ c.if-q-eq0.false c.if-exact.true

returns-3 : tie.Need-returns
returns-3 c = halved_up _ _ c.if-q-eq0.false c.if-exact.false

pub halved_spec : {M : Type 1} → statement M
halved_spec =
    tie.close
    (tie.spec returns (λ c. search rules) returns-2 (λ c. search rules) returns-3)
