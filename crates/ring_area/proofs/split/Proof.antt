-- `ring_area::split` meets its contract: a subnormal has no hidden digit.
use borrow.Author.Rules.{rules}
use Rattle.ring_area.specs.laws.Splits.{split_low, split_high}
use Rattle.ring_area.proofs.split.Statement.{statement}
use Rattle.ring_area.proofs.split.Tie as tie

returns : tie.Need-returns-then-e-eq0
returns c = split_low _ c.if-e-eq0.true

returns-2 : tie.Need-returns
returns-2 c = split_high _ c.requires c.if-e-eq0.false

pub split_spec : {M : Type 1} → statement M
split_spec =
    tie.close
    (tie.spec returns (λ c. search rules) (λ c. search rules) returns-2)
