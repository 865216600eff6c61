-- `octets::patterns::pattern` meets its contract: a NaN is what differs from itself.
use mathlib.Core.Path.{sym, ap, ◌∙◌}
use lib.Ieee.{binary64, to_bits}
use Rattle.root.specs.laws.Tests.{no_nan, self_nan}
use Rattle.root.specs.laws.Signs.{bits_nan}
use borrow.Author.Rules.{rules}
use Rattle.octets.proofs.patterns.pattern.Statement.{statement}
use Rattle.octets.proofs.patterns.pattern.Tie as tie

returns : tie.Need-returns-then-x
returns c = sym (ap (to_bits binary64) (self_nan _ c.if-x.true) ∙ bits_nan)

pub pattern_spec : {M : Type 1} → statement M
pattern_spec = tie.close (tie.spec returns (λ c. no_nan _ c.if-x.false) (λ c. search rules))
