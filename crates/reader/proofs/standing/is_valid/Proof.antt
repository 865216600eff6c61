-- `reader::standing::is_valid` meets its contract: the numbers are tried first, so that no sum is too large.
use mathlib.Core.Path.{sym, ◌∙◌}
use Rattle.reader.specs.standing.Stands.{is_valid}
use borrow.Author.Rules.{rules}
use Rattle.reader.proofs.standing.is_valid.Statement.{statement}
use Rattle.reader.proofs.standing.is_valid.Tie as tie

valid_parts-requires : tie.Need-valid_parts-requires
valid_parts-requires c κs = sym c.valid_counts.ensures ∙ c.if-valid_counts.true

returns : tie.Need-returns-then-valid_counts
unfolding is_valid
returns c = rw (sym c.valid_counts.ensures ∙ c.if-valid_counts.true) c.valid_parts.ensures

returns-2 : tie.Need-returns
unfolding is_valid
returns-2 c = rw (sym c.valid_counts.ensures ∙ c.if-valid_counts.false)

pub is_valid_spec : {M : Type 1} → statement M
is_valid_spec = tie.close (tie.spec (λ c κs. search rules) valid_parts-requires returns returns-2)
