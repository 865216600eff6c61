-- `wkb::multipoint::coordinate` meets its contract: the value of the pattern at its place.
use mathlib.Core.Path.{ap, ◌∙◌}
use lib.Ieee.{binary64, of_bits}
use Rattle.wkb.specs.multipoint.Fields.{file_pattern}
use borrow.Author.Rules.{rules}
use Rattle.wkb.proofs.multipoint.coordinate.Statement.{statement}
use Rattle.wkb.proofs.multipoint.coordinate.Tie as tie

returns : tie.Need-returns
unfolding file_pattern
returns c = c.float_of.ensures ∙ ap (of_bits binary64) c.number_at.ensures.0

pub coordinate_spec : {M : Type 1} → statement M
coordinate_spec =
    tie.close
    (tie.spec (λ c. search rules) (λ c. search rules) (λ c. search rules) (λ c. search rules) (λ c κs. search rules)
    (λ c κs. search rules) returns)
