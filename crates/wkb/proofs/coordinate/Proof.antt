-- `wkb::coordinate` meets its contract: a number of the first list, or of the second.
use mathlib.Core.Path.{◌∙◌}
use Rattle.wkb.specs.laws.Points.{of_floats, of_bits}
use borrow.Author.Rules.{rules}
use Rattle.wkb.proofs.coordinate.Statement.{statement}
use Rattle.wkb.proofs.coordinate.Tie as tie

returns : tie.Need-returns-then-k-floats
returns c =
    let a = c.args in
    c.pattern.ensures ∙ of_floats a.floats.now a.bits.now a.k c.if-k-floats.true

returns-2 : tie.Need-returns
returns-2 c =
    let a = c.args in
    of_bits a.floats.now a.bits.now a.k c.if-k-floats.false

pub coordinate_spec : {M : Type 1} → statement M
coordinate_spec =
    tie.close
    (tie.spec (λ c. search rules) (λ c. search rules) (λ c κs. search rules) returns (λ c. search rules)
    (λ c. search rules) (λ c. search rules) returns-2)
