-- `wkb::multipoint::number_at` meets its contract: the bytes and the mark are the structure's.
use mathlib.Core.Path.{◌∙◌}
use Rattle.wkb.specs.multipoint.laws.Fields.{read_field}
use borrow.Author.Rules.{rules}
use Rattle.wkb.proofs.multipoint.number_at.Statement.{statement}
use Rattle.wkb.proofs.multipoint.number_at.Tie as tie

returns : tie.Need-returns
returns c =
    let a = c.args in
    (c.get.ensures.0 ∙ read_field a.file.now a.at a.from a.n, c.get.ensures.1)

pub number_at_spec : {M : Type 1} → statement M
number_at_spec = tie.close (tie.spec (λ c. search rules) (λ c. search rules) (λ c κs. search rules) returns)
