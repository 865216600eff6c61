-- The three half-edges of the triangle are read.
use Rattle.walks.specs.shared.Edge.{names_of}
use mathlib.Core.Path.{refl}
use borrow.Author.Rules.{rules}
use Rattle.walks.proofs.shared.names.Statement.{statement}
use Rattle.walks.proofs.shared.names.Tie as tie

returns : tie.Need-returns
unfolding names_of
returns c = refl

pub names_spec : {M : Type 1} → statement M
names_spec =
    tie.close
    (tie.spec (λ c. search rules) (λ c. search rules) (λ c. search rules) (λ c. search rules) (λ c. search rules)
    (λ c. search rules) (λ c. search rules) (λ c. search rules) returns)
