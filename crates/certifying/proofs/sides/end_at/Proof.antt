-- `certifying::sides::end_at` meets its contract.
use native.Mathlib.Omega.{arith}
use Rattle.certifying.specs.sides.laws.Ends.{end_inner, end_last}
use borrow.Author.Rules.{rules}
use Rattle.certifying.proofs.sides.end_at.Statement.{statement}
use Rattle.certifying.proofs.sides.end_at.Tie as tie

returns : tie.Need-returns-then-i-cell
returns c = end_inner _ _ c.if-i-cell.true

returns-2 : tie.Need-returns
returns-2 c = end_last _ _ (omega arith) (omega arith)

pub end_at_spec : {M : Type 1} → statement M
end_at_spec =
    tie.close
    (tie.spec (λ c. search rules) (λ c. search rules) (λ c. search rules) (λ c. search rules) returns
    (λ c. search rules) returns-2)
