-- `reader::state::store` meets its contract, word by word.
use mathlib.Core.Path.{refl}
use native.Mathlib.Omega.{arith}
use lib.ListN.{length-set}
use Rattle.reader.specs.state.Words.{stored}
use borrow.Author.Rules.{rules}
use Rattle.reader.proofs.state.store.Statement.{statement}
use Rattle.reader.proofs.state.store.Tie as tie

returns : tie.Need-returns
unfolding stored
returns c = refl

pub store_spec : {M : Type 1} → statement M
store_spec =
    tie.close
    (tie.spec (λ c. search rules) (λ c. simp length-set (omega arith)) (λ c. simp length-set (omega arith))
    (λ c. simp length-set (omega arith)) (λ c. simp length-set (omega arith)) (λ c. simp length-set (omega arith))
    (λ c. simp length-set (omega arith)) (λ c. simp length-set (omega arith)) (λ c. simp length-set (omega arith))
    (λ c. simp length-set (omega arith)) (λ c. simp length-set (omega arith)) (λ c. simp length-set (omega arith))
    (λ c. simp length-set (omega arith)) (λ c. simp length-set (omega arith)) (λ c. simp length-set (omega arith))
    (λ c. simp length-set (omega arith)) (λ c. simp length-set) returns)
