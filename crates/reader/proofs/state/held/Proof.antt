-- `reader::state::held` meets its contract, word by word.
use mathlib.Core.Path.{refl}
use borrow.Author.Rules.{rules}
use Rattle.reader.proofs.state.held.Statement.{statement}
use Rattle.reader.proofs.state.held.Tie as tie

returns : tie.Need-returns
returns c = refl

pub held_spec : {M : Type 1} → statement M
held_spec = tie.close (tie.spec (λ c. search rules) (λ c. search rules) (λ c. search rules) (λ c. search rules) (λ c. search rules) (λ c. search rules)
    (λ c. search rules) (λ c. search rules) (λ c. search rules) returns)
