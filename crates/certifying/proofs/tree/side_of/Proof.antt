-- `certifying::tree::side_of` meets its contract: nothing is promised of it.
use borrow.Author.Rules.{rules}
use Rattle.certifying.proofs.tree.side_of.Statement.{statement}
use Rattle.certifying.proofs.tree.side_of.Tie as tie

pub side_of_spec : {M : Type 1} → statement M
side_of_spec =
    tie.close (tie.spec (λ c. search rules))
