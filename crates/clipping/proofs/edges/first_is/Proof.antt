-- `clipping::edges::first_is` meets its contract, case by case.
use borrow.Author.Rules.{rules}
use Rattle.clipping.proofs.edges.first_is.Statement.{statement}
use Rattle.clipping.proofs.edges.first_is.Tie as tie

returns-2 : tie.Need-returns-in-One
returns-2 c = rw c.in-One.is

returns-3 : tie.Need-returns-in-Two
returns-3 c = rw c.in-Two.is

pub first_is_spec : {M : Type 1} → statement M
first_is_spec =
    tie.close (tie.spec (λ c. search rules) (λ c. search rules) (λ c. search rules) (λ c. search rules) returns-2
    returns-3)
