-- `cell_builder::placed::crowd_of` meets its contract: any other site owns two corners at most.
use borrow.Author.Rules.{rules}
use Rattle.cell_builder.specs.placed.laws.Crowd.{crowd_first, crowd_third}
use Rattle.cell_builder.proofs.placed.crowd_of.Statement.{statement}
use Rattle.cell_builder.proofs.placed.crowd_of.Tie as tie

returns : tie.Need-returns-then-owners
returns c = crowd_first c.args.owners (search rules) c.if-owners.true

returns-2 : tie.Need-returns
returns-2 c = crowd_third c.args.owners (search rules) c.if-owners.false

pub crowd_of_spec : {M : Type 1} → statement M
crowd_of_spec =
    tie.close
    (tie.spec (λ c. search rules) (λ c. search rules) (λ c. search rules) returns (λ c. search rules) returns-2)
