-- Two sums of three products.
use borrow.Author.Rules.{rules}
use Rattle.grid.proofs.area.Statement.{statement}
use Rattle.grid.proofs.area.Tie as tie

returns : tie.Need-returns
returns c = (rw (c.three-plus.ensures.0, c.three-minus.ensures.0), record { plus = c.three-plus.ensures.1; minus = c.three-minus.ensures.1 })

pub area_spec : {M : Type 1} → statement M
area_spec = tie.close (tie.spec (λ c κs. search rules) (λ c κs. search rules) returns)
