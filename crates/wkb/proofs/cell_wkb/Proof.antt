-- `wkb::cell_wkb` meets its contract: there are no patterns after the floats.
use Rattle.wkb.specs.laws.Answer.{no_bits}
use borrow.Author.Rules.{rules}
use Rattle.wkb.proofs.cell_wkb.Statement.{statement}
use Rattle.wkb.proofs.cell_wkb.Tie as tie

returns : tie.Need-returns
returns c = no_bits c.write_cell.ensures

pub cell_wkb_spec : {M : Type 1} → statement M
cell_wkb_spec =
    tie.close
    (tie.spec (λ c. search rules) (λ c. search rules) (λ c κs. search rules) (λ c. search rules) returns)
