-- `cell_memory::outputs::lay_out` meets its contract: the regions start where the rooms add up to, and the list that they cut is EMPTY throughout.
use borrow.Author.Rules.{rules}
use Rattle.cell_memory.specs.outputs.laws.Padded.{laid_out}
use Rattle.cell_memory.proofs.outputs.lay_out.Statement.{statement}
use Rattle.cell_memory.proofs.outputs.lay_out.Tie as tie

returns : tie.Need-returns
returns c =
    let f = c in
    let i = f in
    laid_out _ _ _ _ i.args.indexes.now _ _ _ i.requires.0 i.requires.1 f.fill_from.ensures c.offsets-1.given c.region_starts.ensures

pub lay_out_spec : {M : Type 1} → statement M
lay_out_spec =
    tie.close
    (tie.spec (λ c κs. search rules) (λ c κs. search rules) (λ c. search rules) (λ c. search rules) returns)
