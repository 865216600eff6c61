-- `cell_builder::placed::gather` meets its contract: the cells stand together at the beginning of the list, their offsets at the beginning of the starts.
use borrow.Author.Rules.{rules}
use Rattle.cell_memory.specs.outputs.laws.Padded.{gathered}
use Rattle.cell_builder.proofs.placed.gather.Statement.{statement}
use Rattle.cell_builder.proofs.placed.gather.Tie as tie

returns : tie.Need-returns
returns c =
    let k = c in
    let d = k in (
      d.place_cells-p.ensures.0,
      d.place_cells-p.ensures.1,
      λ cells q r. gathered _ _ _ _ _ _ _ (d.place_cells-p.ensures.2 cells q r) q _ _ (search rules) (search rules) k.clear_after.ensures.0 k.clear_after.ensures.1,
    )

pub gather_spec : {M : Type 1} → statement M
gather_spec = tie.close (tie.spec (λ c κs. search rules) (λ c κs. search rules) (λ c. search rules) (λ c. search rules) returns)
