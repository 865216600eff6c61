-- `areas::area_at` meets its contract: of a ring that the rules have admitted.
use mathlib.Core.Path.{sym, ◌∙◌, subst}
use native.Mathlib.Omega.{arith}
use borrow.Author.Rules.{rules}
use Rattle.ring_area.specs.Steps.{Corners}
use Rattle.areas.specs.laws.Entries.{cell_corners}
use Rattle.areas.specs.laws.Writes.{past_last, of_cell}
use Rattle.areas.proofs.area_at.Statement.{statement}
use Rattle.areas.proofs.area_at.Tie as tie

returns : tie.Need-returns-then-s-cell_count
returns c = past_last _ _ _ _ _ c.cell_count.ensures c.if-s-cell_count.true

ring_area-requires : tie.Need-ring_area-requires
ring_area-requires c κs =
    let s = c in
    subst (Corners s.args.vertices.now) (sym c.cell.ensures) (cell_corners s.requires s.args.s (omega (arith, c.cell_count.ensures, c.if-s-cell_count.false)))

returns-2 : tie.Need-returns
returns-2 c = c.ring_area.ensures ∙ of_cell _ _ _ _ _ c.cell_count.ensures _ c.if-s-cell_count.false c.cell.ensures

pub area_at_spec : {M : Type 1} → statement M
area_at_spec = tie.close (tie.spec (λ c κs. search rules) returns (λ c κs. search rules) ring_area-requires returns-2)
