-- The two offsets are in order and within the list, so the part between them is the cell.
use Rattle.walks.specs.shared.Cells.{cell_of}
use Rattle.walks.specs.shared.laws.Offsets.{between}
use native.Mathlib.Omega.{arith}
use borrow.Author.Rules.{rules}
use Rattle.walks.proofs.shared.cell.Statement.{statement}
use Rattle.walks.proofs.shared.cell.Tie as tie

abbrev Begin : tie.After-wide-to → tie.Start
Begin c = c.before.before.before.before.before.before

mul-result : tie.Need-offset_bounds-indexes-from
mul-result c = let b = between _ _ _ _ _ (Begin c).requires.0 (Begin c).requires.1 c.wide-from.ensures c.wide-to.ensures in record { fits = omega arith }

sub-result : tie.Need-slice_bounds-result-count
sub-result c = (between _ _ _ _ _ (Begin c).requires.0 (Begin c).requires.1 c.wide-from.ensures c.wide-to.ensures).order

part-result-start : tie.Need-slice_bounds-result-start
part-result-start c = (between _ _ _ _ _ (Begin c).requires.0 (Begin c).requires.1 c.wide-from.ensures c.wide-to.ensures).order

part-result-end : tie.Need-slice_bounds-result-end
part-result-end c = (between _ _ _ _ _ (Begin c).requires.0 (Begin c).requires.1 c.wide-from.ensures c.wide-to.ensures).within

returns : tie.Need-returns
unfolding cell_of
returns c = rw (c.wide-to.ensures, c.wide-from.ensures)

pub cell_spec : {M : Type 1} → statement M
cell_spec =
    tie.close
    (tie.spec (λ c. search rules) (λ c. search rules) (λ c κs. search rules) (λ c. search rules) (λ c. search rules)
    (λ c. search rules) (λ c κs. search rules) mul-result sub-result part-result-start part-result-end returns)
