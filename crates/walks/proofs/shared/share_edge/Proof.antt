-- The count of shared entries is asked for two.
use Rattle.walks.specs.shared.Cells.{share_edge_of}
use borrow.Author.Rules.{rules}
use Rattle.walks.proofs.shared.share_edge.Statement.{statement}
use Rattle.walks.proofs.shared.share_edge.Tie as tie

returns : tie.Need-returns
unfolding share_edge_of
returns c = rw (c.shared_entries.ensures, c.cell.ensures, c.cell-2.ensures)

pub share_edge_spec : {M : Type 1} → statement M
share_edge_spec =
    tie.close (tie.spec (λ c κs. search rules) (λ c κs. search rules) (λ c κs. search rules) returns)
