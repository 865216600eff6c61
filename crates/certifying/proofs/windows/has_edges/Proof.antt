-- `certifying::windows::has_edges` meets its contract.
use Rattle.certifying.specs.windows.laws.LeftOut.{four_true}
use borrow.Author.Rules.{rules}
use Rattle.certifying.proofs.windows.has_edges.Statement.{statement}
use Rattle.certifying.proofs.windows.has_edges.Tie as tie

returns : tie.Need-returns
returns c =
    let at3 = c in let at2 = at3 in let at1 = at2 in λ e.
    let all = four_true at1.is_edge.result at2.is_edge-2.result at3.is_edge-3.result c.is_edge-4.result e in
    record {
      left = at1.is_edge.ensures all.0;
      top = at2.is_edge-2.ensures all.1;
      right = at3.is_edge-3.ensures all.2;
      bottom = c.is_edge-4.ensures all.3;
    }

pub has_edges_spec : {M : Type 1} → statement M
has_edges_spec =
    tie.close (tie.spec (λ c κs. search rules) (λ c κs. search rules) (λ c κs. search rules) (λ c κs. search rules) returns)
