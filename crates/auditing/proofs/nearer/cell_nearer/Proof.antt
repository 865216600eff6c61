-- `auditing::nearer::cell_nearer` meets its contract: the first is before the end.
use Rattle.auditing.specs.nearer.laws.Pieces.{cell_is}
use borrow.Author.Rules.{rules}
use Rattle.auditing.proofs.nearer.cell_nearer.Statement.{statement}
use Rattle.auditing.proofs.nearer.cell_nearer.Tie as tie

returns : tie.Need-returns
returns c =
    let s = c in
    cell_is s.args.far s.args.sites.now s.args.s s.args.part.now s.args.all s.args.vertices.now s.args.entries.now c.first_nearer.ensures

pub cell_nearer_spec : {M : Type 1} → statement M
cell_nearer_spec = tie.close (tie.spec (λ c κs. search rules) returns)
