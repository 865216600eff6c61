-- `certifying::tree::all_nearer` meets its contract.
use Rattle.certifying.specs.call.laws.Stages.{names_none}
use Rattle.certifying.specs.tree.laws.Search.{all_asked}
use borrow.Author.Rules.{rules}
use Rattle.certifying.proofs.tree.all_nearer.Statement.{statement}
use Rattle.certifying.proofs.tree.all_nearer.Tie as tie

first_nearer-requires : tie.Need-first_nearer-requires
first_nearer-requires c κs =
    let s = c in
    (names_none s.args.sites.now s.args.s s.requires.0, s.requires.1)

returns : tie.Need-returns
returns c =
    let s = c in
    all_asked s.args.far s.args.sites.now s.args.s s.args.vertices.now s.args.entries.now c.no_others-none.ensures c.first_nearer.ensures

pub all_nearer_spec : {M : Type 1} → statement M
all_nearer_spec =
    tie.close (tie.spec (λ c κs. search rules) first_nearer-requires returns)
