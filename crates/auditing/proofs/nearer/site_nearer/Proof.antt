-- `auditing::nearer::site_nearer` meets its contract: the parts of the two lists that are the site's.
use Rattle.auditing.specs.nearer.laws.Pieces.{held_cut, held_names, piece_names, site_is}
use borrow.Author.Rules.{rules}
use Rattle.auditing.proofs.nearer.site_nearer.Statement.{statement}
use Rattle.auditing.proofs.nearer.site_nearer.Tie as tie

abbrev Start : tie.After-no_lists-all → tie.Start
Start c = c.before.before.before.before.before.before.before

held-requires : tie.Need-held-part-requires
held-requires c κs = held_cut (Start c).requires.0 (Start c).args.s (Start c).requires.2

cell_nearer-requires : tie.Need-cell_nearer-requires
cell_nearer-requires c κs =
    let s = Start c.before.before in
    (held_names s.requires.0 s.args.s s.requires.2 c.no_lists-all.ensures c.held-part.ensures, piece_names s.requires.1 s.args.s s.requires.2 c.cell-entries.ensures)

returns : tie.Need-returns
returns c =
    let at_held = c in
    let s = Start at_held.before.before.before in
    site_is s.args.far s.args.sites.now s.args.starts.now s.args.others.now s.args.vertices.now s.args.offsets.now s.args.indexes.now s.args.s
    at_held.no_lists-all.ensures at_held.held-part.ensures c.cell-entries.ensures c.cell_nearer.ensures

pub site_nearer_spec : {M : Type 1} → statement M
site_nearer_spec =
    tie.close (tie.spec (λ c κs. search rules) held-requires (λ c κs. search rules) cell_nearer-requires returns)
