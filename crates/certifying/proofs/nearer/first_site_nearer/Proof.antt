-- `certifying::nearer::first_site_nearer` meets its contract: the search by the tree asks for what the rules give.
use borrow.Author.Rules.{rules}
use Rattle.certifying.specs.tree.laws.Search.{safe_by_rules}
use Rattle.certifying.proofs.nearer.first_site_nearer.Statement.{statement}
use Rattle.certifying.proofs.nearer.first_site_nearer.Tie as tie

first_site_nearer_by_tree-requires : tie.Need-first_site_nearer_by_tree-requires
first_site_nearer_by_tree-requires c κs =
    let s = c in
    (safe_by_rules s.requires.0 s.requires.1.pieces s.requires.1.few s.requires.1.sites_kept s.requires.1.rings, s.requires.1.roomy)

pub first_site_nearer_spec : {M : Type 1} → statement M
first_site_nearer_spec =
    tie.close (tie.spec first_site_nearer_by_tree-requires (λ c. search rules) (λ c. search rules))
