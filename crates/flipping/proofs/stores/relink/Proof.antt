-- Four stores are `crossed`, and each outer pair is named after them.
use mathlib.Core.Path.{ap, ◌∙◌}
use lib.ListN.{get_or, length-set}
use borrow.Author.Rules.{rules}
use Rattle.flipping.specs.Flip.{naming}
use Rattle.flipping.specs.laws.Pairs.{crossed_length}
use Rattle.flipping.proofs.stores.relink.Statement.{statement}
use Rattle.flipping.proofs.stores.relink.Tie as tie

abbrev Start : tie.After-name_back → tie.Start
Start c = c.before.before.before.before.before

name_back-requires : tie.Need-name_back-requires
name_back-requires c κs = λ n. rw (length-set, length-set, length-set, length-set) (c.requires.outer_l n)

name_back-requires-2 : tie.Need-name_back-requires-2
name_back-requires-2 c κs = λ n. rw (c.name_back.auto.halfedges, length-set, length-set, length-set, length-set) ((Start c.before.before.before).requires.outer_r n)

same_length : tie.Need-shape_of-halfedges
same_length c =
    let at-name-back = c in
    c.name_back-2.auto.halfedges ∙ at-name-back.name_back.auto.halfedges
    ∙ crossed_length (Start at-name-back.before.before.before.before.before.before).args.halfedges.now (Start at-name-back.before.before.before.before.before.before).args.a (Start at-name-back.before.before.before.before.before.before).args.b (Start at-name-back.before.before.before.before.before.before).args.r (Start at-name-back.before.before.before.before.before.before).args.l

returns : tie.Need-returns
returns c =
    let at-name-back = c in
    c.name_back-2.ensures ∙ ap (λ h. naming h (get_or (Start at-name-back.before.before.before.before.before.before).args.halfedges.now (Start at-name-back.before.before.before.before.before.before).args.r 0) (Start at-name-back.before.before.before.before.before.before).args.b)
    at-name-back.name_back.ensures

pub relink_spec : {M : Type 1} → statement M
relink_spec =
    tie.close
    (tie.spec (λ c. search rules) (λ c. search rules) (λ c. search rules) (λ c. search rules) (λ c. search rules)
    (λ c. search rules) (λ c. search rules) (λ c. search rules) (λ c. search rules) (λ c. search rules) (λ c. search rules)
    (λ c. search rules) (λ c. search rules) (λ c. search rules) (λ c. search rules) name_back-requires (λ c. search rules)
    name_back-requires-2 same_length returns)
