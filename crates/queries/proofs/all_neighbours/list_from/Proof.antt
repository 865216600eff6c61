-- `queries::all_neighbours::list_from` meets its contract: all neighbours where no cells are lent, else those after clipping.
use mathlib.Core.Path.{sym, ◌∙◌}
use borrow.Author.Rules.{rules}
use Rattle.queries.specs.all_neighbours.laws.Writes.{plain_list, clipped_list}
use Rattle.queries.proofs.all_neighbours.list_from.Statement.{statement}
use Rattle.queries.proofs.all_neighbours.list_from.Tie as tie

returns : tie.Need-returns-then-nothing_lent
returns c =
    let f = c in
    let t = f in
    plain_list _ _ _ _ _ _ (sym t.before.nothing_lent.ensures ∙ t.if-nothing_lent.true) f.neighbours.ensures

clipped_neighbours-requires : tie.Need-clipped_neighbours-requires
clipped_neighbours-requires c κs =
    let t = c in
    let at_start = t in
    let q = sym t.before.nothing_lent.ensures ∙ t.if-nothing_lent.false in
    (at_start.requires.clippable q, at_start.requires.cell q)

returns-2 : tie.Need-returns
returns-2 c =
    let f = c in
    let t = f in
    clipped_list _ _ _ _ _ _ (sym t.before.nothing_lent.ensures ∙ t.if-nothing_lent.false) f.clipped_neighbours.ensures

pub list_from_spec : {M : Type 1} → statement M
list_from_spec =
    tie.close
    (tie.spec (λ c κs. search rules) (λ c κs. search rules) (λ c. search rules) returns clipped_neighbours-requires (λ c. search rules) returns-2)
