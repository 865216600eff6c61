-- The tables are brought up to date by the mesh as it was, then triangles and half-edges are stored.
use borrow.Author.Rules.{rules}
use Rattle.flipping.specs.stores.laws.Changes.{ready_at, changed}
use Rattle.flipping.proofs.stores.change.Statement.{statement}
use Rattle.flipping.proofs.stores.change.Tie as tie

abbrev Start : tie.After-before-l → tie.Start
Start c = c.before.before.before.before.before.before.before.before

abbrev Before3 : tie.After-turn_sites-arg-1 → tie.After-before-l
Before3 c = c.before.before.before.before.before.before.before.before

flip_tables-requires : tie.Need-flip_tables-requires
flip_tables-requires c κs =
    let at_l = c in
    ready_at _ _ _ _ _ _ _ _ at_l.wide-b.ensures at_l.before-r.ensures at_l.before-l.ensures (Start at_l.before.before).requires.1

turn_sites-requires : tie.Need-turn_sites-requires
turn_sites-requires c κs =
    let g = ready_at _ _ _ _ _ _ _ _ (Before3 c).wide-b.ensures (Before3 c).before-r.ensures (Before3 c).before-l.ensures (Start (Before3 c)).requires.1 in
    (rw (← g.same) g.linked.a_in, rw (← g.same) g.linked.b_in, rw (← g.same) g.linked.r_in, rw (← g.same) g.linked.l_in)

relink-requires : tie.Need-relink-requires
relink-requires c κs =
    let at_l = Before3 c.before.before.before.before in
    (ready_at _ _ (Start at_l).args.table.now (Start at_l).args.work.now _ _ _ _ at_l.wide-b.ensures at_l.before-r.ensures
    at_l.before-l.ensures (Start at_l).requires.1).linked

returns : tie.Need-returns
returns c =
    let at-turn-sites = c in
    changed _ _ _ _ _ _ _ _ (Before3 at-turn-sites.before.before.before.before.before.before.before).wide-b.ensures (Before3 at-turn-sites.before.before.before.before.before.before.before).before-r.ensures
    (Before3 at-turn-sites.before.before.before.before.before.before.before).before-l.ensures _ _ _ _
    at-turn-sites.turn_sites.ensures c.relink.ensures at-turn-sites.flip_tables.ensures.0
    at-turn-sites.flip_tables.ensures.1

pub change_spec : {M : Type 1} → statement M
change_spec =
    tie.close
    (tie.spec (λ c. search rules) (λ c. search rules) (λ c κs. search rules) (λ c κs. search rules) (λ c κs. search rules)
    flip_tables-requires turn_sites-requires relink-requires (λ c. search rules) (λ c. search rules) (λ c. search rules)
    (λ c. search rules) returns)
