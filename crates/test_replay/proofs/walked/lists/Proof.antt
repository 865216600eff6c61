-- `test_replay::walked::lists` meets its contract: each list in turn, to the first that differs.
use mathlib.Core.Bool.{not}
use borrow.Author.Rules.{rules}
use mathlib.Core.Path.{ap, refl}
use Rattle.mesh.specs.Accepted.{mesh}
use Rattle.test_replay.specs.laws.Replayed.{lists_read, then_stops, then_next, float_at}
use Rattle.test_replay.proofs.walked.lists.Statement.{statement}
use Rattle.test_replay.proofs.walked.lists.Tie as tie

returns : tie.Need-returns-then-not-walk
returns c =
    let wk = c in
    let l = wk in
    let f = l in
    let a = f.args in
    lists_read (mesh a.sites.now a.triangles.now a.halfedges.now a.hull.now) a.b.now a.built a.offsets.now a.indexes.now
    a.q f.word-site.result _ _ f.after-first.result l.after_list-second.result l.after_list-third.result
    l.after_list-fourth.result _ _ _ f.word-site.ensures refl refl f.after-first.ensures l.after_list-second.ensures
    l.after_list-third.ensures l.after_list-fourth.ensures
    (then_stops _ _ wk.walk.ensures (ap not c.if-not-walk.true))

returns-2 : tie.Need-returns-then-not-neighbours
returns-2 c =
    let nb = c in
    let e = nb in
    let wk = e in
    let l = wk in
    let f = l in
    let a = f.args in
    lists_read (mesh a.sites.now a.triangles.now a.halfedges.now a.hull.now) a.b.now a.built a.offsets.now a.indexes.now
    a.q f.word-site.result _ _ f.after-first.result l.after_list-second.result l.after_list-third.result
    l.after_list-fourth.result _ _ _ f.word-site.ensures refl refl f.after-first.ensures l.after_list-second.ensures
    l.after_list-third.ensures l.after_list-fourth.ensures
    (then_next _ _ wk.walk.ensures (ap not e.if-not-walk.false) (then_stops _ _ nb.neighbours.ensures (ap not c.if-not-neighbours.true)))

returns-3 : tie.Need-returns-then-not-clipped_neighbours
returns-3 c =
    let cl = c in
    let g = cl in
    let nb = g in
    let e = nb in
    let wk = e in
    let l = wk in
    let f = l in
    let a = f.args in
    lists_read (mesh a.sites.now a.triangles.now a.halfedges.now a.hull.now) a.b.now a.built a.offsets.now a.indexes.now
    a.q f.word-site.result _ _ f.after-first.result l.after_list-second.result l.after_list-third.result
    l.after_list-fourth.result _ _ _ f.word-site.ensures refl refl f.after-first.ensures l.after_list-second.ensures
    l.after_list-third.ensures l.after_list-fourth.ensures
    (then_next _ _ wk.walk.ensures (ap not e.if-not-walk.false)
    (then_next _ _ nb.neighbours.ensures (ap not g.if-not-neighbours.false) (then_stops _ _ cl.clipped_neighbours.ensures (ap not c.if-not-clipped_neighbours.true))))

returns-4 : tie.Need-returns
returns-4 c =
    let pt = c in
    let y = pt in
    let x = y in
    let h = x in
    let cl = h in
    let g = cl in
    let nb = g in
    let e = nb in
    let wk = e in
    let l = wk in
    let f = l in
    let a = f.args in
    lists_read (mesh a.sites.now a.triangles.now a.halfedges.now a.hull.now) a.b.now a.built a.offsets.now a.indexes.now
    a.q f.word-site.result x.float-x.result y.float-y.result f.after-first.result l.after_list-second.result l.after_list-third.result
    l.after_list-fourth.result _ _ _ f.word-site.ensures (float_at _ _ _ _ x.after.ensures x.float-x.ensures)
    (float_at _ _ _ _ y.after-2.ensures y.float-y.ensures) f.after-first.ensures l.after_list-second.ensures
    l.after_list-third.ensures l.after_list-fourth.ensures
    (then_next _ _ wk.walk.ensures (ap not e.if-not-walk.false)
    (then_next _ _ nb.neighbours.ensures (ap not g.if-not-neighbours.false)
    (then_next _ _ cl.clipped_neighbours.ensures (ap not h.if-not-clipped_neighbours.false) pt.path.ensures)))

pub lists_spec : {M : Type 1} → statement M
lists_spec =
    tie.close
    (tie.spec (λ c κs. search rules) (λ c κs. search rules) (λ c κs. search rules) (λ c κs. search rules)
    (λ c κs. search rules) (λ c κs. search rules) (λ c. search rules) returns (λ c κs. search rules)
    (λ c. search rules) returns-2 (λ c κs. search rules) (λ c. search rules) returns-3 (λ c κs. search rules)
    (λ c κs. search rules) (λ c κs. search rules) (λ c κs. search rules) (λ c κs. search rules) (λ c. search rules)
    returns-4)
