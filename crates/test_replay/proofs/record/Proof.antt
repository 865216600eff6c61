-- `test_replay::record` meets its contract: four lengths, each within its limit.
use borrow.Author.Rules.{rules}
use Rattle.test_replay.specs.laws.Tallied.{long_sites, long_triangles, long_halfedges, long_hull, within}
use Rattle.test_replay.proofs.record.Statement.{statement}
use Rattle.test_replay.proofs.record.Tie as tie

returns : tie.Need-returns-then-s-gt128
returns c =
    let i = c in
    long_sites i.args.b.now _ _ _ _ i.index-s.ensures.0
    i.index-t.ensures.0 i.index-e.ensures.0 i.index-h.ensures.0 c.if-s-gt128.true

returns-2 : tie.Need-returns-then-t-gt128
returns-2 c =
    let e = c in
    let i = e in
    long_triangles i.args.b.now _ _ _ _ i.index-s.ensures.0
    i.index-t.ensures.0 i.index-e.ensures.0 i.index-h.ensures.0 e.if-s-gt128.false c.if-t-gt128.true

returns-3 : tie.Need-returns-then-e-gt128
returns-3 c =
    let f = c in
    let e = f in
    let i = e in
    long_halfedges i.args.b.now _ _ _ _ i.index-s.ensures.0
    i.index-t.ensures.0 i.index-e.ensures.0 i.index-h.ensures.0 e.if-s-gt128.false f.if-t-gt128.false c.if-e-gt128.true

returns-4 : tie.Need-returns-then-h-gt64
returns-4 c =
    let g = c in
    let f = g in
    let e = f in
    let i = e in
    long_hull i.args.b.now _ _ _ _ i.index-s.ensures.0
    i.index-t.ensures.0 i.index-e.ensures.0 i.index-h.ensures.0 e.if-s-gt128.false f.if-t-gt128.false g.if-e-gt128.false
    c.if-h-gt64.true

returns-5 : tie.Need-returns
returns-5 c =
    let h = c in
    let g = h in
    let f = g in
    let e = f in
    let i = e in
    within i.args.b.now _ _ _ _ i.index-s.ensures.0
    i.index-t.ensures.0 i.index-e.ensures.0 i.index-h.ensures.0 e.if-s-gt128.false f.if-t-gt128.false g.if-e-gt128.false
    h.if-h-gt64.false c.sized.ensures

pub record_spec : {M : Type 1} → statement M
record_spec =
    tie.close
    (tie.spec (λ c κs. search rules) (λ c κs. search rules) (λ c κs. search rules) (λ c κs. search rules) returns returns-2
    returns-3 returns-4 (λ c κs. search rules) returns-5)
