-- `clipping::step::link` meets its contract: an open cell gets the edge from its last entry, any other nothing.
use native.Mathlib.Omega.{arith}
use Rattle.plane.specs.points.Flat.{points}
use Rattle.clipping.specs.laws.EdgeOutcome.{link_opened, link_closed}
use borrow.Author.Rules.{rules}
use Rattle.clipping.proofs.step.link.Statement.{statement}
use Rattle.clipping.proofs.step.link.Tie as tie

insert_edge-requires : tie.Need-insert_edge-requires
insert_edge-requires c κs =
    let s = c in
    let o = c.if-opened.true in
    let h = s.requires.1.0.2 o in
    (record { four = omega arith; real = omega arith; room = omega arith }, (omega arith, (s.requires.1.1.0 o, s.requires.1.1.1)))

returns : tie.Need-returns-then-opened
returns c =
    let at_start = c in
    let a = at_start.args in
    let g = c.insert_edge in
    link_opened a.env.bounds a.env.centers a.env.site (points a.count a.vertices.now) a.cell a.indexes.now a.first a.opened
    g.result _ c.if-opened.true g.ensures.0

returns-2 : tie.Need-returns
returns-2 c =
    let a = c.args in
    link_closed a.env.bounds a.env.centers a.env.site (points a.count a.vertices.now) a.cell a.indexes.now a.first a.opened
    c.if-opened.false c.requires.0.four

pub link_spec : {M : Type 1} → statement M
link_spec = tie.close (tie.spec insert_edge-requires (λ c. search rules) returns returns-2)
