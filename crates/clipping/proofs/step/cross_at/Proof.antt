-- `clipping::step::cross_at` meets its contract: the leading edge, then the edge between the crossings.
use native.Mathlib.Omega.{arith}
use lib.Dec.{eqb}
use Rattle.plane.specs.points.Flat.{points}
use Rattle.definition.specs.Cell.{cross_at}
use Rattle.definition.specs.Short.{link}
use Rattle.clipping.specs.laws.EdgeOutcome.{alters_cross}
use borrow.Author.Rules.{rules}
use Rattle.clipping.proofs.step.cross_at.Statement.{statement}
use Rattle.clipping.proofs.step.cross_at.Tie as tie

insert_edge-requires : tie.Need-insert_edge-done-requires
insert_edge-requires c κs =
    let at-link = c in
    let s = at-link in
    let g = at-link.link-led in
    let k = g.auto in
    let h = g.ensures.fit in
    (record { four = g.ensures.four; real = omega arith; room = omega arith }, (omega arith, (s.requires.1.1.1, s.requires.1.1.2)))

returns : tie.Need-returns
unfolding cross_at
returns c =
    let at-link = c in
    let a = at-link.args in
    let g = at-link.link-led in
    let i = c.insert_edge-done in
    let vs = points a.count a.vertices.now in
    λ ts u. alters_cross a.env.site a.count vs a.cell a.indexes.now g.result _ a.env.bounds a.env.centers a.first a.second
    a.opened (eqb g.result.last a.first) ts a.reused u i.result _
    (link a.env.bounds a.env.centers a.env.site vs a.cell.owners a.opened a.cell.last a.first)
    g.ensures i.ensures.0 i.ensures.1

pub cross_at_spec : {M : Type 1} → statement M
cross_at_spec = tie.close (tie.spec (λ c κs. search rules) insert_edge-requires (λ c. search rules) returns)
