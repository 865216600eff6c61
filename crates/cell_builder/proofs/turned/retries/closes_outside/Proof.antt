-- `cell_builder::turned::retries::closes_outside` meets its contract: it asks of the site, then of the edge between the first and the last triangle of the walk.
use mathlib.Core.Bool.{not}
use mathlib.Core.Path.{ap, sym}
use borrow.Author.Rules.{rules}
use Rattle.base.specs.common.laws.Decide.{refused, granted}
use Rattle.plane.specs.points.Flat.{points}
use Rattle.walks.specs.neighbours.laws.Rest.{settled_start}
use Rattle.cell_builder.specs.turned.Turns.{HullBlank}
use Rattle.cell_builder.specs.turned.laws.Retrying.{blank_at, retry_says}
use Rattle.cell_builder.proofs.turned.retries.closes_outside.Statement.{statement}
use Rattle.cell_builder.proofs.turned.retries.closes_outside.Tie as tie

abbrev Entry : tie.After-hull_blank → tie.Start
Entry c = c.before.before.before.before.before.before.before.before

-- what is told of the site
abbrev Site : tie.After-hull_blank → Type 0
Site c = let a = (Entry c).args in HullBlank a.halfedges.now a.table.now a.indexes.now a.offsets.now c.end_site-site.result

hull_blank-requires : tie.Need-hull_blank-requires
hull_blank-requires c κs =
    let p = c.requires in
    rw c.end_site-site.ensures (p.entry.0, p.entry.1, p.starts, p.place)

returns : tie.Need-returns-then-not-hull_blank
returns c =
    let b = c in
    λ r. refused {P = Site b.before} b.hull_blank.result (ap not c.if-not-hull_blank.true) b.hull_blank.ensures (blank_at _ _ _ _ (sym b.end_site-site.ensures) r.site)

walk_end-requires : tie.Need-walk_end-last-requires
walk_end-requires c κs =
    let s = Entry c.before in
    (s.requires.paired.threes, rw s.requires.same s.requires.in_mesh, settled_start _ _ s.requires.paired _)

returns-2 : tie.Need-returns
returns-2 c =
    let e = c in
    let b = e in
    let a = (Entry b.before.before.before).args in
    retry_says a.triangles.now a.halfedges.now a.table.now a.indexes.now a.offsets.now a.bounds (points a.count a.vertices.now) a.e
    c.walk_end-last.result c.walk_end-last.ensures.0
    (blank_at _ _ _ _ b.end_site-site.ensures (granted {P = Site b.before.before.before} b.hull_blank.result (ap not e.if-not-hull_blank.false) b.hull_blank.ensures))
    c.misses.result c.misses.ensures

pub closes_outside_spec : {M : Type 1} → statement M
closes_outside_spec =
    tie.close
    (tie.spec (λ c κs. search rules) hull_blank-requires returns (λ c. search rules) walk_end-requires (λ c. search rules) (λ c. search rules)
    (λ c κs. search rules) returns-2)
