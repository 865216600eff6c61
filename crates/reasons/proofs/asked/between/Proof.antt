-- Not a neighbour, still one, or dropped: then fewer than two entries are shared.
use mathlib.Core.Bool.{not}
use mathlib.Core.Path.{ap}
use lib.ListN.{get_or}
use borrow.Author.Rules.{rules}
use Rattle.mesh.specs.laws.Facts.{paired}
use Rattle.reasons.specs.laws.Answer.{not_true, not_false, can_clip, has_cell, no_neighbour_lem, still_neighbour, few_shared, dropped_answer_lem}
use Rattle.reasons.proofs.asked.between.Statement.{statement}
use Rattle.reasons.proofs.asked.between.Tie as tie

abbrev Wide : tie.After-is_neighbour → tie.After-wide
Wide c = c.before.before

abbrev Begin : tie.After-is_neighbour → tie.Start
Begin c = c.before.before.before.before.before.before.before.before

is_neighbour-requires : tie.Need-is_neighbour-requires
is_neighbour-requires c κs =
    let p = c.requires.0 in
    (paired p.mesh, p.mesh.same)

returns : tie.Need-returns-then-not-is_neighbour
returns c =
    let n = c in
    let a = (Begin n.before).args in
    no_neighbour_lem a.triangles.now a.halfedges.now a.table.now a.offsets.now a.indexes.now a.s a.t
    (ap (λ k. get_or a.table.now k 0) (Wide n.before).wide.ensures) n.is_neighbour.ensures (not_true _ (ap not c.if-not-is_neighbour.true))

stays_neighbour-requires : tie.Need-stays_neighbour-requires
stays_neighbour-requires c κs =
    let p = (Begin c.before).requires in
    (can_clip p.0, has_cell p.0 p.1.0)

returns-2 : tie.Need-returns-then-stays_neighbour
returns-2 c =
    let at = c in
    let e = at in
    let n = e in
    let a = (Begin n.before.before.before).args in
    still_neighbour a.triangles.now a.halfedges.now a.table.now a.offsets.now a.indexes.now a.s a.t
    (ap (λ k. get_or a.table.now k 0) (Wide n.before.before.before).wide.ensures) n.is_neighbour.ensures (not_false _ (ap not e.if-not-is_neighbour.false)) at.stays_neighbour.ensures c.if-stays_neighbour.true

count_shared-requires : tie.Need-count_shared-requires
count_shared-requires c κs =
    let at = c in
    let e = at in
    let n = e in
    let a = (Begin n.before.before.before).args in
    let p = (Begin n.before.before.before).requires in (
      p.0.cut,
      has_cell p.0 p.1.0,
      has_cell p.0 p.1.1,
      few_shared a.triangles.now a.halfedges.now a.table.now a.offsets.now a.indexes.now a.s a.t
          (ap (λ k. get_or a.table.now k 0) (Wide n.before.before.before).wide.ensures) n.is_neighbour.ensures (not_false _ (ap not e.if-not-is_neighbour.false)) at.stays_neighbour.ensures c.if-stays_neighbour.false,
    )

returns-3 : tie.Need-returns
returns-3 c =
    let at = c in
    let e = at in
    let n = e in
    let a = (Begin n.before.before.before.before).args in
    dropped_answer_lem a.triangles.now a.halfedges.now a.table.now a.offsets.now a.indexes.now a.s a.t
    (ap (λ k. get_or a.table.now k 0) (Wide n.before.before.before.before).wide.ensures) n.is_neighbour.ensures (not_false _ (ap not e.if-not-is_neighbour.false)) at.stays_neighbour.ensures c.if-stays_neighbour.false
    c.count_shared.ensures

pub between_spec : {M : Type 1} → statement M
between_spec =
    tie.close
    (tie.spec (λ c κs. search rules) (λ c. search rules) (λ c. search rules) is_neighbour-requires returns
    stays_neighbour-requires returns-2 count_shared-requires returns-3)
