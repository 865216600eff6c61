-- `clipping::ring::clip_cell` meets its contract: it starts at the first vertex inside, and at the first where none is.
use mathlib.Core.Path.{sym, ap, ◌∙◌}
use native.Mathlib.Omega.{arith}
use Rattle.plane.specs.points.Flat.{points}
use Rattle.definition.specs.Cell.{in_box}
use Rattle.build_laws.specs.laws.Inside.{none_inside}
use Rattle.clipping.specs.RingWalk.{ring_of}
use Rattle.clipping.specs.laws.RingWalk.{length_ring, get_d_ring, cell_from}
use borrow.Author.Tests.{ltb-false}
use borrow.Author.Rules.{rules}
use Rattle.clipping.proofs.ring.clip_cell.Statement.{statement}
use Rattle.clipping.proofs.ring.clip_cell.Tie as tie

abbrev Start : tie.After-first_inside-f → tie.Start
Start c = c.before.before.before

first_inside-requires : tie.Need-first_inside-f-requires
first_inside-requires c κs =
    let m = c.requires.0 in
    let ends = m.ends in
    let list = m.list in
    let held = m.holds.room in
    (omega arith, omega arith, m.below)

start_at-requires : tie.Need-start_at-start-requires
start_at-requires c κs = (Start c).requires.1

clip_from-requires : tie.Need-clip_from-requires
clip_from-requires c κs =
    let at-start-at = c in
    let at-first-inside = at-start-at in
    let a = (Start at-first-inside.before.before.before).args in
    let m = (Start at-first-inside.before.before.before).requires.0 in
    let ends = m.ends in
    let list = m.list in
    let n = length_ring a.indexes.now a.ring a.len (omega arith) in
    let vs = points a.count a.vertices.now in
    let g = at-first-inside.first_inside-f.ensures.0 in (
      m,
      (
        at-start-at.start_at-start.ensures.0,
        λ e j l.
            ap (in_box a.env.bounds a.env.centers vs) (sym (get_d_ring a.indexes.now a.ring a.len j l))
            ∙ none_inside a.env.bounds a.env.centers vs (ring_of a.indexes.now a.ring a.len) (rw (n, ← g) (ltb-false _ _ e)) j (rw n l),
      ),
    )

returns : tie.Need-returns
returns c =
    let at-clip-from = c in
    let at-start-at = at-clip-from in
    let at-first-inside = at-start-at in
    let a = (Start at-first-inside.before.before.before.before.before.before.before.before).args in
    let m = (Start at-first-inside.before.before.before.before.before.before.before.before).requires.0 in
    let ends = m.ends in
    let list = m.list in
    let n = length_ring a.indexes.now a.ring a.len (omega arith) in
    let h = at-start-at.start_at-start.ensures in
    rw (
      cell_from a.env.bounds a.env.centers a.env.site (ring_of a.indexes.now a.ring a.len) (points a.count a.vertices.now)
          a.owners _ at-first-inside.first_inside-f.ensures.0 _ (λ l. h.1 (rw n at l)) (λ l. h.2 (rw n at l)),
      n,
    )
    at-clip-from.clip_from.ensures

pub clip_cell_spec : {M : Type 1} → statement M
clip_cell_spec =
    tie.close
    (tie.spec first_inside-requires start_at-requires clip_from-requires (λ c. search rules) (λ c. search rules) returns)
