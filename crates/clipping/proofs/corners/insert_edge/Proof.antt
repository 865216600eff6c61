-- `clipping::corners::insert_edge` meets its contract: it asks for the two sides, which there are, and inserts by them.
use native.Mathlib.Omega.{arith}
use Rattle.plane.specs.points.Flat.{points}
use Rattle.clipping.specs.corners.laws.CornerWrap.{insert_on}
use borrow.Author.Rules.{rules}
use Rattle.clipping.proofs.corners.insert_edge.Statement.{statement}
use Rattle.clipping.proofs.corners.insert_edge.Tie as tie

insert_sides-requires : tie.Need-insert_sides-requires
insert_sides-requires c κs =
    let two = c in
    let s = two in
    (s.requires.0, (omega (arith, two.side_of-f.ensures, s.requires.1.1.0), omega (arith, two.side_of-s.ensures, s.requires.1.1.1), omega arith))

returns : tie.Need-returns
returns c =
    let two = c in
    let s = two in
    let a = s.args in
    let w = c.insert_sides.ensures in
    let vs = points a.count a.vertices.now in (
      rw (insert_on a.bounds a.centers a.site vs a.cell.owners a.cell.last a.first a.second _ _ two.side_of-f.ensures two.side_of-s.ensures) w.0,
      w.1 a.count (omega arith) (omega arith),
    )

pub insert_edge_spec : {M : Type 1} → statement M
insert_edge_spec = tie.close (tie.spec (λ c κs. search rules) (λ c κs. search rules) insert_sides-requires (λ c. search rules) returns)
