-- `clipping::corners::insert_sides` meets its contract: the first vertex goes in before the rest exactly where it is not the last entry.
use native.Mathlib.Omega.{arith}
use Rattle.definition.specs.Cell.{crossing}
use Rattle.clipping.specs.corners.laws.CornerWrap.{led_yes, led_not}
use borrow.Author.Rules.{rules}
use Rattle.clipping.proofs.corners.insert_sides.Statement.{statement}
use Rattle.clipping.proofs.corners.insert_sides.Tie as tie

returns : tie.Need-returns-then-cell-first
returns c =
    let at-then1 = c in
    let a = at-then1.args in
    let w = c.around_corners in
    (led_yes a.centers a.site a.f a.s a.first a.second a.cell _ a.indexes.now _ at-then1.if-cell-first.true w.ensures.0, w.ensures.1)

around_corners-requires-2 : tie.Need-around_corners-requires-2
around_corners-requires-2 c κs =
    let p = c.push-p in
    let q = p.ensures.0 crossing in
    let k = p.auto in
    (record { four = q.four; real = omega arith; room = omega arith }, omega arith)

returns-2 : tie.Need-returns
returns-2 c =
    let at_push = c in
    let a = at_push.args in
    let p = at_push.push-p in
    let w = c.around_corners-2 in (
      led_not a.centers a.site a.f a.s a.first a.second a.cell _ _ a.indexes.now _ _ at_push.if-cell-first.false (p.ensures.0 crossing) w.ensures.0,
      w.ensures.1,
    )

pub insert_sides_spec : {M : Type 1} → statement M
insert_sides_spec =
    tie.close
    (tie.spec (λ c κs. search rules) (λ c. search rules) returns (λ c κs. search rules) around_corners-requires-2
    (λ c. search rules) returns-2)
