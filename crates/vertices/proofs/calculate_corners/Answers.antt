-- `vertices::calculate_corners` meets its contract: each turn appends one corner.
use Rattle.std.proofs.Common.{◌≡◌, length, arith}
use Rattle.vertices.specs.laws.Store.{corner_none, corner_more, corner_all}
use Rattle.vertices.proofs.calculate_corners.Goals as goal

pub loop-k-init : goal.loop-k-init
loop-k-init c = let a = c.args in corner_none a.centers a.limit a.vertices.now _ a.corners (omega (arith, c.requires)) c.empty.ensures

pub append-requires-clause-holds : goal.append-requires-clause-holds
append-requires-clause-holds c = c.loop-k.invariant.holds

pub loop-k-preserved : goal.loop-k-preserved
loop-k-preserved c =
    let a = c.args in
    let four : length a.corners ≡ 4 = omega arith in
    corner_more a.centers a.limit a.vertices.now _ a.corners c.loop-k.k _ c.loop-k.invariant (omega (arith, c.loop-k-test.true)) (omega (arith, c.requires, c.loop-k-test.true))
    c.append.ensures

pub returns-clause-slices : goal.returns-clause-slices
returns-clause-slices c =
    let a = c.args in
    let four : length a.corners ≡ 4 = omega arith in
    corner_all a.centers a.limit a.vertices.now _ a.corners c.loop-k.k c.empty.ensures c.loop-k.invariant (omega arith) four
