-- `cell_builder::start::extend` meets its contract: the pass over the hull begins with the circumcenters and the corners, and its outcome is the definition's.
use native.Mathlib.Omega.{arith}
use borrow.Author.Rules.{rules}
use Rattle.cell_builder.specs.laws.FirstCells.{extends_into, extended_all, extended_not}
use Rattle.cell_builder.proofs.start.extend.Statement.{statement}
use Rattle.cell_builder.proofs.start.extend.Tie as tie

abbrev Cornered : tie.After-indexes-1 → tie.After-calculate_corners-count
Cornered i = i.before.before.before

abbrev Entry : tie.After-indexes-1 → tie.Start
Entry i = i.before.before.before.before.before.before.before.before.before.before.before.before.before.before

extend_hull-requires : tie.Need-extend_hull-passed-requires
extend_hull-requires c κs =
    let i = c in
    let k = Cornered i.before.before.before.before in
    extends_into (Entry i.before.before.before.before).requires k.corners.ensures k.calculate_corners-count.ensures.0 k.calculate_corners-count.ensures.1 i.vertices-1.given i.indexes-1.given

cast-t25 : tie.Need-overflow_cast-result
cast-t25 c =
    let x = c in
    omega (arith, c.if-passed-hull.true, (Entry x.before.before.before.before.before.before.before.before.before.before.before.before).requires.small)

returns : tie.Need-returns-then-passed-hull
returns c =
    let x = c in
    let i = x in
    let k = Cornered i.before.before.before.before.before.before.before.before.before.before.before.before in
    extended_not (Entry i.before.before.before.before.before.before.before.before.before.before.before.before).requires k.corners.ensures k.calculate_corners-count.ensures.0 k.calculate_corners-count.ensures.1
    i.vertices-1.given i.indexes-1.given _ _ _ _ x.extend_hull-passed.ensures c.if-passed-hull.true

returns-2 : tie.Need-returns
returns-2 c =
    let x = c in
    let i = x in
    let k = Cornered i.before.before.before.before.before.before.before.before.before.before.before in
    extended_all (Entry i.before.before.before.before.before.before.before.before.before.before.before).requires k.corners.ensures k.calculate_corners-count.ensures.0 k.calculate_corners-count.ensures.1
    i.vertices-1.given i.indexes-1.given _ _ _ _ x.extend_hull-passed.ensures c.if-passed-hull.false

pub extend_spec : {M : Type 1} → statement M
extend_spec =
    tie.close
    (tie.spec (λ c κs. search rules) (λ c κs. search rules) (λ c. search rules) extend_hull-requires cast-t25
    (λ c. search rules) (λ c. search rules) returns (λ c. search rules) (λ c. search rules) returns-2)
