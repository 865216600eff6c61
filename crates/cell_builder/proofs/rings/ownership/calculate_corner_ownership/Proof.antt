-- `cell_builder::rings::ownership::calculate_corner_ownership` meets its contract: four paths, each begun where the one before ended.
use native.Mathlib.Omega.{arith}
use Rattle.cell_builder.specs.rings.laws.Ownership.{four_owners}
use borrow.Author.Rules.{rules}
use Rattle.cell_builder.proofs.rings.ownership.calculate_corner_ownership.Statement.{statement}
use Rattle.cell_builder.proofs.rings.ownership.calculate_corner_ownership.Tie as tie

abbrev Start : tie.After-corners-c → tie.Start
Start c = c.before.before.before.before.before

path_end-requires : tie.Need-path_end-o0-requires
path_end-requires c κs =
    let at_start = Start c.before in
    (at_start.requires.ready, rw c.corners-c.ensures (at_start.requires.towards 0 (omega arith)), at_start.requires.begun)

path_end-requires-2 : tie.Need-path_end-o1-requires
path_end-requires-2 c κs =
    let at-corners = c in
    ((Start at-corners.before.before.before).requires.ready, rw at-corners.corners-c.ensures ((Start at-corners.before.before.before).requires.towards 1 (omega arith)), c.path_end-o0.ensures.below)

path_end-requires-3 : tie.Need-path_end-o2-requires
path_end-requires-3 c κs =
    let at-corners = c in
    ((Start at-corners.before.before.before.before.before).requires.ready, rw at-corners.corners-c.ensures ((Start at-corners.before.before.before.before.before).requires.towards 2 (omega arith)), c.path_end-o1.ensures.below)

path_end-requires-4 : tie.Need-path_end-o3-requires
path_end-requires-4 c κs =
    let at-corners = c in
    ((Start at-corners.before.before.before.before.before.before.before).requires.ready, rw at-corners.corners-c.ensures ((Start at-corners.before.before.before.before.before.before.before).requires.towards 3 (omega arith)), c.path_end-o2.ensures.below)

returns : tie.Need-returns
returns c =
    let at-path-end2 = c in
    let q = at-path-end2.corners-c.ensures in
    four_owners _ _ _ _ _ _ _ _ _ _ _ (rw q at at-path-end2.path_end-o0.ensures.end)
    (rw q at at-path-end2.path_end-o1.ensures.end) (rw q at c.path_end-o2.ensures.end) (rw q at c.path_end-o3.ensures.end)

pub calculate_corner_ownership_spec : {M : Type 1} → statement M
calculate_corner_ownership_spec =
    tie.close
    (tie.spec (λ c κs. search rules) (λ c. search rules) path_end-requires (λ c. search rules) path_end-requires-2
    (λ c. search rules) path_end-requires-3 (λ c. search rules) path_end-requires-4 returns)
