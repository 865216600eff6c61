-- `certifying::tree::plant` meets its contract.
use mathlib.Core.Path.{◌∙◌}
use Rattle.certifying.specs.tree.laws.Nodes.{first_safe, second_safe, third_safe, level_at, tree_of}
use native.Mathlib.Omega.{arith}
use Rattle.certifying.proofs.tree.plant.Statement.{statement}
use Rattle.certifying.proofs.tree.plant.Tie as tie

abbrev Start : tie.After-arrange → tie.Start
Start c = c.before.before.before.before

abbrev Arrange : tie.After-fill-arg-2-1 → tie.After-arrange
Arrange c = c.before.before.before.before.before.before.before

arrange-requires : tie.Need-arrange-requires
arrange-requires c κs =
    let s = c in
    (s.requires.0, s.requires.1, omega (arith, s.requires.2))

fill-requires : tie.Need-fill-requires
fill-requires c κs =
    let at-arrange = c in
    first_safe (Start at-arrange.before.before.before).args.room.now (Start at-arrange.before.before.before).requires.0 (Start at-arrange.before.before.before).requires.1 (Start at-arrange.before.before.before).requires.2 at-arrange.arrange.ensures.0
    at-arrange.arrange.ensures.1

base_256-requires : tie.Need-base_256-requires
base_256-requires c κs = (Start (Arrange c)).requires.1

fill-requires-2 : tie.Need-fill-requires-2
fill-requires-2 c κs =
    let at-arrange = Arrange c.before in
    second_safe (Start at-arrange).args.room.now (Start at-arrange).requires.0 (Start at-arrange).requires.1 (Start at-arrange).requires.2 at-arrange.arrange.ensures.0
    at-arrange.arrange.ensures.1 c.fill.ensures c.base_256.ensures

base_4096-requires : tie.Need-base_4096-requires
base_4096-requires c κs = (Start (Arrange c.before.before.before.before.before)).requires.1

fill-requires-3 : tie.Need-fill-requires-3
fill-requires-3 c κs =
    let at-fill2 = c in
    let at-arrange = Arrange at-fill2.before.before.before.before.before.before in
    third_safe (Start at-arrange).args.room.now (Start at-arrange).requires.0 (Start at-arrange).requires.1 (Start at-arrange).requires.2 at-arrange.arrange.ensures.0
    at-arrange.arrange.ensures.1 at-fill2.fill.ensures
    at-fill2.base_256.ensures at-fill2.fill-2.ensures c.base_4096.ensures

same_length : tie.Need-shape_of-room
same_length c =
    let at-fill2 = c in
    c.fill-3.ensures.kept.same ∙ at-fill2.fill-2.ensures.kept.same ∙ at-fill2.fill.ensures.kept.same
    ∙ (Arrange at-fill2.before.before.before.before.before.before.before.before.before).arrange.ensures.1

returns : tie.Need-returns
returns c =
    let at-fill3 = c in
    let at-fill2 = at-fill3 in
    let at_fill_lem = at-fill2 in
    let at-arrange = Arrange at-fill2.before.before.before.before.before.before.before.before.before in (
      tree_of (Start at-arrange).requires.1 at-arrange.arrange.ensures.0 at_fill_lem.fill.ensures (level_at at-fill2.base_256.ensures at-fill2.fill-2.ensures)
          (level_at at-fill3.base_4096.ensures at-fill3.fill-3.ensures),
      at-fill3.fill-3.ensures.kept.same ∙ at-fill2.fill-2.ensures.kept.same ∙ at_fill_lem.fill.ensures.kept.same ∙ at-arrange.arrange.ensures.1,
    )

pub plant_spec : {M : Type 1} → statement M
plant_spec =
    tie.close (tie.spec arrange-requires fill-requires base_256-requires fill-requires-2 base_4096-requires
    fill-requires-3 same_length returns)
