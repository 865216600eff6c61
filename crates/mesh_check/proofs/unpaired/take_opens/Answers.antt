-- The three half-edges from below: 3 t ends where 3 t + 1 starts, 3 t + 1 where 3 t + 2 does, 3 t + 2 where 3 t does.
use Rattle.std.proofs.Common.{◌≡◌, ◌∙◌, ◌+◌, ◌*◌, arith}
use Rattle.mesh_check.specs.pairing.laws.Threes.{first_next, second_next, third_next}
use Rattle.mesh_check.proofs.unpaired.take_opens.Goals as goal

pub take_open-requires : goal.take_open-requires
take_open-requires g c = (c.requires.0, c.requires.1, omega arith, omega arith, first_next c.args.t, c.requires.2 _ (omega arith), c.requires.4)

pub take_open-requires-2 : goal.take_open-requires-2
take_open-requires-2 g c =
    let p = c.take_open in
    (c.requires.0, c.requires.1, omega arith, omega arith, second_next c.args.t, rw p.auto.work (c.requires.2 _ (omega arith)), p.ensures)

pub take_open-requires-3 : goal.take_open-requires-3
take_open-requires-3 g c =
    let p = c.take_open-2 in
    let t = c.args.t in
    let q : 3 * t + 1 + 1 ≡ 3 * t + 2 = omega arith in
    (c.requires.0, c.requires.1, omega arith, omega arith, third_next t, rw (p.auto.work ∙ c.take_open.auto.work) (c.requires.2 _ (omega arith)), rw q at p.ensures)

pub returns : goal.returns
returns g c =
    let t = c.args.t in
    let q : 3 * t + 2 + 1 ≡ 3 * t + 3 = omega arith in
    rw q at c.take_open-3.ensures
