-- `octets::get_le` meets its contract: each byte carries `Falling` one further.
use Rattle.std.proofs.Common.{◌+◌, ◌-◌, arith}
use Rattle.octets.specs.laws.Get.{room_for, falling_start, falling_step, falling_end}
use Rattle.octets.proofs.get_le.Goals as goal

pub loop-i-init : goal.loop-i-init
loop-i-init c = falling_start _ _ _ c.requires.1

pub overflow_mul-x : goal.overflow_mul-x
overflow_mul-x c =
    let l = c.loop-i in
    omega (arith, room_for l.x (c.args.n - l.i) (omega (arith, c.loop-i-test.true, c.requires.0)) l.invariant.small)

pub overflow_add-x-in-loop-i : goal.overflow_add-x-in-loop-i
overflow_add-x-in-loop-i c =
    let l = c.loop-i in
    omega (arith, room_for l.x (c.args.n - l.i) (omega (arith, c.loop-i-test.true, c.requires.0)) l.invariant.small, c.type_inv.bytes (c.args.at + (l.i - 1)))

pub loop-i-preserved : goal.loop-i-preserved
loop-i-preserved c = falling_step c.requires.1 c.loop-i.invariant c.loop-i-test.true (omega (arith, c.type_inv.bytes (c.args.at + (c.loop-i.i - 1))))

pub returns : goal.returns
returns c = let both = falling_end c.loop-i.invariant c.loop-i-test.false in record { value = both.0; small = both.1 }
