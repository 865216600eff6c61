-- `certifying::tree::split` meets its contract: exchanges alone.
use Prim.Native.Nat.{◌-◌, ◌/◌, ◌≤◌}
use lib.ListN.{length}
use Rattle.certifying.specs.tree.Steps.{Reordered}
use Rattle.certifying.specs.tree.laws.Orders.{reorder_none, reorder_swap}
use native.Mathlib.Omega.{arith}
use Rattle.certifying.proofs.tree.split.Statement.{statement}
use Rattle.certifying.proofs.tree.split.Tie as tie

abbrev invariant-loop : tie.invariant-loop-i
invariant-loop sites room₀ from to axis pivot i₀ j₀ room i j = Reordered (length sites / 2) room₀ room × (from ≤ i) × (i ≤ j) × (j ≤ to)

abbrev decreases-loop : tie.decreases-loop-i
decreases-loop sites room₀ from to axis pivot i₀ j₀ room i j = j - i

abbrev InLoop : tie.After-key-in-loop-i invariant-loop decreases-loop → tie.In-loop-i invariant-loop decreases-loop
InLoop c = c.before.before.before

loop-holds : tie.Need-loop-i-init invariant-loop decreases-loop
loop-holds c = (reorder_none c.requires.0, omega arith, c.requires.1, omega arith)

-- in a turn: the places up to j are sites'
within : (c : tie.In-loop-i invariant-loop decreases-loop) → c.loop-i.j ≤ length c.args.sites.now / 2
within c = omega (arith, c.loop-i.invariant.3, c.requires.2)

key-requires : tie.Need-key-requires invariant-loop decreases-loop
key-requires c κs = (c.loop-i.invariant.0.order, omega (arith, c.loop-i-test.true, within c), c.requires.3)

add-i : tie.Need-overflow_add-i invariant-loop decreases-loop
add-i c = omega (arith, c.loop-i-test.true, within c.before.before)

loop-less : tie.Need-loop-i-smaller-then-key-pivot invariant-loop decreases-loop
loop-less c = omega (arith, c.loop-i-test.true)

loop-again : tie.Need-loop-i-preserved-then-key-pivot invariant-loop decreases-loop
loop-again c =
    let t = c in
    (t.loop-i.invariant.0, omega (arith, t.loop-i.invariant.1), omega (arith, t.loop-i-test.true), t.loop-i.invariant.3)

sub-j : tie.Need-overflow_sub-j invariant-loop decreases-loop
sub-j c = omega (arith, c.loop-i-test.true)

key-requires-2 : tie.Need-key-requires-in-loop-i invariant-loop decreases-loop
key-requires-2 c κs =
    let t = c in
    (t.loop-i.invariant.0.order, omega (arith, t.loop-i-test.true, within t.before.before), t.requires.3)

loop-less-2 : tie.Need-loop-i-smaller-then-pivot-key invariant-loop decreases-loop
loop-less-2 c = omega (arith, (InLoop c.before).loop-i-test.true)

loop-again-2 : tie.Need-loop-i-preserved-then-pivot-key invariant-loop decreases-loop
loop-again-2 c =
    let t = InLoop c.before in
    (t.loop-i.invariant.0, t.loop-i.invariant.1, omega (arith, t.loop-i-test.true), omega (arith, t.loop-i.invariant.3))

swap-requires : tie.Need-swap-requires invariant-loop decreases-loop
swap-requires c κs =
    let t = InLoop c.before.before in
    let long = t.loop-i.invariant.0.order.long in
    (omega (arith, t.loop-i-test.true, within t, long), omega (arith, t.loop-i-test.true, within t, long))

onward-requires : tie.Need-onward-i-requires invariant-loop decreases-loop
onward-requires c κs = omega (arith, (InLoop c.before.before.before.before.before).loop-i-test.true)

loop-less-3 : tie.Need-loop-i-smaller invariant-loop decreases-loop
loop-less-3 c = omega (arith, (InLoop c.before.before.before.before.before.before).loop-i-test.true, c.onward-i.ensures.0, c.onward-i.ensures.1)

loop-again-3 : tie.Need-loop-i-preserved invariant-loop decreases-loop
loop-again-3 c =
    let t = InLoop c.before.before.before.before.before.before in (
      reorder_swap t.loop-i.invariant.0 (omega (arith, t.loop-i-test.true, within t)) (omega (arith, t.loop-i-test.true, within t)) c.swap.ensures,
      omega (arith, t.loop-i.invariant.1, c.onward-i.ensures.0),
      c.onward-i.ensures.1,
      omega (arith, t.loop-i.invariant.3),
    )

same_length : tie.Need-shape_of-room invariant-loop decreases-loop
same_length c = c.loop-i.invariant.0.same

returns : tie.Need-returns invariant-loop decreases-loop
returns c = (c.loop-i.invariant.0, c.loop-i.invariant.1, omega (arith, c.loop-i.invariant.2, c.loop-i.invariant.3))

pub split_spec : {M : Type 1} → statement M
split_spec =
    tie.close (tie.spec invariant-loop decreases-loop loop-holds key-requires add-i loop-less loop-again sub-j key-requires-2
    loop-less-2 loop-again-2 swap-requires onward-requires loop-less-3 loop-again-3 same_length returns)
