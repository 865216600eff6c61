-- `certifying::sides::is_fair` meets its contract.
use mathlib.Core.Path.{sym}
use Prim.Native.Nat.{◌-◌, ◌<◌}
use Rattle.ring_area.specs.lowest.laws.Loops.{no_both}
use Rattle.certifying.specs.sides.Chains.{laid_ends}
use Rattle.certifying.specs.sides.laws.Fair.{even_fair, FairTo, fair_start, fair_below, fair_less, fair_step, fair_end}
use native.Mathlib.Omega.{arith}
use borrow.Author.Rules.{rules}
use Rattle.certifying.proofs.sides.is_fair.Statement.{statement}
use Rattle.certifying.proofs.sides.is_fair.Tie as tie

abbrev invariant-loop : tie.invariant-loop-x
invariant-loop work vertices indexes bounds count m x₀ x = FairTo bounds vertices indexes (laid_ends work count) count m x

abbrev decreases-loop : tie.decreases-loop-x
decreases-loop work vertices indexes bounds count m x₀ x = x

abbrev Start : tie.Else-is_pair invariant-loop decreases-loop → tie.Start invariant-loop decreases-loop
Start c = c.before.before.before.before.before.before.before

is_even-requires : tie.Need-is_even-requires invariant-loop decreases-loop
is_even-requires c κs = c.requires

returns : tie.Need-returns-then-is_even invariant-loop decreases-loop
returns c = λ q. even_fair _ _ _ _ _ _ (c.is_even.ensures c.if-is_even.true)

is_pair-requires : tie.Need-is_pair-requires invariant-loop decreases-loop
is_pair-requires c κs = c.requires

returns-2 : tie.Need-returns-then-is_pair invariant-loop decreases-loop
returns-2 c = λ q. even_fair _ _ _ _ _ _ (c.is_pair.ensures c.if-is_pair.true)

mul_wide : tie.Need-overflow_mul-m invariant-loop decreases-loop
mul_wide c = record { fits = omega (arith, (Start c).requires.1.lie.few, (Start c).requires.0) }

mul-wide-2 : tie.Need-offset_bounds-work-m invariant-loop decreases-loop
mul-wide-2 c = omega (arith, (Start c).requires.1.lie.few, (Start c).requires.0)

shared_slice_read-wide : tie.Need-bounds-work-m invariant-loop decreases-loop
shared_slice_read-wide c = omega (arith, (Start c.before).requires.1.lie.room, (Start c.before).requires.0)

loop-holds : tie.Need-loop-x-init invariant-loop decreases-loop
loop-holds c = fair_start (Start c.before.before).requires.1 (Start c.before.before).requires.0 c.wide-x.ensures

-- in a turn: the way is one of them
below : (c : tie.In-loop-x invariant-loop decreases-loop) → c.loop-x.x - 1 < (Start c.before.before.before.before).args.count
below c = fair_below (Start c.before.before.before.before).requires.1 c.loop-x.invariant c.loop-x-test.true

is_surplus-requires : tie.Need-is_surplus-requires invariant-loop decreases-loop
is_surplus-requires c κs = (below c, (Start c.before.before.before.before).requires.1)

returns-3 : tie.Need-returns-then-is_surplus invariant-loop decreases-loop
returns-3 c = λ q. absurd (no_both (sym q))

mul-wide-3 : tie.Need-overflow_mul-k invariant-loop decreases-loop
mul-wide-3 c = record { fits = omega (arith, (Start c.before.before.before.before.before.before).requires.1.lie.few, below c.before.before) }

add_wide : tie.Need-overflow_add-k invariant-loop decreases-loop
add_wide c = record { fits = omega (arith, (Start c.before.before.before.before.before.before).requires.1.lie.few, below c.before.before) }

mul-wide-4 : tie.Need-offset_bounds-work-k invariant-loop decreases-loop
mul-wide-4 c = omega (arith, (Start c.before.before.before.before.before.before).requires.1.lie.few, below c.before.before)

shared_slice_read-wide-2 : tie.Need-bounds-work-k invariant-loop decreases-loop
shared_slice_read-wide-2 c =
    let il = c in
    omega (arith, (Start il.before.before.before.before.before.before.before).requires.1.lie.room, below il.before.before.before)

loop-less : tie.Need-loop-x-smaller invariant-loop decreases-loop
loop-less c =
    let il = c in
    fair_less (Start il.before.before.before.before.before.before.before.before).requires.1 il.loop-x.invariant il.loop-x-test.true c.wide-x-in-loop-x.ensures

loop-again : tie.Need-loop-x-preserved invariant-loop decreases-loop
loop-again c =
    let su = c in
    fair_step (Start su.before.before.before.before.before.before.before.before).requires.1 su.loop-x.invariant su.loop-x-test.true su.is_surplus.ensures
    c.if-is_surplus.false c.wide-x-in-loop-x.ensures

returns-4 : tie.Need-returns invariant-loop decreases-loop
returns-4 c = λ _. fair_end (Start c.before.before.before.before).requires.1 c.loop-x.invariant (omega (arith, c.loop-x-test.false))

pub is_fair_spec : {M : Type 1} → statement M
is_fair_spec =
    tie.close
    (tie.spec invariant-loop decreases-loop is_even-requires returns is_pair-requires returns-2 mul_wide mul-wide-2 shared_slice_read-wide (λ c κs. search rules) loop-holds (λ c. omega arith)
    is_surplus-requires returns-3
    mul-wide-3 add_wide mul-wide-4 shared_slice_read-wide-2 (λ c κs. search rules) loop-less loop-again returns-4)
