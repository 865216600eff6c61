-- `certifying::tree::arrange` meets its contract: the numbers in turn, and exchanges.
use mathlib.Core.Path.{◌≡◌, refl, ◌∙◌}
use Prim.Native.Nat.{◌/◌, ◌≤◌}
use lib.ListN.{length}
use Rattle.certifying.specs.tree.Steps.{Order}
use native.Mathlib.Omega.{arith}
use Rattle.certifying.proofs.tree.arrange.Statement.{statement}
use Rattle.certifying.proofs.tree.arrange.Tie as tie

abbrev invariant-loop : tie.invariant-loop-half
invariant-loop sites room₀ half₀ room half = Order (length sites / 2) room × (length room ≡ length room₀) × (half ≤ 32768)

abbrev decreases-loop : tie.decreases-loop-half
decreases-loop sites room₀ half₀ room half = half

abbrev Start : tie.Else-is_arranged invariant-loop decreases-loop → tie.After-start invariant-loop decreases-loop
Start c = c.before.before.before.before

start-requires : tie.Need-start-requires invariant-loop decreases-loop
start-requires c κs = (c.requires.1, c.requires.2)

is_arranged-requires : tie.Need-is_arranged-requires invariant-loop decreases-loop
is_arranged-requires c κs = c.requires.1

same_length : tie.Need-shape_of-room-then-is_arranged invariant-loop decreases-loop
same_length c = c.start.ensures.1

returns : tie.Need-returns-then-is_arranged invariant-loop decreases-loop
returns c = c.start.ensures

loop-holds : tie.Need-loop-half-init invariant-loop decreases-loop
loop-holds c = ((Start c).start.ensures.0, refl, omega arith)

halve_all-requires : tie.Need-halve_all-requires invariant-loop decreases-loop
halve_all-requires c κs =
    let l = c in
    let s = Start l.before.before.before in
    (s.requires.0, l.loop-half.invariant.0, omega (arith, c.loop-half-test.true), l.loop-half.invariant.2, s.requires.1)

loop-less : tie.Need-loop-half-smaller invariant-loop decreases-loop
loop-less c = omega (arith, c.loop-half-test.true)

loop-again : tie.Need-loop-half-preserved invariant-loop decreases-loop
loop-again c =
    let at-halve-all = c in (
      at-halve-all.halve_all.ensures.order,
      at-halve-all.halve_all.ensures.same ∙ at-halve-all.loop-half.invariant.1,
      omega (arith, at-halve-all.loop-half.invariant.2),
    )

same_length-2 : tie.Need-shape_of-room invariant-loop decreases-loop
same_length-2 c = c.loop-half.invariant.1 ∙ (Start c.before.before).start.ensures.1

returns-2 : tie.Need-returns invariant-loop decreases-loop
returns-2 c = (c.loop-half.invariant.0, c.loop-half.invariant.1 ∙ (Start c.before.before).start.ensures.1)

pub arrange_spec : {M : Type 1} → statement M
arrange_spec =
    tie.close (tie.spec invariant-loop decreases-loop start-requires is_arranged-requires same_length returns loop-holds halve_all-requires loop-less loop-again
    same_length-2 returns-2)
