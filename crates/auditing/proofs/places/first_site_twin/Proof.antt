-- `auditing::places::first_site_twin` meets its contract: after each block no site below the best has a twin up to its end.
use Prim.Native.Nat.{◌-◌, ◌/◌}
use native.Mathlib.Omega.{arith}
use lib.ListN.{length}
use Rattle.auditing.specs.places.laws.Blocks.{BestTo, best_start, best_step, best_end}
use Rattle.auditing.proofs.places.first_site_twin.Statement.{statement}
use Rattle.auditing.proofs.places.first_site_twin.Tie as tie

abbrev invariant-loop : tie.invariant-loop-a
invariant-loop sites best₀ a₀ best a = BestTo sites (length sites / 2) a best

abbrev decreases-loop : tie.decreases-loop-a
decreases-loop sites best₀ a₀ best a = length sites / 2 - a

loop-holds : tie.Need-loop-a-init invariant-loop decreases-loop
loop-holds c = best_start _ _

first_in_block-requires : tie.Need-first_in_block-best-requires invariant-loop decreases-loop
first_in_block-requires c κs = let most = c.loop-a.invariant.most in (omega (arith, c.loop-a-test.true), omega arith)

add_a : tie.Need-overflow_add-a invariant-loop decreases-loop
add_a c = record { fits = omega (arith, c.loop-a-test.true, c.loop-a.invariant.most) }

loop-less : tie.Need-loop-a-smaller invariant-loop decreases-loop
loop-less c = omega (arith, c.loop-a-test.true, c.loop-a.invariant.most)

loop-again : tie.Need-loop-a-preserved invariant-loop decreases-loop
loop-again c = best_step _ c.loop-a.invariant c.first_in_block-best.ensures

returns : tie.Need-returns invariant-loop decreases-loop
returns c = best_end _ c.loop-a.invariant c.loop-a-test.false

pub first_site_twin_spec : {M : Type 1} → statement M
first_site_twin_spec = tie.close (tie.spec invariant-loop decreases-loop loop-holds first_in_block-requires add_a loop-less loop-again returns)
