-- `certifying::tree::ring_nearer` meets its contract: no site that was passed is one.
use Prim.Native.Nat.{◌+◌, ◌-◌, ◌/◌, ◌≤◌}
use native.Mathlib.Nat.{pos_of_ne-zero}
use lib.ListN.{length}
use Rattle.certifying.specs.tree.laws.Search.{NonePast, none_more, ring_found, ring_none}
use native.Mathlib.Omega.{arith}
use Rattle.certifying.proofs.tree.ring_nearer.Statement.{statement}
use Rattle.certifying.proofs.tree.ring_nearer.Tie as tie

abbrev invariant-loop : tie.invariant-loop-j
invariant-loop far sites room w site vertices entries s n j₀ j = NonePast far sites room site vertices entries j × (j ≤ length sites / 2 + 4096)

abbrev decreases-loop : tie.decreases-loop-j
decreases-loop far sites room w site vertices entries s n j₀ j = length sites / 2 + 4096 - j

abbrev Start : tie.At-loop-j invariant-loop decreases-loop → tie.Start invariant-loop decreases-loop
Start c = c.before.before.before.before.before

loop-holds : tie.Need-loop-j-init invariant-loop decreases-loop
loop-holds c = (λ i h. absurd (omega arith), omega arith)

passed-requires : tie.Need-passed-k-requires invariant-loop decreases-loop
passed-requires c κs = ((Start c.before).requires.0, c.loop-j-test.true)

returns : tie.Need-returns-then-k-eq0 invariant-loop decreases-loop
returns c =
    let s = Start c.before.before.before in
    ring_found s.args.far s.args.sites.now s.args.s s.args.vertices.now s.args.entries.now s.requires.0.tree.order s.requires.1
    (c.passed-k.ensures.stop c.if-k-eq0.true)

add-j : tie.Need-overflow_add-j invariant-loop decreases-loop
add-j c = omega (arith, c.loop-j-test.true, c.passed-k.ensures.most)

loop-less : tie.Need-loop-j-smaller invariant-loop decreases-loop
loop-less c = omega (arith, c.loop-j-test.true, c.passed-k.ensures.most, pos_of_ne-zero c.if-k-eq0.false)

loop-again : tie.Need-loop-j-preserved invariant-loop decreases-loop
loop-again c = (none_more c.loop-j.invariant.0 c.passed-k.ensures, omega (arith, c.loop-j-test.true, c.passed-k.ensures.most))

returns-2 : tie.Need-returns invariant-loop decreases-loop
returns-2 c =
    let s = Start c.before in
    ring_none s.args.far s.args.sites.now s.args.s s.args.vertices.now s.args.entries.now s.requires.0.tree.order s.requires.1 c.loop-j.invariant.0
    c.loop-j-test.false

pub ring_nearer_spec : {M : Type 1} → statement M
ring_nearer_spec =
    tie.close (tie.spec invariant-loop decreases-loop loop-holds passed-requires returns add-j loop-less loop-again returns-2)
