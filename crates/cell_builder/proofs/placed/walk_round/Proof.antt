-- `cell_builder::placed::walk_round` meets its contract: both ends are on the one walk, and they meet exactly where it has as many steps as places; then all of it is written.
use mathlib.Core.Path.{◌≡◌, refl, ◌∙◌}
use mathlib.Core.List.{List}
use Prim.Native.Nat.{ℕ, ◌-◌, ◌/◌, ◌≤◌, ◌<◌}
use native.Mathlib.Omega.{arith}
use lib.ListN.{length, set, length-set}
use Rattle.cell_builder.specs.placed.laws.Walking.{walking_in}
use Rattle.cell_builder.specs.placed.laws.BothEnds.{RoundEnds, WalkingRound, round_start, back_in, back_low, next_low, on_low, round_step, round_early, round_all}
use Rattle.cell_builder.proofs.placed.walk_round.Statement.{statement}
use Rattle.cell_builder.proofs.placed.walk_round.Tie as tie

abbrev invariant-loop : tie.invariant-loop-n
invariant-loop halfedges indexes₀ at end t n₀ m₀ back₀ on₀ indexes n m back on =
    (old : List ℕ) → indexes₀ ≡ set old at (t / 3) → end ≤ length old → WalkingRound halfedges t at end old indexes n m back on

abbrev decreases-loop : tie.decreases-loop-n
decreases-loop halfedges indexes₀ at end t n₀ m₀ back₀ on₀ indexes n m back on = m - n

abbrev First : tie.After-slice_known-1 invariant-loop decreases-loop → tie.Start invariant-loop decreases-loop
First c = c.before.before

abbrev Entry : tie.At-loop-n invariant-loop decreases-loop → tie.Start invariant-loop decreases-loop
Entry l = l.before.before.before

-- there is room for the first
room : (c : tie.After-slice_known-1 invariant-loop decreases-loop) → (First c).args.at < (First c).args.end
room c = let b = (First c).requires.4.1 in omega (arith, b.some, b.short)

-- what is written by now
Now : (l : tie.At-loop-n invariant-loop decreases-loop) → let a = (Entry l).args in
    RoundEnds a.halfedges.now a.t a.at a.end a.indexes.now (Entry l).requires.4.1.along l.loop-n.indexes l.loop-n.n l.loop-n.m l.loop-n.back l.loop-n.on
Now l = l.loop-n.invariant (Entry l).args.indexes.now refl (Entry l).requires.2 _ (Entry l).requires.4.1

cast-indexes : tie.Need-overflow_cast-indexes invariant-loop decreases-loop
cast-indexes c = omega (arith, (walking_in (First c).requires.4.1).0, (First c).requires.3)

mul-indexes : tie.Need-offset_bounds-indexes-at invariant-loop decreases-loop
mul-indexes c = omega (arith, room c, (First c).requires.2)

slice_write-indexes : tie.Need-bounds-indexes-at invariant-loop decreases-loop
slice_write-indexes c = omega (arith, room c, (First c).requires.2)

add-n : tie.Need-overflow_add-n invariant-loop decreases-loop
add-n c = omega (arith, room c, (First c).requires.2)

loop-holds : tie.Need-loop-n-init invariant-loop decreases-loop
loop-holds c = λ old q within. round_start _ _ _ _ old (First c).requires.0 within _ q

-- the turn that a step back belongs to
abbrev Turn : tie.After-step_back-back invariant-loop decreases-loop → tie.At-loop-n invariant-loop decreases-loop
Turn k = k.before.before

step_back-requires : tie.Need-step_back-back-requires invariant-loop decreases-loop
step_back-requires c κs = let l = c in (back_in _ _ _ _ _ (Entry l.before).requires.0 (Entry l.before).requires.2 _ _ _ _ _ (Entry l.before).requires.4.1 (Now l.before), (Entry l.before).requires.3)

same_length : tie.Need-shape_of-indexes-then-back-t invariant-loop decreases-loop
same_length c = (Now (Turn c.before)).long

returns : tie.Need-returns-then-back-t invariant-loop decreases-loop
returns c =
    let k = c in
    let l = Turn k.before in
    round_early _ _ _ _ _ (Entry l).requires.0 (Entry l).requires.2 _ _ _ _ _ k.loop-n-test.true (l.loop-n.invariant _ refl (Entry l).requires.2) _ k.step_back-back.ensures c.if-back-t.true _

cast-indexes-2 : tie.Need-overflow_cast-indexes-in-loop-n invariant-loop decreases-loop
cast-indexes-2 c =
    let k = c in
    let l = Turn k.before in
    omega (
      arith,
      k.step_back-back.ensures,
      back_low _ _ _ _ _ (Entry l).requires.0 (Entry l).requires.2 _ _ _ _ _ (Entry l).requires.4.1 (Now l)
          (λ q. c.if-back-t.false (k.step_back-back.ensures ∙ q)),
      (Entry l).requires.3,
    )

mul-indexes-2 : tie.Need-offset_bounds-indexes-n invariant-loop decreases-loop
mul-indexes-2 c =
    let k = c in
    let l = Turn k.before in
    omega (arith, k.loop-n-test.true, (Now l).high, (Now l).long, (Entry l).requires.2)

slice_write-indexes-2 : tie.Need-bounds-indexes-n invariant-loop decreases-loop
slice_write-indexes-2 c =
    let k = c in
    let l = Turn k.before in
    omega (arith, k.loop-n-test.true, (Now l).high, (Now l).long, (Entry l).requires.2)

step_on-requires : tie.Need-step_on-on-requires invariant-loop decreases-loop
step_on-requires c κs =
    let k = c in
    let l = Turn k.before in
    (next_low _ _ _ _ _ (Entry l).requires.0 (Entry l).requires.2 _ _ _ _ _ (Entry l).requires.4.1 (Now l), (Entry l).requires.3)

sub-m : tie.Need-overflow_sub-m invariant-loop decreases-loop
sub-m c = omega (arith, c.loop-n-test.true)

cast-indexes-3 : tie.Need-overflow_cast-indexes-in-loop-n-2 invariant-loop decreases-loop
cast-indexes-3 c =
    let k = c in
    let l = Turn k.before.before in
    omega (arith, c.step_on-on.ensures, on_low _ _ _ _ _ (Entry l).requires.0 (Entry l).requires.2 _ _ _ _ _ (Entry l).requires.4.1 (Now l), (Entry l).requires.3)

mul-indexes-3 : tie.Need-offset_bounds-indexes-m invariant-loop decreases-loop
mul-indexes-3 c =
    let k = c in
    let l = Turn k.before.before in
    omega (arith, k.loop-n-test.true, (Now l).high, (Now l).long, (Entry l).requires.2)

slice_write-indexes-3 : tie.Need-bounds-indexes-m invariant-loop decreases-loop
slice_write-indexes-3 c =
    let k = c in
    let l = Turn k.before.before in
    simp length-set (omega (arith, k.loop-n-test.true, (Now l).high, (Now l).long, (Entry l).requires.2))

add-n-2 : tie.Need-overflow_add-n-in-loop-n invariant-loop decreases-loop
add-n-2 c =
    let k = c in
    let l = Turn k.before.before in
    omega (arith, k.loop-n-test.true, (Now l).high, (Now l).long, (Entry l).requires.2)

loop-less : tie.Need-loop-n-smaller invariant-loop decreases-loop
loop-less c = omega (arith, c.loop-n-test.true)

loop-again : tie.Need-loop-n-preserved invariant-loop decreases-loop
loop-again c =
    let k = c in
    let l = Turn k.before.before in
    λ old q within. round_step _ _ _ _ old (Entry l).requires.0 within _ _ _ _ _ k.loop-n-test.true (l.loop-n.invariant old q within) _ _ _ _ refl refl k.step_back-back.ensures
    c.step_on-on.ensures c.if-back-t.false

meets-requires : tie.Need-meets-requires invariant-loop decreases-loop
meets-requires c κs = let l = c in (λ _. back_in _ _ _ _ _ (Entry l.before).requires.0 (Entry l.before).requires.2 _ _ _ _ _ (Entry l.before).requires.4.1 (Now l.before), (Entry l.before).requires.3)

same_length-2 : tie.Need-shape_of-indexes invariant-loop decreases-loop
same_length-2 c = (Now c.before.before).long

returns-2 : tie.Need-returns invariant-loop decreases-loop
returns-2 c =
    let i = c in
    let l = i in
    round_all _ _ _ _ _ (Entry l.before.before).requires.0 (Entry l.before.before).requires.2 _ _ _ _ _ i.loop-n-test.false (l.loop-n.invariant _ refl (Entry l.before.before).requires.2) _ c.meets.ensures

pub walk_round_spec : {M : Type 1} → statement M
walk_round_spec =
    tie.close
    (tie.spec invariant-loop decreases-loop cast-indexes mul-indexes slice_write-indexes add-n loop-holds step_back-requires same_length returns cast-indexes-2 mul-indexes-2
    slice_write-indexes-2 step_on-requires sub-m cast-indexes-3 mul-indexes-3 slice_write-indexes-3 add-n-2 loop-less loop-again meets-requires same_length-2 returns-2)
