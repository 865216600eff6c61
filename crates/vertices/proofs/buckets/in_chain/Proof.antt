-- `vertices::buckets::in_chain` meets its contract: what was found among those that were passed is the first near one of them, and what is chained in another bucket, or before an entry without
-- the mark, is not near.
use Prim.{tt}
use mathlib.Core.Path.{◌∙◌, ap, refl}
use Prim.Native.Nat.{◌+◌, ◌-◌, ◌*◌, ◌≤◌, ◌<◌}
use native.Mathlib.Omega.{arith}
use lib.ListN.{length, length-drop}
use Rattle.vertices.specs.Add.{near_pt}
use Rattle.vertices.specs.buckets.Buckets.{number_in}
use Rattle.vertices.specs.buckets.laws.Chains.{ChainPassed, chain_start, chain_some, chain_before, chain_less, chain_step, chain_end}
use Rattle.vertices.proofs.buckets.in_chain.Statement.{statement}
use Rattle.vertices.proofs.buckets.in_chain.Tie as tie

abbrev invariant-loop : tie.invariant-loop-e
invariant-loop vertices indexes limit heads centers inserted m mark p best₀ e₀ best e = ChainPassed vertices indexes limit centers inserted m p e best

abbrev decreases-loop : tie.decreases-loop-e
decreases-loop vertices indexes limit heads centers inserted m mark p best₀ e₀ best e = number_in e

-- heads and links lie within the list
within : (c : tie.Start invariant-loop decreases-loop) → c.args.limit + 4 * c.args.heads ≤ length c.args.indexes.now
within c = omega (arith, c.requires.heads_is, c.requires.below, length-drop c.args.limit c.args.indexes.now)

abbrev Entry : tie.At-loop-e invariant-loop decreases-loop → tie.Start invariant-loop decreases-loop
Entry l = l.before.before.before.before

abbrev Whole : tie.After-wide-k invariant-loop decreases-loop → tie.Start invariant-loop decreases-loop
Whole c = Entry c.before.before

some : (c : tie.After-wide-k invariant-loop decreases-loop) → 0 < c.wide-k.result
some c = let t = c in chain_some (Whole c).requires t.loop-e.invariant t.loop-e-test.true c.wide-k.ensures

before : (c : tie.After-wide-k invariant-loop decreases-loop) → c.wide-k.result - 1 < (Whole c).args.inserted
before c = let t = c in chain_before (Whole c).requires t.loop-e.invariant t.loop-e-test.true c.wide-k.ensures

link : (c : tie.After-wide-k invariant-loop decreases-loop) → (Whole c).args.limit + ((Whole c).args.heads + (c.wide-k.result - 1)) < length (Whole c).args.indexes.now
link c = let b = before c in let w = within (Whole c) in let f = (Whole c).requires.few in omega arith

add-best : tie.Need-overflow_add-best invariant-loop decreases-loop
add-best c = let s = c in record { fits = omega (arith, s.requires.room) }

add-e : tie.Need-overflow_add-e invariant-loop decreases-loop
add-e c = let s = c in record { fits = omega (arith, within s.before.before, s.requires.below) }

mul-e : tie.Need-offset_bounds-indexes-limit invariant-loop decreases-loop
mul-e c = let s = c in omega (arith, within s.before.before, s.requires.below)

shared_slice_read-e : tie.Need-bounds-indexes-limit invariant-loop decreases-loop
shared_slice_read-e c = let s = c in omega (arith, within s.before.before.before, s.requires.below)

loop-holds : tie.Need-loop-e-init invariant-loop decreases-loop
loop-holds c = chain_start c.requires refl

cast-loop : tie.Need-overflow_cast-mark invariant-loop decreases-loop
cast-loop c = record { fits = omega (arith, (Entry c).requires.digit) }

add-i : tie.Need-overflow_add-i invariant-loop decreases-loop
add-i c = record { fits = omega (arith, before c, (Whole c).requires.room) }

point_at-requires : tie.Need-point_at-requires invariant-loop decreases-loop
point_at-requires c κs = omega (arith, before c, (Whole c).requires.room)

add-e-2 : tie.Need-overflow_add-e-in-loop-e invariant-loop decreases-loop
add-e-2 c = record { fits = omega (arith, link c.before.before.before) }

add-e-3 : tie.Need-overflow_add-e-in-loop-e-2 invariant-loop decreases-loop
add-e-3 c = record { fits = omega (arith, link c.before.before.before) }

mul-e-2 : tie.Need-offset_bounds-indexes-limit-in-loop-e invariant-loop decreases-loop
mul-e-2 c = omega (arith, link c.before.before.before)

loop-less : tie.Need-loop-e-smaller invariant-loop decreases-loop
loop-less c =
    let at_wide = c in
    let t = at_wide in
    chain_less (Whole at_wide.before.before.before.before).requires t.loop-e.invariant t.loop-e-test.true at_wide.wide-k.ensures refl

loop-again : tie.Need-loop-e-preserved invariant-loop decreases-loop
loop-again c =
    let at-choose = c in
    let at-near = at-choose in
    let at-point = at-near in
    let at_wide = at-point in
    let t = at_wide in
    let s = Whole at_wide.before.before.before.before in
    chain_step s.requires t.loop-e.invariant t.loop-e-test.true at_wide.wide-k.ensures
    (at-near.near_point-near.ensures ∙ ap (λ q. near_pt q s.args.p) at-point.point_at.ensures) at-choose.choose-best.ensures refl

returns : tie.Need-returns invariant-loop decreases-loop
returns c = chain_end (Entry c.before).requires c.loop-e.invariant c.loop-e-test.false

pub in_chain_spec : {M : Type 1} → statement M
in_chain_spec =
    tie.close
    (tie.spec invariant-loop decreases-loop add-best add-e mul-e shared_slice_read-e loop-holds cast-loop (λ c. (Entry c).requires.digit) (λ c κs. tt) some add-i point_at-requires (λ c κs. tt) (λ c κs. tt)
    add-e-2 add-e-3 mul-e-2 (λ c. link c.before.before.before.before) loop-less loop-again returns)
