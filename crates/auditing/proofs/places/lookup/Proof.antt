-- `auditing::places::lookup` meets its contract: none that was passed stands at the place of s, and what is chained in another bucket does not.
use Prim.{tt}
use native.Mathlib.Omega.{arith}
use Rattle.ring_area.specs.lowest.laws.Loops.{named_twice}
use Rattle.auditing.specs.places.laws.Passing.{PassedTo, held_bucket, held_all, held_within, held_before, held_less, held_one, held_found, held_none}
use Rattle.auditing.specs.places.laws.Twins.{twin_is}
use Rattle.auditing.proofs.places.lookup.Statement.{statement}
use Rattle.auditing.proofs.places.lookup.Tie as tie

abbrev invariant-loop : tie.invariant-loop-x
invariant-loop heads links sites a s m place x₀ x = PassedTo sites a s x

abbrev decreases-loop : tie.decreases-loop-x
decreases-loop heads links sites a s m place x₀ x = x

abbrev Start : tie.At-loop-x invariant-loop decreases-loop → tie.Start invariant-loop decreases-loop
Start c = c.before.before.before.before.before.before.before

point_at-requires : tie.Need-point_at-place-requires invariant-loop decreases-loop
point_at-requires c κs = named_twice _ _ c.requires.in_block.site

mul_wide : tie.Need-offset_bounds-heads-m invariant-loop decreases-loop
mul_wide c = record { fits = omega (arith, held_bucket c.requires) }

shared_slice_read-wide : tie.Need-bounds-heads-m invariant-loop decreases-loop
shared_slice_read-wide c = let h = c.requires in omega (arith, held_bucket h, h.in_block.chained.wide)

loop-holds : tie.Need-loop-x-init invariant-loop decreases-loop
loop-holds c = held_all c.requires c.wide-x.ensures

add-point_at : tie.Need-overflow_add-a invariant-loop decreases-loop
add-point_at c =
    let h = (Start c.before).requires in
    record { fits = omega (arith, held_before h c.loop-x.invariant c.loop-x-test.true, h.in_block.site) }

point_at-requires-2 : tie.Need-point_at-requires invariant-loop decreases-loop
point_at-requires-2 c κs =
    let h = (Start c.before).requires in
    named_twice _ _ (omega (arith, held_before h c.loop-x.invariant c.loop-x-test.true, h.in_block.site))

returns : tie.Need-returns-then-same_place invariant-loop decreases-loop
returns c =
    let at-point-at2 = c in
    let l = at-point-at2 in
    held_found (Start l.before.before.before.before).requires l.loop-x.invariant at-point-at2.loop-x-test.true
    (twin_is (Start l.before.before.before.before).args.sites.now (Start l.before.before.before.before).args.s _ l.point_at-place.ensures at-point-at2.point_at.ensures c.same_place.ensures) c.if-same_place.true

mul-wide-2 : tie.Need-offset_bounds-links-k invariant-loop decreases-loop
mul-wide-2 c =
    let in-loop = c in
    let h = (Start in-loop.before.before.before.before).requires in
    record { fits = omega (arith, held_before h in-loop.loop-x.invariant in-loop.loop-x-test.true, h.in_block.site) }

shared_slice_read-wide-2 : tie.Need-bounds-links-k invariant-loop decreases-loop
shared_slice_read-wide-2 c =
    let in-loop = c in
    let h = (Start in-loop.before.before.before.before.before).requires in
    omega (arith, held_within h in-loop.loop-x.invariant in-loop.loop-x-test.true, h.in_block.chained.long)

loop-less : tie.Need-loop-x-smaller invariant-loop decreases-loop
loop-less c =
    let in-loop = c in
    let h = (Start in-loop.before.before.before.before.before.before).requires in
    held_less h in-loop.loop-x.invariant in-loop.loop-x-test.true c.wide-x-in-loop-x.ensures

loop-again : tie.Need-loop-x-preserved invariant-loop decreases-loop
loop-again c =
    let test = c in
    let l = test in
    held_one (Start l.before.before.before.before.before.before).requires l.loop-x.invariant test.loop-x-test.true
    (twin_is (Start l.before.before.before.before.before.before).args.sites.now (Start l.before.before.before.before.before.before).args.s _ l.point_at-place.ensures test.point_at.ensures test.same_place.ensures)
    c.if-same_place.false c.wide-x-in-loop-x.ensures

returns-2 : tie.Need-returns invariant-loop decreases-loop
returns-2 c = held_none (Start c.before).requires c.loop-x.invariant c.loop-x-test.false

pub lookup_spec : {M : Type 1} → statement M
lookup_spec =
    tie.close
    (tie.spec invariant-loop decreases-loop point_at-requires mul_wide shared_slice_read-wide (λ c κs. tt) loop-holds (λ c. omega arith) add-point_at
    point_at-requires-2 (λ c κs. tt) returns mul-wide-2 shared_slice_read-wide-2 (λ c κs. tt) loop-less loop-again returns-2)
