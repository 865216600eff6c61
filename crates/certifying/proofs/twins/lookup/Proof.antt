-- `certifying::twins::lookup` meets its contract: none that was passed stands at the place of s, and what is chained in another bucket does not.
use Prim.{tt}
use native.Mathlib.Omega.{arith}
use Rattle.ring_area.specs.lowest.laws.Loops.{named_twice}
use Rattle.auditing.specs.places.laws.Twins.{twin_is}
use Rattle.certifying.specs.twins.laws.Passing.{SitesPassed, passed_none, held_before, held_less, held_one, held_found, held_none}
use Rattle.certifying.proofs.twins.lookup.Statement.{statement}
use Rattle.certifying.proofs.twins.lookup.Tie as tie

abbrev invariant-loop : tie.invariant-loop-x
invariant-loop work sites s m place x₀ x = SitesPassed sites s x

abbrev decreases-loop : tie.decreases-loop-x
decreases-loop work sites s m place x₀ x = x

abbrev Start : tie.In-loop-x invariant-loop decreases-loop → tie.Start invariant-loop decreases-loop
Start c = c.before.before.before.before.before.before.before

abbrev InLoop : tie.Else-same_place invariant-loop decreases-loop → tie.In-loop-x invariant-loop decreases-loop
InLoop c = c.before.before.before

point_at-requires : tie.Need-point_at-place-requires invariant-loop decreases-loop
point_at-requires c κs = named_twice _ _ c.requires.site

mul_wide : tie.Need-overflow_mul-m invariant-loop decreases-loop
mul_wide c = let h = c.requires in record { fits = omega (arith, h.below, h.chained.few) }

mul-wide-2 : tie.Need-offset_bounds-work-m invariant-loop decreases-loop
mul-wide-2 c = let h = c.requires in omega (arith, h.below, h.chained.few)

shared_slice_read-wide : tie.Need-bounds-work-m invariant-loop decreases-loop
shared_slice_read-wide c = let h = c.requires in omega (arith, h.below, h.chained.room)

loop-holds : tie.Need-loop-x-init invariant-loop decreases-loop
loop-holds c = passed_none c.requires c.wide-x.ensures

point_at-requires-2 : tie.Need-point_at-requires invariant-loop decreases-loop
point_at-requires-2 c κs =
    let h = (Start c).requires in
    named_twice _ _ (omega (arith, held_before h c.loop-x.invariant c.loop-x-test.true, h.site))

returns : tie.Need-returns-then-same_place invariant-loop decreases-loop
returns c =
    let in-loop = c in
    held_found (Start in-loop.before.before.before).requires in-loop.loop-x.invariant in-loop.loop-x-test.true
    (twin_is (Start in-loop.before.before.before).args.sites.now (Start in-loop.before.before.before).args.s _ in-loop.point_at-place.ensures c.point_at.ensures
    c.same_place.ensures) c.if-same_place.true

mul-wide-3 : tie.Need-overflow_mul-k invariant-loop decreases-loop
mul-wide-3 c =
    let h = (Start (InLoop c)).requires in
    record { fits = omega (arith, held_before h (InLoop c).loop-x.invariant (InLoop c).loop-x-test.true, h.site, h.chained.few) }

add_wide : tie.Need-overflow_add-k invariant-loop decreases-loop
add_wide c =
    let h = (Start (InLoop c)).requires in
    record { fits = omega (arith, held_before h (InLoop c).loop-x.invariant (InLoop c).loop-x-test.true, h.site, h.chained.few) }

mul-wide-4 : tie.Need-offset_bounds-work-k invariant-loop decreases-loop
mul-wide-4 c =
    let h = (Start (InLoop c)).requires in
    omega (arith, held_before h (InLoop c).loop-x.invariant (InLoop c).loop-x-test.true, h.site, h.chained.few)

shared_slice_read-wide-2 : tie.Need-bounds-work-k invariant-loop decreases-loop
shared_slice_read-wide-2 c =
    let in-loop = InLoop c.before in
    let h = (Start in-loop).requires in
    omega (arith, held_before h in-loop.loop-x.invariant in-loop.loop-x-test.true, h.site, h.chained.room)

loop-less : tie.Need-loop-x-smaller invariant-loop decreases-loop
loop-less c =
    let in-loop = InLoop c.before.before in
    let h = (Start in-loop).requires in
    held_less h in-loop.loop-x.invariant in-loop.loop-x-test.true c.wide-x-in-loop-x.ensures

loop-again : tie.Need-loop-x-preserved invariant-loop decreases-loop
loop-again c =
    let other = c in
    let in-loop = InLoop other.before.before in
    held_one (Start in-loop).requires in-loop.loop-x.invariant in-loop.loop-x-test.true
    (twin_is (Start in-loop).args.sites.now (Start in-loop).args.s _ in-loop.point_at-place.ensures other.point_at.ensures
    other.same_place.ensures) other.if-same_place.false c.wide-x-in-loop-x.ensures

returns-2 : tie.Need-returns invariant-loop decreases-loop
returns-2 c = held_none c.requires c.loop-x.invariant c.loop-x-test.false

pub lookup_spec : {M : Type 1} → statement M
lookup_spec =
    tie.close
    (tie.spec invariant-loop decreases-loop point_at-requires mul_wide mul-wide-2 shared_slice_read-wide (λ c κs. tt) loop-holds (λ c. omega arith)
    point_at-requires-2 (λ c κs. tt) returns mul-wide-3 add_wide mul-wide-4 shared_slice_read-wide-2 (λ c κs. tt) loop-less loop-again returns-2)
