-- The loop keeps `Marking`: the half-edges of the site that come after x are marked at their ends.
use native.Mathlib.Omega.{arith}
use Prim.Native.Nat.{◌<◌}
use lib.ListN.{length}
use Rattle.mending.specs.pairs.laws.Chaining.{left, left_falls}
use Rattle.mending.specs.pairs.laws.Marking.{SiteMarking, marking_start, marking_here, marking_in, marking_twice, marking_step, marking_done}
use borrow.Author.Rules.{rules}
use Rattle.mending.proofs.pairs.mark_site.Statement.{statement}
use Rattle.mending.proofs.pairs.mark_site.Tie as tie

abbrev invariant-loop : tie.invariant-loop-x
invariant-loop triangles heads links marks₀ a x₀ marks x = SiteMarking triangles a (length marks₀) marks x

abbrev decreases-loop : tie.decreases-loop-x
decreases-loop triangles heads links marks₀ a x₀ marks x = left x

abbrev Start : tie.After-wide-e invariant-loop decreases-loop → tie.Start invariant-loop decreases-loop
Start c = c.before.before.before.before.before.before.before.before

abbrev Wide : tie.After-wide-b invariant-loop decreases-loop → tie.After-wide-e invariant-loop decreases-loop
Wide c = c.before.before

abbrev Wide2 : tie.After-from_site invariant-loop decreases-loop → tie.After-wide-b invariant-loop decreases-loop
Wide2 c = c.before.before

here : (c : tie.After-wide-e invariant-loop decreases-loop) → c.wide-e.result < length (Start c).args.triangles.now
here c = omega (arith, (marking_here _ _ _ _ _ c.loop-x.invariant (Start c).requires.0 c.loop-x-test.true).0, c.wide-e.ensures)

within : (c : tie.After-wide-b invariant-loop decreases-loop) → c.wide-b.result < length (Wide c).loop-x.marks
within c =
    marking_in _ _ _ _ _ (Wide c).loop-x.invariant (Start (Wide c)).requires.0 (Wide c).loop-x-test.true _ _ _ (Wide c).wide-e.ensures
    c.end_site.ensures c.wide-b.ensures

loop-holds : tie.Need-loop-x-init invariant-loop decreases-loop
loop-holds c =
    let at_start = c in
    marking_start _ _ _ _ _ at_start.requires.1 at_start.requires.3 at_start.requires.4

end_site-requires : tie.Need-end_site-requires invariant-loop decreases-loop
end_site-requires c κs = ((Start c).requires.0.threes, here c)

mul-from_site : tie.Need-offset_bounds-marks-b invariant-loop decreases-loop
mul-from_site c = record { fits = omega (arith, within c) }

slice_read-from_site : tie.Need-bounds-marks-b invariant-loop decreases-loop
slice_read-from_site c = omega (arith, within c.before)

same_length : tie.Need-shape_of-marks-then-from_site invariant-loop decreases-loop
same_length c = (Wide (Wide2 c.before)).loop-x.invariant.long

returns : tie.Need-returns-then-from_site invariant-loop decreases-loop
returns c =
    let at-wide2 = Wide2 c.before in
    let at_wide = Wide at-wide2 in
    marking_twice _ _ _ _ _ at_wide.loop-x.invariant (Start at_wide).requires.0 at_wide.loop-x-test.true _ _ _ at_wide.wide-e.ensures
    at-wide2.end_site.ensures at-wide2.wide-b.ensures c.from_site.result c.if-from_site.true c.from_site.ensures

mul-marks : tie.Need-offset_bounds-marks-b-in-loop-x invariant-loop decreases-loop
mul-marks c = record { fits = omega (arith, within (Wide2 c.before)) }

slice_write-marks : tie.Need-bounds-marks-b-in-loop-x invariant-loop decreases-loop
slice_write-marks c = omega (arith, within (Wide2 c.before))

mul-x-2 : tie.Need-offset_bounds-links-e invariant-loop decreases-loop
mul-x-2 c =
    let at_wide = Wide (Wide2 c.before) in
    record { fits = omega (arith, here at_wide, (Start at_wide).requires.2) }

shared_slice_read-x-2 : tie.Need-bounds-links-e invariant-loop decreases-loop
shared_slice_read-x-2 c =
    let at_wide = Wide (Wide2 c.before.before) in
    omega (arith, here at_wide, (Start at_wide).requires.2)

loop-less : tie.Need-loop-x-smaller invariant-loop decreases-loop
loop-less c =
    let at_wide = Wide (Wide2 c.before.before) in
    let b = (Start at_wide).requires.1.nexts at_wide.wide-e.result (here at_wide) in
    left_falls _ _ _ _ _ at_wide.wide-e.ensures b (omega (arith, here at_wide, at_wide.wide-e.ensures, (Start at_wide).requires.0.small))
    (omega (arith, c.shared_slice_known-in-loop-x-1.given at_wide.wide-e.result))

loop-again : tie.Need-loop-x-preserved invariant-loop decreases-loop
loop-again c =
    let at-from-site = c in
    let at-wide2 = Wide2 at-from-site.before.before in
    let at_wide = Wide at-wide2 in
    marking_step _ _ _ _ _ at_wide.loop-x.invariant (Start at_wide).requires.0 at_wide.loop-x-test.true _ _ _ at_wide.wide-e.ensures
    at-wide2.end_site.ensures at-wide2.wide-b.ensures at-from-site.from_site.result c.if-from_site.false at-from-site.from_site.ensures _
    ((Start at_wide).requires.1.nexts at_wide.wide-e.result (here at_wide))

same_length-2 : tie.Need-shape_of-marks invariant-loop decreases-loop
same_length-2 c = c.loop-x.invariant.long

returns-2 : tie.Need-returns invariant-loop decreases-loop
returns-2 c = marking_done _ _ _ _ _ c.loop-x.invariant c.loop-x-test.false

pub mark_site_spec : {M : Type 1} → statement M
mark_site_spec =
    tie.close
    (tie.spec invariant-loop decreases-loop (λ c. search rules) (λ c. search rules) loop-holds (λ c κs. search rules)
    end_site-requires (λ c κs. search rules) mul-from_site slice_read-from_site (λ c κs. search rules)
    same_length returns mul-marks slice_write-marks mul-x-2 shared_slice_read-x-2 loop-less loop-again
    same_length-2 returns-2)
