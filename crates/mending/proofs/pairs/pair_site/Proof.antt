-- The loop keeps `SitePairing`: the half-edges before those of the site that come after x have their pairs.
use Rattle.mesh.specs.laws.Next.{next_sum}
use native.Mathlib.Omega.{arith}
use Rattle.mending.specs.pairs.laws.Chaining.{left, left_falls}
use Rattle.mending.specs.pairs.laws.Pairing.{SitePairing, site_start, site_here, site_in, site_ends, site_step, site_done}
use borrow.Author.Rules.{rules}
use Rattle.mending.proofs.pairs.pair_site.Statement.{statement}
use Rattle.mending.proofs.pairs.pair_site.Tie as tie

abbrev invariant-loop : tie.invariant-loop-x
invariant-loop triangles heads links marks pairs₀ a x₀ pairs x = SitePairing triangles a pairs₀ pairs x

abbrev decreases-loop : tie.decreases-loop-x
decreases-loop triangles heads links marks pairs₀ a x₀ pairs x = left x

abbrev Wide : tie.After-mate invariant-loop decreases-loop → tie.After-wide-e invariant-loop decreases-loop
Wide c = c.before.before.before

abbrev Entry : tie.After-shared_slice_known-5-1 invariant-loop decreases-loop → tie.Start invariant-loop decreases-loop
Entry c = c.before.before.before.before.before.before

abbrev Start : tie.After-wide-e invariant-loop decreases-loop → tie.Start invariant-loop decreases-loop
Start c = Entry c.before.before.before

loop-holds : tie.Need-loop-x-init invariant-loop decreases-loop
loop-holds c = site_start _ _ _ _ _ (Entry c).requires.1 (Entry c).requires.3

next_halfedge-requires : tie.Need-next_halfedge-requires invariant-loop decreases-loop
next_halfedge-requires c κs =
    omega (
      arith,
      (site_here _ _ _ _ _ _ (Start c).requires.0 (Start c).requires.5 c.loop-x.invariant c.loop-x-test.true).0,
      c.wide-e.ensures,
      (Start c).requires.0.small,
    )

next_halfedge-requires-2 : tie.Need-next_halfedge-d-requires invariant-loop decreases-loop
next_halfedge-requires-2 c κs =
    let at_wide = c in
    omega (
      arith,
      (site_here _ _ _ _ _ _ (Start at_wide.before).requires.0 (Start at_wide.before).requires.5 at_wide.loop-x.invariant c.loop-x-test.true).0,
      c.wide-e.ensures,
      (Start at_wide.before).requires.0.small,
      next_sum c.wide-e.result,
      c.next_halfedge.ensures,
    )

mate-requires : tie.Need-mate-requires invariant-loop decreases-loop
mate-requires c κs =
    let at-loop-test = c in
    let at_start = Start c.before.before in (
      at_start.requires.0,
      at_start.requires.4,
      site_in _ _ _ _ _ _ at_start.requires.0 at_start.requires.5 at-loop-test.loop-x.invariant at-loop-test.loop-x-test.true _ _ _ c.wide-e.ensures c.next_halfedge.ensures c.next_halfedge-d.ensures,
      site_ends _ _ _ _ _ _ at_start.requires.0 at_start.requires.5 at-loop-test.loop-x.invariant at-loop-test.loop-x-test.true _ _ _ c.wide-e.ensures c.next_halfedge.ensures c.next_halfedge-d.ensures,
    )

mul-pairs : tie.Need-offset_bounds-pairs-d invariant-loop decreases-loop
mul-pairs c =
    let at_wide = c in
    record {
      fits = omega (
        arith,
        site_in _ _ _ _ _ _ (Start at_wide.before.before.before).requires.0 (Start at_wide.before.before.before).requires.5 at_wide.loop-x.invariant at_wide.loop-x-test.true _ _
            _ at_wide.wide-e.ensures c.next_halfedge.ensures c.next_halfedge-d.ensures,
        (Start at_wide.before.before.before).requires.5,
        at_wide.loop-x.invariant.long,
      );
    }

slice_write-pairs : tie.Need-bounds-pairs-d invariant-loop decreases-loop
slice_write-pairs c =
    let at_wide = c in
    omega (
      arith,
      site_in _ _ _ _ _ _ (Start at_wide.before.before.before).requires.0 (Start at_wide.before.before.before).requires.5 at_wide.loop-x.invariant at_wide.loop-x-test.true _ _ _ at_wide.wide-e.ensures c.next_halfedge.ensures c.next_halfedge-d.ensures,
      (Start at_wide.before.before.before).requires.5,
      at_wide.loop-x.invariant.long,
    )

mul-x-2 : tie.Need-offset_bounds-links-e invariant-loop decreases-loop
mul-x-2 c =
    let at_wide = c in
    record {
      fits = omega (
        arith,
        (site_here _ _ _ _ _ _ (Start at_wide.before.before.before).requires.0 (Start at_wide.before.before.before).requires.5 at_wide.loop-x.invariant at_wide.loop-x-test.true
            ).0,
        at_wide.wide-e.ensures,
        (Start at_wide.before.before.before).requires.2,
      );
    }

shared_slice_read-x-2 : tie.Need-bounds-links-e invariant-loop decreases-loop
shared_slice_read-x-2 c =
    omega (
      arith,
      (site_here _ _ _ _ _ _ (Start (Wide c.before)).requires.0 (Start (Wide c.before)).requires.5 (Wide c.before).loop-x.invariant
          (Wide c.before).loop-x-test.true).0,
      (Wide c.before).wide-e.ensures,
      (Start (Wide c.before)).requires.2,
    )

loop-less : tie.Need-loop-x-smaller invariant-loop decreases-loop
loop-less c =
    let at_start = Start (Wide c.before) in
    let h = site_here _ _ _ _ _ _ at_start.requires.0 at_start.requires.5 (Wide c.before).loop-x.invariant (Wide c.before).loop-x-test.true in
    let b = at_start.requires.1.nexts (Wide c.before).wide-e.result (omega (arith, h.0, (Wide c.before).wide-e.ensures)) in
    left_falls _ _ _ _ _ (Wide c.before).wide-e.ensures b (omega (arith, h.0, at_start.requires.0.small)) (omega (arith, c.shared_slice_known-in-loop-x-1.given (Wide c.before).wide-e.result))

loop-again : tie.Need-loop-x-preserved invariant-loop decreases-loop
loop-again c =
    let at-loop-test = Wide c.before in
    let at_start = Start (Wide c.before) in
    let h = site_here _ _ _ _ _ _ at_start.requires.0 at_start.requires.5 at-loop-test.loop-x.invariant at-loop-test.loop-x-test.true in
    site_step _ _ _ _ _ _ at_start.requires.0 at_start.requires.5 at-loop-test.loop-x.invariant at-loop-test.loop-x-test.true _ _ _ (Wide c.before).wide-e.ensures
    c.next_halfedge.ensures c.next_halfedge-d.ensures _ _ c.mate.ensures
    (at_start.requires.1.nexts (Wide c.before).wide-e.result (omega (arith, h.0, (Wide c.before).wide-e.ensures)))

same_length : tie.Need-shape_of-pairs invariant-loop decreases-loop
same_length c = c.loop-x.invariant.long

returns : tie.Need-returns invariant-loop decreases-loop
returns c = site_done _ _ _ _ _ _ (Entry c.before.before).requires.0 c.loop-x.invariant c.loop-x-test.false

pub pair_site_spec : {M : Type 1} → statement M
pair_site_spec =
    tie.close
    (tie.spec invariant-loop decreases-loop (λ c. search rules) (λ c. search rules) loop-holds (λ c κs. search rules)
    next_halfedge-requires next_halfedge-requires-2 mate-requires mul-pairs slice_write-pairs mul-x-2
    shared_slice_read-x-2 loop-less loop-again same_length returns)
