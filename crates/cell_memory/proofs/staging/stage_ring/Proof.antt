-- `cell_memory::staging::stage_ring` meets its contract: each turn writes the next half-edge's triangle, and the walk ends by its own rule.
use mathlib.Core.Path.{refl, ◌∙◌}
use Prim.Native.Nat.{◌+◌, ◌-◌, ◌≤◌, ◌<◌}
use native.Mathlib.Omega.{arith}
use lib.ListN.{length}
use borrow.Author.Rules.{rules}
use Rattle.mesh.specs.Mesh.{whole_of}
use Rattle.cell_memory.specs.staging.laws.Staging.{Staging, staging_start, staging_place, staging_less, staging_step, staging_end}
use Rattle.cell_memory.proofs.staging.stage_ring.Statement.{statement}
use Rattle.cell_memory.proofs.staging.stage_ring.Tie as tie

abbrev invariant-loop : tie.invariant-loop-e
invariant-loop triangles halfedges s ix₀ at e₀ n₀ ix e n = Staging triangles halfedges s at ix₀ ix e n

abbrev decreases-loop : tie.decreases-loop-e
decreases-loop triangles halfedges s ix₀ at e₀ n₀ ix e n = length (whole_of halfedges s) - (n - at)

abbrev Entry : tie.At-loop-e invariant-loop decreases-loop → tie.Start invariant-loop decreases-loop
Entry l = l.before.before.before.before.before

-- the whole ring fits behind `at`
room : (l : tie.At-loop-e invariant-loop decreases-loop) → (Entry l).args.at + length (whole_of (Entry l).args.halfedges.now (Entry l).args.s) ≤ length (Entry l).args.indexes.now
room l = (Entry l).requires.1

place : (c : tie.In-loop-e invariant-loop decreases-loop) → c.loop-e.n < length c.loop-e.indexes
place c = staging_place _ _ _ _ _ _ _ _ c.loop-e.invariant c.loop-e-test.true (room c.before)

loop-holds : tie.Need-loop-e-init invariant-loop decreases-loop
loop-holds c = staging_start _ _ _ _ _ c.requires.0 _ c.wide-e.ensures

cast-indexes : tie.Need-overflow_cast-indexes invariant-loop decreases-loop
cast-indexes c = omega (arith, (Entry c.before).requires.0.small)

mul-indexes : tie.Need-offset_bounds-indexes-n invariant-loop decreases-loop
mul-indexes c = omega (arith, place c)

slice_write-indexes : tie.Need-bounds-indexes-n invariant-loop decreases-loop
slice_write-indexes c = place c

add-n : tie.Need-overflow_add-n invariant-loop decreases-loop
add-n c = omega (arith, place c)

turn-requires : tie.Need-turn-requires invariant-loop decreases-loop
turn-requires c κs = ((Entry c.before).requires.0.threes, c.loop-e-test.true)

loop-less : tie.Need-loop-e-smaller invariant-loop decreases-loop
loop-less c = let l = c in staging_less _ _ _ _ _ _ _ _ l.loop-e.invariant c.loop-e-test.true

loop-again : tie.Need-loop-e-preserved invariant-loop decreases-loop
loop-again c =
    let l = c in
    staging_step _ _ _ _ _ _ _ _ l.loop-e.invariant c.loop-e-test.true (room l.before.before.before) _ _ refl (c.wide-e-in-loop-e.ensures ∙ c.turn.ensures)

same_length : tie.Need-shape_of-indexes invariant-loop decreases-loop
same_length c = c.loop-e.invariant.long

returns : tie.Need-returns invariant-loop decreases-loop
returns c = staging_end _ _ _ _ _ _ _ _ c.loop-e.invariant (omega arith)

pub stage_ring_spec : {M : Type 1} → statement M
stage_ring_spec =
    tie.close
    (tie.spec invariant-loop decreases-loop (λ c κs. search rules) loop-holds cast-indexes mul-indexes slice_write-indexes add-n turn-requires
    (λ c κs. search rules) loop-less loop-again same_length returns)
