-- `cell_memory::staging::stage_later` meets its contract: a store, the walk right after it, and a store at its end.
use mathlib.Core.Path.{◌∙◌}
use native.Mathlib.Omega.{arith}
use lib.ListN.{length, length-set}
use Prim.Native.Nat.{◌<◌}
use Rattle.cell_memory.specs.staging.laws.Staging.{ring_long}
use Rattle.cell_memory.specs.staging.laws.HullRing.{staged_cons, staged_snoc}
use borrow.Author.Rules.{rules}
use Rattle.cell_memory.proofs.staging.stage_later.Statement.{statement}
use Rattle.cell_memory.proofs.staging.stage_later.Tie as tie

stage_ring-requires : tie.Need-stage_ring-end-requires
stage_ring-requires c κs = (c.requires.0, simp length-set (omega (arith, c.requires.1)))

-- the walk's end lies within the list
within : (c : tie.After-stage_ring-end) → c.stage_ring-end.result < length c.args.indexes.now
within c =
    let s = c in
    omega (arith, c.stage_ring-end.ensures.ended, ring_long s.args.halfedges.now s.args.e, s.requires.1)

mul-indexes-2 : tie.Need-offset_bounds-indexes-end
mul-indexes-2 c = omega (arith, within c.before.before)

slice_write-indexes-2 : tie.Need-bounds-indexes-end
slice_write-indexes-2 c = omega (arith, within c.before.before, simp length-set at c.stage_ring-end.auto.indexes)

add-result : tie.Need-overflow_add-result
add-result c = omega (arith, within c.before.before)

same_length : tie.Need-shape_of-indexes
same_length c = simp length-set (c.stage_ring-end.auto.indexes ∙ simp length-set)

returns : tie.Need-returns
returns c =
    let s = c in
    let r = ring_long s.args.halfedges.now s.args.e in
    staged_cons _ _ _ _ _ _ (omega arith) (staged_snoc _ _ _ _ _ _ (simp length-set (omega (arith, r, s.requires.1))) c.stage_ring-end.ensures)

pub stage_later_spec : {M : Type 1} → statement M
stage_later_spec =
    tie.close
    (tie.spec (λ c. search rules) (λ c. search rules) (λ c. search rules) stage_ring-requires mul-indexes-2 slice_write-indexes-2
    add-result same_length returns)
