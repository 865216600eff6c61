-- `cell_memory::staging::stage_first` meets its contract: two stores, and the walk right after them.
use mathlib.Core.Path.{◌≡◌, ◌∙◌}
use Prim.Native.Nat.{◌+◌}
use native.Mathlib.Omega.{arith}
use lib.ListN.{length-set}
use Rattle.cell_memory.specs.staging.laws.HullRing.{staged_cons}
use borrow.Author.Rules.{rules}
use Rattle.cell_memory.proofs.staging.stage_first.Statement.{statement}
use Rattle.cell_memory.proofs.staging.stage_first.Tie as tie

slice_write-indexes-2 : tie.Need-bounds-indexes-at-2
slice_write-indexes-2 c = simp length-set (omega arith)

stage_ring-requires : tie.Need-stage_ring-requires
stage_ring-requires c κs = (c.requires.0, simp length-set (omega (arith, c.requires.1)))

same_length : tie.Need-shape_of-indexes
same_length c = c.stage_ring.auto.indexes ∙ simp length-set

returns : tie.Need-returns
returns c =
    let at_start = c in
    staged_cons _ _ _ _ _ _ (omega arith) (staged_cons _ _ _ _ _ _ (simp length-set (omega arith))
    (let k : at_start.args.at + 1 + 1 ≡ at_start.args.at + 2 = omega arith in rw k c.stage_ring.ensures))

pub stage_first_spec : {M : Type 1} → statement M
stage_first_spec =
    tie.close
    (tie.spec (λ c. search rules) (λ c. search rules) (λ c. search rules) (λ c. search rules) slice_write-indexes-2
    (λ c. search rules) stage_ring-requires same_length returns)
