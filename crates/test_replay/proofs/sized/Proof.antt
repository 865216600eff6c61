-- `test_replay::sized` meets its contract: the lengths lie within the arrays, and what is lent of them is as long.
use mathlib.Core.Path.{sym}
use native.Mathlib.Omega.{arith}
use lib.ListN.{length-take}
use lib.Seq.{length-take-le}
use borrow.Author.Rules.{rules}
use Rattle.test_replay.specs.laws.Tallied.{replayed_as}
use Rattle.test_replay.proofs.sized.Statement.{statement}
use Rattle.test_replay.proofs.sized.Tie as tie

slice_aggregate-mesh : tie.Need-slice_bounds-mesh-end
slice_aggregate-mesh c = sym (length-take-le _ _ (omega arith))

slice_aggregate-mesh-2 : tie.Need-slice_bounds-mesh-end-2
slice_aggregate-mesh-2 c = sym (length-take-le _ _ (omega arith))

slice_aggregate-mesh-3 : tie.Need-slice_bounds-mesh-end-3
slice_aggregate-mesh-3 c = sym (length-take-le _ _ (omega arith))

slice_aggregate-mesh-4 : tie.Need-slice_bounds-mesh-end-4
slice_aggregate-mesh-4 c = sym (length-take-le _ _ (omega arith))

mesh-requires : tie.Need-mesh-requires
mesh-requires c κs = simp length-take (omega arith)

returns : tie.Need-returns
returns c =
    replayed_as c.mesh.ensures (length-take-le _ _ (omega arith)) (length-take-le _ _ (omega arith))
    (length-take-le _ _ (omega arith)) (length-take-le _ _ (omega arith))

pub sized_spec : {M : Type 1} → statement M
sized_spec =
    tie.close
    (tie.spec (λ c. search rules) slice_aggregate-mesh (λ c. search rules) slice_aggregate-mesh-2 (λ c. search rules)
    slice_aggregate-mesh-3 (λ c. search rules) slice_aggregate-mesh-4 mesh-requires returns)
