-- `certifying::tree::write_node` meets its contract.
use lib.ListN.{length-set}
use borrow.Author.Rules.{rules}
use native.Mathlib.Omega.{arith}
use Rattle.certifying.proofs.tree.write_node.Statement.{statement}
use Rattle.certifying.proofs.tree.write_node.Tie as tie

slice_write-room-2 : tie.Need-bounds-room-at-2
slice_write-room-2 c =
    simp length-set (omega arith)

slice_write-room-3 : tie.Need-bounds-room-at-3
slice_write-room-3 c =
    simp length-set (omega arith)

pub write_node_spec : {M : Type 1} → statement M
write_node_spec =
    tie.close (tie.spec (λ c. search rules) (λ c. search rules) (λ c. search rules) (λ c. search rules)
    slice_write-room-2 (λ c. search rules) (λ c. search rules) slice_write-room-3 (λ c. search rules) (λ c. search rules)
    (λ c. search rules) (λ c. search rules) (λ c. search rules))
