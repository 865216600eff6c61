-- Where the half holds of all there is none; else the first half-edge that is not right is the answer.
use Rattle.std.proofs.Common.{rules}
use Rattle.std.proofs.lemmas.Iterator.{first_from_Range}
use Rattle.mesh.specs.Mesh.{PairedAt}
use Rattle.mesh_check.specs.pairing.laws.Halves.{paired_first}
use Rattle.mesh_check.proofs.Found.{found_first}
use Rattle.mesh_check.proofs.pairing.check_pairs.Goals as goal

pub returns-then-all_half_paired : goal.returns-then-all_half_paired
returns-then-all_half_paired c = paired_first _ _ (c.all_half_paired.ensures c.if-all_half_paired.true)

pub returns : goal.returns
returns c =
    let tri = c.args.triangles.now in
    let he = c.args.halfedges.now in
    rw c.unwrap_or.ensures
    (found_first _ c.find.result
    (first_from_Range _ _ _ _ (λ e. PairedAt tri he e → ⊥) (λ e. PairedAt tri he e) c.find.ensures.ran (λ x q k. search rules) (λ x q k. search rules)))
