-- The first triangle that is not sound is the answer.
use Rattle.std.proofs.Common.{rules}
use Rattle.std.proofs.lemmas.Iterator.{first_from_Range}
use Rattle.mesh.specs.Mesh.{SoundAt}
use Rattle.mesh_check.proofs.Found.{found_first}
use Rattle.mesh_check.proofs.pairing.check_triangles.Goals as goal

pub returns : goal.returns
returns c =
    let tri = c.args.triangles.now in
    let n = c.args.sites in
    rw c.unwrap_or.ensures
    (found_first _ c.find.result
    (first_from_Range _ _ _ _ (λ t. SoundAt tri n t → ⊥) (λ t. SoundAt tri n t) c.find.ensures.ran (λ x q k. search rules) (λ x q k. search rules)))
