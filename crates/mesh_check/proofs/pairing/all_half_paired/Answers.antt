-- The half holds of the three half-edges of each triangle, so of all half-edges.
use Rattle.std.proofs.Common.{refl, length, arith, rules}
use Rattle.std.proofs.lemmas.Iterator.{cases_from_all, YieldsList-from_range}
use Rattle.mesh_check.specs.pairing.Half.{HalfPairedAt, HalvesPairedAt}
use Rattle.mesh_check.specs.pairing.laws.Halves.{halves_paired}
use Rattle.mesh_check.specs.pairing.laws.Threes.{by_threes}
use Rattle.mesh_check.proofs.Found.{all_below}
use Rattle.mesh_check.proofs.pairing.all_half_paired.Goals as goal

pub returns : goal.returns
returns c =
    let tri = c.args.triangles.now in
    let he = c.args.halfedges.now in
    let m = cases_from_all _ _ _ (λ t. HalvesPairedAt tri he t) (λ _. Unit {0}) c.all.ensures.ran (YieldsList-from_range 0 _ _ refl refl) (λ x q k. search rules) (λ x q k. tt) in
    λ t. halves_paired tri he c.requires.1 (omega arith)
    (by_threes (HalfPairedAt tri he) (length tri) c.requires.0 (λ k l. all_below (λ j. HalvesPairedAt tri he j) _ _ _ m t k (omega arith)))
