-- `test_replay::mesh` meets its contract: the four lists as they were read, each where the one before it ends.
use borrow.Author.Rules.{rules}
use Rattle.test_replay.specs.laws.Tallied.{replayed_mesh}
use Rattle.test_replay.proofs.mesh.Statement.{statement}
use Rattle.test_replay.proofs.mesh.Tie as tie

returns : tie.Need-returns
returns c =
    let k = c in
    let hull = k in
    let edges = hull in
    let three = edges in
    let sites = three in
    let border = sites in
    let a = border.args in
    replayed_mesh a.b.now a.sites.now a.triangles.now a.halfedges.now a.hull.now _
    border.after-from.result border.after-pairs.result border.after-border.result k.after.result
    border.after-from.ensures border.after-pairs.ensures border.after-border.ensures k.after.ensures
    sites.load_floats.ensures three.load.ensures edges.load-2.ensures hull.load-3.ensures c.replay.ensures

pub mesh_spec : {M : Type 1} → statement M
mesh_spec =
    tie.close
    (tie.spec (λ c. search rules) (λ c κs. search rules) (λ c κs. search rules) (λ c κs. search rules) (λ c κs. search rules)
    (λ c κs. search rules) (λ c κs. search rules) (λ c κs. search rules) (λ c κs. search rules) (λ c κs. search rules)
    (λ c. search rules) (λ c. search rules) (λ c. search rules) (λ c. search rules) returns)
