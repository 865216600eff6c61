-- `form::mesh::read`: the form was read, and its answer tells what its bytes are.
use Rattle.std.proofs.Common.{arith}
use Rattle.form.specs.step.Holds.{ListRoom}
use Rattle.form.specs.laws.Lists.{bytes}
use Rattle.form.specs.mesh.laws.Read.{mesh_read, refused_at}
use Rattle.form.proofs.mesh.read.Goals as goal

pub returns : goal.returns
returns c =
    let q = c.requires in
    let room : ListRoom _ c.args.sites.now c.args.triangles.now c.args.halfedges.now c.args.hull.now =
    record { bounds = omega arith; sites = q.sites; triangles = q.triangles; halfedges = q.halfedges; hull = q.hull } in
    let h = bytes c.args.bytes.now (λ i. omega (arith, c.type_inv.bytes i)) in
    rw c.mesh_parts.ensures (mesh_read c.read-form.ensures h room, refused_at c.read-form.ensures h room)
