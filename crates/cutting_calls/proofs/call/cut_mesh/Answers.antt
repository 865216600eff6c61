-- 11, or what comes of the circumcenters.
use Rattle.std.specs.Prelude.{ℕ, []}
use Rattle.std.proofs.Common.{refl, sym, ap, ◌∙◌, arith}
use Rattle.base.specs.common.Binary64.{zero}
use Rattle.cell_memory.specs.layout.Cleared.{padded}
use Rattle.cutting_calls.specs.call.Promise.{centers_of}
use Rattle.cutting_calls.specs.call.laws.Steps.{refused_number, centered_asks, centered_made}
use Rattle.cutting_calls.proofs.call.cut_mesh.Goals as goal

pub calculate_circumcenters-t-requires : goal.calculate_circumcenters-t-requires
calculate_circumcenters-t-requires c = (c.requires.named, c.requires.room)

pub returns-then-t-triangles : goal.returns-then-t-triangles
returns-then-t-triangles c =
    let a = c.args in
    let t = c.calculate_circumcenters-t in
    let k = c.clear_all.ensures in
    record {
      number = sym (refused_number a.b a.sites.now a.triangles.now a.halfedges.now a.hull.now a.table.now a.vertices.now a.indexes.now
          a.offsets.now t.result t.new.vertices (centers_of a.sites.now a.triangles.now) t.ensures c.if-t-triangles.true);
      made = λ z. absurd (omega (arith, z));
      late = λ z. omega arith;
      none = λ z. record { none = refl; vertices = k.0 ∙ ap (λ (n : ℕ). padded n zero []) t.auto.vertices; indexes = k.1; offsets = k.2 };
    }

pub cut_centered-requires : goal.cut_centered-requires
cut_centered-requires c =
    let a = c.args in
    let t = c.calculate_circumcenters-t in
    centered_asks a.b a.sites.now a.triangles.now a.halfedges.now a.hull.now a.table.now a.vertices.now a.indexes.now a.offsets.now
    t.result t.new.vertices (centers_of a.sites.now a.triangles.now) refl t.ensures (omega (arith, c.if-t-triangles.false)) t.auto.vertices c.requires

pub returns : goal.returns
returns c =
    let a = c.args in
    let t = c.calculate_circumcenters-t in
    centered_made a.b a.sites.now a.triangles.now a.halfedges.now a.hull.now a.table.now a.vertices.now a.indexes.now a.offsets.now
    t.result t.new.vertices (centers_of a.sites.now a.triangles.now) t.ensures (omega (arith, c.if-t-triangles.false)) t.auto.vertices c.cut_centered.ensures
