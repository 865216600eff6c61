-- `cutting_writer::site::bisector`: the lower number first.
use Prim.Native.Nat.{min, max}
use Rattle.cutting.specs.declared.corner.Carrier.TheVariants.{Bisector}
use Rattle.mesh.specs.Mesh.{start_of, end_of}
use borrow.Author.Rules.{rules}
use mathlib.Core.Path.{◌≡◌}
use native.Mathlib.Omega.{arith}
use Rattle.cutting_writer.proofs.site.bisector.Statement.{statement}
use Rattle.cutting_writer.proofs.site.bisector.Tie as tie

returns : tie.Need-returns-then-a-z
returns c =
    let a = c.args in
    let s = c.entry_at-a.ensures in
    let e : c.entry_at-z.result ≡ end_of a.triangles.now a.o = rw c.next_halfedge.ensures at c.entry_at-z.ensures in
    let x : c.entry_at-a.result ≡ min (start_of a.triangles.now a.o) (end_of a.triangles.now a.o) = omega (arith, s, e, c.if-a-z.true) in
    let y : c.entry_at-z.result ≡ max (start_of a.triangles.now a.o) (end_of a.triangles.now a.o) = omega (arith, s, e, c.if-a-z.true) in
    λ i. Bisector (x i) (y i)

returns-2 : tie.Need-returns
returns-2 c =
    let a = c.args in
    let s = c.entry_at-a.ensures in
    let e : c.entry_at-z.result ≡ end_of a.triangles.now a.o = rw c.next_halfedge.ensures at c.entry_at-z.ensures in
    let x : c.entry_at-z.result ≡ min (start_of a.triangles.now a.o) (end_of a.triangles.now a.o) = omega (arith, s, e, c.if-a-z.false) in
    let y : c.entry_at-a.result ≡ max (start_of a.triangles.now a.o) (end_of a.triangles.now a.o) = omega (arith, s, e, c.if-a-z.false) in
    λ i. Bisector (x i) (y i)

pub bisector_spec : {M : Type 1} → statement M
bisector_spec =
    tie.close
    (tie.spec (λ c κs. search rules) (λ c κs. search rules) (λ c κs. search rules) returns returns-2)
