-- `cell_builder::turned::marks::mark_triangle` meets its contract.
use mathlib.Core.Path.{sym, ◌∙◌}
use Prim.Native.Nat.{◌+◌, ◌*◌}
use native.Mathlib.Omega.{arith}
use borrow.Author.Rules.{rules}
use Rattle.plane.specs.points.Flat.{points}
use Rattle.cell_builder.specs.turned.laws.Marking.{covers_in, covers_three}
use Rattle.cell_builder.proofs.turned.marks.mark_triangle.Statement.{statement}
use Rattle.cell_builder.proofs.turned.marks.mark_triangle.Tie as tie

abbrev Entry : tie.After-mark_site-arg-1 → tie.Start
Entry c = c.before.before.before.before.before.before.before

returns : tie.Need-returns-then-in_box
returns c =
    let u = c in
    let a = u.args in
    λ long cov. (
      long,
      covers_in a.bounds (points a.count a.vertices.now) a.triangles.now a.table.now a.marks.now a.t (sym u.in_box.ensures ∙ c.if-in_box.true) cov,
    )

mark_site-requires : tie.Need-mark_site-requires
mark_site-requires c κs = let s = Entry c in s.requires.0.each (3 * s.args.t) (omega (arith, s.requires.1))

mark_site-requires-2 : tie.Need-mark_site-requires-2
mark_site-requires-2 c κs = let s = Entry c.before.before.before in s.requires.0.each (3 * s.args.t + 1) (omega (arith, s.requires.1))

mark_site-requires-3 : tie.Need-mark_site-requires-3
mark_site-requires-3 c κs = let s = Entry c.before.before.before.before.before.before in s.requires.0.each (3 * s.args.t + 2) (omega (arith, s.requires.1))

returns-2 : tie.Need-returns
returns-2 c =
    let two = c in
    let one = two in
    let s = Entry one.before.before.before.before.before.before.before in
    let a = s.args in
    λ long cov. covers_three a.bounds (points a.count a.vertices.now) a.triangles.now a.table.now a.marks.now a.t s.requires.0.each s.requires.1
    one.mark_site.ensures two.mark_site-2.ensures c.mark_site-3.ensures long cov

pub mark_triangle_spec : {M : Type 1} → statement M
mark_triangle_spec =
    tie.close
    (tie.spec (λ c. search rules) (λ c κs. search rules) returns (λ c. search rules) (λ c. search rules) (λ c. search rules) mark_site-requires
    (λ c. search rules) (λ c. search rules) (λ c. search rules) (λ c. search rules) mark_site-requires-2 (λ c. search rules) (λ c. search rules)
    (λ c. search rules) (λ c. search rules) mark_site-requires-3 returns-2)
