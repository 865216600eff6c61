-- `form::fill` meets its contract: each stage's store is the definition's, and the state's limits keep its place within the list.
use mathlib.Core.Path.{ap, ◌∙◌}
use Prim.Native.Nat.{◌+◌, ◌-◌, ◌*◌}
use native.Mathlib.Omega.{arith}
use lib.Dec.{ltb}
use Rattle.base.specs.common.Pick.{pick}
use Rattle.form.specs.step.Register.{shift}
use Rattle.form.specs.step.Reader.{reading, put_float, put_link}
use Rattle.form.specs.step.laws.Standing.{few_counts, in_box_lem, in_site, in_triangle, in_hull}
use Rattle.form.specs.laws.Fill.{fill_box, fill_site, fill_triangle, fill_hull, fill_none}
use borrow.Author.Rules.{rules}
use Rattle.form.proofs.fill.Statement.{statement}
use Rattle.form.proofs.fill.Tie as tie

abbrev begin : tie.After-shifted-word → tie.Start
begin c = c.before.before.before.before.before.before.before

abbrev Shifted : tie.Else-r-eq2 → tie.After-shifted-word
Shifted c = c.before.before.before.before

put_float-requires : tie.Need-put_float-requires
put_float-requires c κs = let s = begin c.before.before.before in omega (arith, in_box_lem s.requires.0 c.if-r-eq1.true, s.requires.3)

returns : tie.Need-returns-then-r-eq1
returns c = let w = c in
    let s = begin w.before.before.before.before.before.before in
    let a = s.args in
    ap (λ l. reading a.r l a.sites.now a.triangles.now a.halfedges.now a.hull.now)
    (c.put_float.ensures ∙ ap (λ v. put_float a.bounds.now 3 (a.r.left - 1) v) w.shifted-word.ensures)
    ∙ fill_box a.r a.b a.bounds.now a.sites.now a.triangles.now a.halfedges.now a.hull.now s.requires.1 s.requires.2 c.if-r-eq1.true

put_float-requires-2 : tie.Need-put_float-requires-then-r-eq2
put_float-requires-2 c κs = let s = begin c.before.before.before.before.before.before in omega (arith, in_site s.requires.0 c.if-r-eq2.true s.requires.2, s.requires.3)

returns-2 : tie.Need-returns-then-r-eq2
returns-2 c =
    let t = c in
    let w = t in
    let s = begin w.before.before.before.before.before.before.before.before.before in
    let a = s.args in
    ap (λ l. reading a.r a.bounds.now l a.triangles.now a.halfedges.now a.hull.now)
    (c.put_float-then-r-eq2.ensures ∙ ap (λ v. put_float a.sites.now (2 * a.r.sites + 1) (a.r.left - 1) v) w.shifted-word.ensures)
    ∙ fill_site a.r a.b a.bounds.now a.sites.now a.triangles.now a.halfedges.now a.hull.now s.requires.1 s.requires.2 t.if-r-eq2.true

put_triangle-requires : tie.Need-put_triangle-requires
put_triangle-requires c κs =
    let s = begin (Shifted c.before.before.before.before.before) in omega (arith, in_triangle s.requires.0 c.if-r-eq3.true s.requires.2, s.requires.3)

returns-3 : tie.Need-returns-then-r-eq3
returns-3 c =
    let p = c in
    let t = p in
    let w = Shifted t.before.before.before.before.before.before.before.before.before.before in
    let s = begin w in
    let a = s.args in
    let e = p.put_triangle.ensures in
    ap (λ l. reading a.r a.bounds.now a.sites.now l p.put_triangle.new.halfedges a.hull.now)
    (e.0 ∙ ap (λ v. pick (ltb (a.r.left - 1) 12) (λ _. a.triangles.now) (λ _. put_link a.triangles.now (3 * a.r.triangles + 2) (a.r.left - 1 - 12) v)) w.shifted-word.ensures)
    ∙ ap (λ l. reading a.r a.bounds.now a.sites.now
    (pick (ltb (a.r.left - 1) 12) (λ _. a.triangles.now) (λ _. put_link a.triangles.now (3 * a.r.triangles + 2) (a.r.left - 1 - 12) (shift a.r.word a.b))) l a.hull.now)
    (e.1 ∙ ap (λ v. pick (ltb (a.r.left - 1) 12) (λ _. put_link a.halfedges.now (3 * a.r.triangles + 2) (a.r.left - 1) v) (λ _. a.halfedges.now)) w.shifted-word.ensures)
    ∙ fill_triangle a.r a.b a.bounds.now a.sites.now a.triangles.now a.halfedges.now a.hull.now s.requires.1 s.requires.2 t.if-r-eq3.true

put_link-requires : tie.Need-put_link-requires
put_link-requires c κs = let s = begin (Shifted c.before.before.before.before.before) in omega (arith, in_hull s.requires.0 c.if-r-eq4.true s.requires.2, s.requires.3)

returns-4 : tie.Need-returns-then-r-eq4
returns-4 c = let t = c in
    let w = Shifted t.before.before.before.before.before.before.before.before in
    let s = begin w in
    let a = s.args in
    ap (λ l. reading a.r a.bounds.now a.sites.now a.triangles.now a.halfedges.now l)
    (c.put_link.ensures ∙ ap (λ v. put_link a.hull.now a.r.hull (a.r.left - 1) v) w.shifted-word.ensures)
    ∙ fill_hull a.r a.b a.bounds.now a.sites.now a.triangles.now a.halfedges.now a.hull.now s.requires.1 s.requires.2 t.if-r-eq4.true

returns-5 : tie.Need-returns-else-r-eq4
returns-5 c =
    let e = c in
    let s = begin (Shifted e.before.before.before.before) in
    let a = s.args in
    fill_none a.r a.b a.bounds.now a.sites.now a.triangles.now a.halfedges.now a.hull.now s.requires.1 s.requires.2
    e.if-r-eq1.false e.if-r-eq2.false c.if-r-eq3.false c.if-r-eq4.false

pub fill_spec : {M : Type 1} → statement M
fill_spec =
    tie.close
    (tie.spec (λ c. search rules) (λ c κs. search rules) put_float-requires (λ c. search rules) returns
    (λ c. search rules) (λ c. search rules) put_float-requires-2 (λ c. search rules) returns-2
    (λ c. let n = few_counts (begin (Shifted c.before.before.before.before.before)).requires.0 in omega arith)
    (λ c. let n = few_counts (begin (Shifted c.before.before.before.before.before)).requires.0 in omega arith)
    put_triangle-requires (λ c. search rules) (λ c. search rules) returns-3 put_link-requires
    (λ c. search rules) returns-4 returns-5)
