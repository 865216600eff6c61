-- `form::take` meets its contract: after a refusal and for a kind the lists stay; a body's byte is `fill` and `inside`.
use Rattle.form.specs.laws.Fill.{take_inside, take_broken, take_outside}
use native.Mathlib.Nat.{pos_of_ne-zero}
use mathlib.Core.Path.{ap, ◌∙◌}
use borrow.Author.Tests.{ne_eqb, eq-eqb}
use Rattle.form.specs.step.Reader.{reading}
use borrow.Author.Rules.{rules}
use Rattle.form.proofs.take.Statement.{statement}
use Rattle.form.proofs.take.Tie as tie

abbrev Start : tie.Else-r-eq0 → tie.Start
Start c = c.before.before.before.before.before.before.before.before.before

abbrev Filled : tie.After-slice_known-10-1 → tie.After-fill
Filled c = c.before.before.before.before.before.before.before.before.before.before

returns : tie.Need-returns-then-r-ne0
returns c =
    let a = c.args in
    take_broken a.r a.b a.bounds.now a.sites.now a.triangles.now a.halfedges.now a.hull.now (rw (ne_eqb _ _ c.if-r-ne0.true))

returns-2 : tie.Need-returns-then-r-eq0
returns-2 c =
    let e = c in
    let a = e.args in
    ap (λ n. reading n a.bounds.now a.sites.now a.triangles.now a.halfedges.now a.hull.now) c.outside.ensures
    ∙ take_outside a.r a.b a.bounds.now a.sites.now a.triangles.now a.halfedges.now a.hull.now
    (rw (eq-eqb _ _ e.if-r-ne0.false)) c.if-r-eq0.true

fill-requires : tie.Need-fill-requires
fill-requires c κs =
    let e = c in
    ((Start e.before.before.before.before.before).requires.0, rw (eq-eqb _ _ e.if-r-ne0.false), pos_of_ne-zero e.if-r-eq0.false, (Start e.before.before.before.before.before).requires.1)

inside-requires : tie.Need-inside-requires
inside-requires c κs = let e = Filled c in ((Start e.before.before.before.before.before.before).requires.0, pos_of_ne-zero e.if-r-eq0.false)

returns-3 : tie.Need-returns
returns-3 c =
    let f = Filled c.before in
    let e = f in
    let a = (Start e.before.before.before.before.before.before).args in
    take_inside a.r a.b a.bounds.now a.sites.now a.triangles.now a.halfedges.now a.hull.now _ _ _ _ _ _
    (rw (eq-eqb _ _ e.if-r-ne0.false)) (pos_of_ne-zero e.if-r-eq0.false) c.inside.ensures
    f.fill.ensures

pub take_spec : {M : Type 1} → statement M
take_spec =
    tie.close
    (tie.spec returns (λ c κs. search rules) returns-2 fill-requires inside-requires (λ c. search rules)
    (λ c. search rules) (λ c. search rules) (λ c. search rules) (λ c. search rules) returns-3)
