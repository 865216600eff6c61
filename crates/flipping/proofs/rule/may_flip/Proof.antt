-- Each test in turn; an answer is rule 23's by the laws of the tests.
use mathlib.Core.Path.{ap}
use mathlib.Core.Bool.{not}
use borrow.Author.Rules.{rules}
use Rattle.base.specs.common.laws.Decide.{refused, granted}
use Rattle.flipping.specs.rule.laws.Tests.{far, alone, together, linked, by_table}
use Rattle.flipping.proofs.rule.may_flip.Statement.{statement}
use Rattle.flipping.proofs.rule.may_flip.Tie as tie

abbrev Start : tie.After-opposite-x → tie.Start
Start c = c.before.before.before.before.before.before.before.before.before.before

returns : tie.Need-returns-then-halfedges-a
returns c =
    let s = c in
    far s.args.triangles.now s.args.halfedges.now s.args.table.now s.args.work.now s.args.sites s.args.a c.if-halfedges-a.true

returns-2 : tie.Need-returns-then-halfedges-a-2
returns-2 c =
    let s = c in
    alone s.args.triangles.now s.args.halfedges.now s.args.table.now s.args.work.now s.args.sites s.args.a c.if-halfedges-a-2.true

opposite-requires-2 : tie.Need-opposite-y-requires
opposite-requires-2 c κs = (
  (Start c).requires.threes,
  (Start c).requires.small,
  rw c.wide-b.ensures ((Start c).requires.inside (Start c).args.a c.if-halfedges-a.false
      c.if-halfedges-a-2.false),
)

returns-3 : tie.Need-returns-then-x-y
returns-3 c =
    let s = Start c.before.before in
    together s.args.triangles.now s.args.halfedges.now s.args.table.now s.args.work.now s.args.sites s.args.a _ _ _
    c.wide-b.ensures c.opposite-x.ensures c.opposite-y.ensures c.if-x-y.true

returns-4 : tie.Need-returns-then-joined
returns-4 c =
    let at-opposite = c in
    linked (Start at-opposite.before.before.before.before).args.triangles.now (Start at-opposite.before.before.before.before).args.halfedges.now (Start at-opposite.before.before.before.before).args.table.now (Start at-opposite.before.before.before.before).args.work.now
    (Start at-opposite.before.before.before.before).args.sites (Start at-opposite.before.before.before.before).args.a _ _ _
    at-opposite.wide-b.ensures at-opposite.opposite-x.ensures c.opposite-y.ensures
    (granted c.joined.result (ap not c.if-joined.true) c.joined.ensures)

returns-5 : tie.Need-returns
returns-5 c =
    let at_joined = c in
    let at-opposite = at_joined in
    by_table (Start at-opposite.before.before.before.before.before).args.triangles.now (Start at-opposite.before.before.before.before.before).args.halfedges.now (Start at-opposite.before.before.before.before.before).args.table.now (Start at-opposite.before.before.before.before.before).args.work.now
    (Start at-opposite.before.before.before.before.before).args.sites (Start at-opposite.before.before.before.before.before).args.a _ _ _
    at-opposite.wide-b.ensures at-opposite.opposite-x.ensures at_joined.opposite-y.ensures (Start at-opposite.before.before.before.before.before).requires
    at-opposite.if-halfedges-a.false at-opposite.if-halfedges-a-2.false at_joined.if-x-y.false
    (refused at_joined.joined.result (ap not c.if-joined.false) at_joined.joined.ensures) c.same_first.result c.same_first.ensures

pub may_flip_spec : {M : Type 1} → statement M
may_flip_spec =
    tie.close
    (tie.spec returns (λ c. search rules) (λ c. search rules) returns-2 (λ c. search rules) (λ c. search rules)
    (λ c κs. search rules) (λ c κs. search rules) opposite-requires-2 returns-3 (λ c κs. search rules) returns-4
    (λ c κs. search rules) returns-5)
