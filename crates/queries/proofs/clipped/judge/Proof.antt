-- Each answer follows the tests that led to it.
use mathlib.Core.Path.{refl, ◌∙◌}
use Rattle.queries.specs.clipped.laws.ClippedCursor.{judge_last, judge_later, judge_inner, judge_first}
use borrow.Author.Rules.{rules}
use Rattle.queries.proofs.clipped.judge.Statement.{statement}
use Rattle.queries.proofs.clipped.judge.Tie as tie

returns : tie.Need-returns-then-halfedges-at
returns c = c.if_shared.ensures ∙ judge_last _ _ _ _ _ _ c.wide-at.ensures refl c.if-halfedges-at.true

returns-2 : tie.Need-returns-then-wide-halfedges
returns-2 c = judge_later _ _ _ _ _ _ c.wide-at.ensures c.wide.ensures c.if-halfedges-at.false c.if-wide-halfedges.true

returns-3 : tie.Need-returns-then-halfedges-at-2
returns-3 c =
    let at_wide = c in
    judge_inner _ _ _ _ _ _ at_wide.wide-at.ensures c.wide.ensures c.if-halfedges-at.false c.if-wide-halfedges.false c.if-halfedges-at-2.true

returns-4 : tie.Need-returns
returns-4 c =
    let at-if1 = c in
    let at_wide = at-if1 in
    c.if_shared-2.ensures ∙ judge_first _ _ _ _ _ _ at_wide.wide-at.ensures c.wide.ensures at-if1.if-halfedges-at.false
    c.if-wide-halfedges.false c.if-halfedges-at-2.false

pub judge_spec : {M : Type 1} → statement M
judge_spec =
    tie.close
    (tie.spec (λ c κs. search rules) (λ c κs. search rules) returns (λ c κs. search rules) returns-2
    (λ c. search rules) (λ c. search rules) returns-3 (λ c κs. search rules) returns-4)
