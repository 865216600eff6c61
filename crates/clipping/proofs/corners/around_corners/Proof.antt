-- `clipping::corners::around_corners` meets its contract: it goes by the definition's three cases, corners and vertex in the same order.
use native.Mathlib.Omega.{arith}
use mathlib.Core.Path.{sym, ◌∙◌, subst}
use Prim.Native.Nat.{ℕ, ◌<◌}
use Rattle.definition.specs.Cell.{crossing}
use Rattle.clipping.specs.corners.laws.CornerWrap.{corners_first, corners_after, corners_none}
use borrow.Author.Rules.{rules}
use Rattle.clipping.proofs.corners.around_corners.Statement.{statement}
use Rattle.clipping.proofs.corners.around_corners.Tie as tie

returns : tie.Need-returns-then-owns
returns c =
    let at-wrap = c in
    let at-if1 = at-wrap in
    let a = at-if1.args in
    let w = at-wrap.wrap-w in
    let p = c.push in (
      corners_first a.centers a.site a.f a.s a.second a.cell _ _ a.indexes.now _ _ (sym at-if1.owns.ensures ∙ at-if1.if-owns.true) w.ensures.0
          (p.ensures.0 crossing),
      λ n h k. subst (λ (x : ℕ). x < n) (sym p.ensures.1) k,
    )

wrap-requires-2 : tie.Need-wrap-requires
wrap-requires-2 c κs =
    let p = c.push-p in
    let q = p.ensures.0 crossing in
    let k = p.auto in
    (record { four = q.four; real = omega arith; room = omega arith }, omega arith)

returns-2 : tie.Need-returns-then-owns-2
returns-2 c =
    let at-then2 = c in
    let at-if1 = at-then2 in
    let a = at-if1.args in
    let p = at-then2.push-p in
    let w = c.wrap in (
      corners_after a.centers a.site a.f a.s a.second a.cell _ _ a.indexes.now _ _
          (sym at-if1.owns.ensures ∙ at-if1.if-owns.false)
          (sym at-then2.owns-2.ensures ∙ at-then2.if-owns-2.true)
          (p.ensures.0 crossing)
          w.ensures.0,
      λ n h k. w.ensures.1 n h (subst (λ (x : ℕ). x < n) (sym p.ensures.1) k),
    )

returns-3 : tie.Need-returns
returns-3 c =
    let at-push2 = c in
    let at-if1 = at-push2 in
    let a = at-if1.args in
    let p = at-push2.push-p in (
      corners_none a.centers a.site a.f a.s a.second a.cell _ a.indexes.now _
          (sym at-if1.owns.ensures ∙ at-if1.if-owns.false)
          (sym c.owns-2.ensures ∙ c.if-owns-2.false)
          (p.ensures.0 crossing),
      λ n h k. subst (λ (x : ℕ). x < n) (sym p.ensures.1) k,
    )

pub around_corners_spec : {M : Type 1} → statement M
around_corners_spec =
    tie.close
    (tie.spec (λ c κs. search rules) (λ c κs. search rules) (λ c κs. search rules) (λ c. search rules) returns
    (λ c κs. search rules) (λ c κs. search rules) wrap-requires-2 (λ c. search rules) returns-2 (λ c. search rules)
    returns-3)
