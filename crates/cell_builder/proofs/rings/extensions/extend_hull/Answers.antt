-- An extension that is not finite ends it, another is added and carries it one place further.
use Rattle.std.specs.Prelude.{not}
use Rattle.std.proofs.Common.{arith, refl, ap, sym, ◌∙◌}
use borrow.Author.Tests.{not-true, not-false}
use Rattle.cell_builder.specs.rings.laws.Extensions.{extending_start, extending_bad, extending_step, extending_end, turn_ahead}
use Rattle.cell_builder.proofs.rings.extensions.extend_hull.Goals as goal

pub loop-i-init : goal.loop-i-init
loop-i-init c = (extending_start _ _ _ _ _ _ _ _ _ _ c.requires.holds, λ k o. absurd (omega arith))

pub returns-then-not-finite_point : goal.returns-then-not-finite_point
returns-then-not-finite_point c =
    extending_bad _ _ _ _ _ _ _ _ _ _ _ _ _ _ _ c.loop-i.invariant.0 c.loop-i-test.true _
    c.points_from.ensures.first (sym c.finite_point.ensures ∙ not-true _ (ap not c.if-not-finite_point.true)) _ refl _ _

pub loop-i-preserved : goal.loop-i-preserved
loop-i-preserved c =
    let added = c.add_at-r in (
      extending_step _ _ _ _ _ _ _ _ _ _ _ _ _ _ _ c.loop-i.invariant.0 c.loop-i-test.true _
          c.points_from.ensures.first (sym c.finite_point.ensures ∙ not-false _ (ap not c.if-not-finite_point.false))
          c.requires added.result added.new.vertices added.new.indexes added.auto.vertices added.auto.indexes
          added.ensures.placed added.ensures.slices _ _ refl c.count_old-old.ensures,
      turn_ahead _ _ _ _ _ _ _ _ _ _ c.requires _ _ _ _ _ c.loop-i.invariant.0 c.loop-i-test.true _ _
          c.points_from.ensures added.new.vertices _ added.ensures.slices.verts added.ensures.placed.low,
    )

pub returns : goal.returns
returns c = extending_end _ _ _ _ _ _ _ _ _ _ _ _ _ _ _ c.loop-i.invariant.0 (omega arith) _ (omega arith) refl refl
