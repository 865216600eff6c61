-- Two half-edges that run the same way are rule 19; else the pairs stand in their slice, and rules 9 and 10 decide on the loop.
use Rattle.std.specs.Prelude.{not, replicate}
use Rattle.std.proofs.Common.{ap, ◌∙◌, arith}
use Rattle.base.specs.numbers.Numbers.{EMPTY}
use Rattle.base.specs.refusal.laws.Number.{some_number}
use Rattle.mending.specs.laws.Working.{pairs_long, pairs_paired, worked_hull, uncounted}
use Rattle.mending.proofs.work_out.Goals as goal
use borrow.Author.Tests.{not-false}

pub mend_hull-traced-requires : goal.mend_hull-traced-requires
mend_hull-traced-requires c =
    let yes = not-false _ (ap not c.if-not-pair_up.false) in (
      c.requires.named,
      pairs_long _ c.pair_up.result yes _ _ _ c.clear.ensures c.clear.auto.work c.pair_up.ensures c.requires.for_pairs,
      c.requires.few,
      omega (arith, c.pair_up.auto.heads, c.requires.for_work),
      omega (arith, c.clear-2.auto.work, c.pair_up.auto.marks, c.requires.for_hull),
      c.requires.sound,
      pairs_paired _ c.pair_up.result yes _ _ _ c.clear.ensures c.clear.auto.work c.pair_up.ensures c.requires.for_pairs,
    )

pub returns-in-Ok : goal.returns-in-Ok
returns-in-Ok c =
    worked_hull _ _ _ _ _ c.pair_up.result (not-false _ (ap not c.if-not-pair_up.false)) _ c.clear.ensures c.clear.auto.work
    c.pair_up.ensures c.requires.for_pairs _ _ c.pair_up.auto.heads
    (c.clear-2.ensures ∙ ap (λ j. replicate j EMPTY) c.pair_up.auto.marks) (c.clear-2.auto.work ∙ c.pair_up.auto.marks) c.requires.for_hull _ _
    (rw c.in-Ok.is at c.mend_hull-traced.ensures)

pub returns-in-Err : goal.returns-in-Err
returns-in-Err c =
    uncounted (worked_hull _ _ _ _ _ c.pair_up.result (not-false _ (ap not c.if-not-pair_up.false)) _ c.clear.ensures c.clear.auto.work
    c.pair_up.ensures c.requires.for_pairs _ _ c.pair_up.auto.heads
    (c.clear-2.ensures ∙ ap (λ j. replicate j EMPTY) c.pair_up.auto.marks) (c.clear-2.auto.work ∙ c.pair_up.auto.marks) c.requires.for_hull _ _
    (rw c.in-Err.is at c.mend_hull-traced.ensures)) (some_number _)
