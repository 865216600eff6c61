-- Each turn writes one triangle more, until the walk is round or the places are full.
use Rattle.std.proofs.Common.{arith, refl, subst, ◌≡◌, ◌<◌}
use Rattle.cell_memory.specs.staging.Staging.{Staged}
use Rattle.cell_builder.specs.placed.laws.Walking.{walking_in, walking_start, walking_place, walking_step, walking_back, walking_full}
use Rattle.cell_builder.proofs.placed.walk_back.Goals as goal

pub overflow_cast-indexes : goal.overflow_cast-indexes
overflow_cast-indexes c = omega (arith, (walking_in c.requires.3.1).0, c.requires.2)

pub step_back-e-requires : goal.step_back-e-requires
step_back-e-requires c = (walking_in c.requires.3.1, c.requires.2)

pub loop-n-init : goal.loop-n-init
loop-n-init c = (omega arith, walking_start _ _ _ _ _ _ refl _ _ c.step_back-e.ensures refl)

pub returns-then-e-t : goal.returns-then-e-t
returns-then-e-t c = walking_back _ _ _ _ _ _ _ _ c.loop-n.invariant.1 c.if-e-t.true

-- the half-edge that the walk stands at
pub overflow_cast-indexes-in-loop-n : goal.overflow_cast-indexes-in-loop-n
overflow_cast-indexes-in-loop-n c = omega (arith, (walking_place _ _ _ _ _ _ _ _ c.requires.3.1 c.loop-n.invariant.1 c.if-e-t.false).0, c.requires.2)

pub step_back-e-requires-in-loop-n : goal.step_back-e-requires-in-loop-n
step_back-e-requires-in-loop-n c = (walking_place _ _ _ _ _ _ _ _ c.requires.3.1 c.loop-n.invariant.1 c.if-e-t.false, c.requires.2)

pub loop-n-preserved : goal.loop-n-preserved
loop-n-preserved c = (
  omega (arith, c.loop-n.invariant.0),
  walking_step _ _ _ _ _ _ _ _ c.loop-n.invariant.1 c.if-e-t.false _ _ _ refl c.step_back-e-in-loop-n.ensures refl,
)

pub returns : goal.returns
returns c cell b =
    let room : c.args.at < c.args.end = omega (arith, b.some, b.short) in
    let e : c.loop-n.n ≡ c.args.end = omega (arith, room, c.loop-n.invariant.0, c.loop-n-test.false) in
    subst (λ n. Staged cell c.args.at c.args.indexes.now c.loop-n.indexes n) e
    (walking_full _ _ _ _ _ _ _ _ c.loop-n.invariant.1 (omega (arith, c.loop-n-test.false, c.requires.0)) cell b)
