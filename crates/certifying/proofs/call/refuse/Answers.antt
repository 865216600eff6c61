-- `certifying::call::refuse` meets its contract: the work is cleared after 16, 18 and 24.
use Rattle.certifying.specs.call.laws.Answers.{refused_cleared, refused_kept}
use Rattle.certifying.proofs.call.refuse.Goals as goal

pub returns-then-number-ge-REFUSED_TRIANGLE : goal.returns-then-number-ge-REFUSED_TRIANGLE
returns-then-number-ge-REFUSED_TRIANGLE c = refused_cleared _ _ c.from-number.ensures c.if-number-ge-REFUSED_TRIANGLE.true c.clear.ensures

pub returns-else-number-ge-REFUSED_TRIANGLE : goal.returns-else-number-ge-REFUSED_TRIANGLE
returns-else-number-ge-REFUSED_TRIANGLE c = refused_kept _ _ c.from-number.ensures c.if-number-ge-REFUSED_TRIANGLE.false
