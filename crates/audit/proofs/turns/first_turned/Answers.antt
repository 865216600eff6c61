-- `audit::turns::first_turned` meets its contract: no triangle that was passed is turned.
use Rattle.std.proofs.Common.{subst, ◌≡◌, ◌/◌, length, arith}
use Rattle.ring_area.specs.lowest.laws.Loops.{passed_start, passed_step, passed_found, passed_end}
use Rattle.ring_area.specs.lowest.Lowest.{lowest}
use Rattle.audit.specs.turns.Turned.{turned_at}
use Rattle.audit.proofs.turns.first_turned.Goals as goal

pub loop-t-init : goal.loop-t-init
loop-t-init c = passed_start _ _

pub is_turned-requires : goal.is_turned-requires
is_turned-requires c = (c.requires, c.loop-t-test.true)

pub returns-then-is_turned : goal.returns-then-is_turned
returns-then-is_turned c = let l = c in passed_found l.loop-t.invariant c.loop-t-test.true c.is_turned.ensures c.if-is_turned.true

pub loop-t-preserved : goal.loop-t-preserved
loop-t-preserved c = let l = c in passed_step l.loop-t.invariant c.loop-t-test.true c.is_turned.ensures c.if-is_turned.false

pub returns : goal.returns
returns c =
    let h : c.loop-t.t ≡ length c.args.triangles.now / 3 = omega arith in
    subst (λ n. n ≡ lowest (turned_at c.args.sites.now c.args.triangles.now) (length c.args.triangles.now / 3)) h (passed_end c.loop-t.invariant c.loop-t-test.false)
