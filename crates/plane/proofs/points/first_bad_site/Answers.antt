-- `plane::points::first_bad_site` meets its contract: it stops at the first site that breaks rule 6.
use Rattle.std.proofs.Common.{not, ap, arith, below_more}
use Rattle.plane.specs.points.laws.Sites.{kept_if, broken_if}
use Rattle.plane.proofs.points.first_bad_site.Goals as goal

pub returns-then-not-site_ok : goal.returns-then-not-site_ok
returns-then-not-site_ok c =
    record {
      within = omega arith;
      before = c.loop-i.invariant;
      at = λ _. broken_if c.point_at.ensures c.site_ok.ensures (ap not c.if-not-site_ok.true);
    }

pub loop-i-preserved : goal.loop-i-preserved
loop-i-preserved c = below_more _ _ c.loop-i.invariant (kept_if c.point_at.ensures c.site_ok.ensures (ap not c.if-not-site_ok.false))

pub returns : goal.returns
returns c = record { within = omega arith; before = λ k h. c.loop-i.invariant k (omega arith); at = λ h. absurd (omega arith) }
