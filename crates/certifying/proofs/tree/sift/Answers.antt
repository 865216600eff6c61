-- `certifying::tree::sift` meets its contract: what was passed is off the window or listed.
use Rattle.std.proofs.Common.{◌∙◌, ◌<◌, ◌/◌, length, arith, length-set}
use Rattle.certifying.specs.tree.laws.Search.{site_out, sift_more, sift_to}
use Rattle.certifying.proofs.tree.sift.Goals as goal

pub loop-j-preserved : goal.loop-j-preserved
loop-j-preserved c =
    let here : c.loop-j.j < length c.args.sites.now / 2 = omega (arith, c.loop-j-test.true, c.requires.3) in (
      sift_more _ c.loop-j.invariant.0 (omega (arith, c.loop-j.invariant.0.few, c.loop-j.invariant.1, c.loop-j-test.true, c.requires.4, c.requires.5))
          here c.narrow.ensures
          (site_out c.requires.1 c.requires.0.order c.requires.2 c.loop-j.j here c.wide.ensures c.point_at-o.ensures c.is_off.ensures)
          (λ e. rw e at c.from-count.ensures) (λ e. rw e at c.from-count.ensures),
      length-set c.loop-j.list c.loop-j.count c.narrow.result ∙ c.loop-j.invariant.1,
    )

pub returns : goal.returns
returns c = (sift_to c.loop-j.invariant.0 (omega (arith, c.loop-j.auto.j-end, c.requires.6)) c.loop-j-test.false, c.loop-j.invariant.1)
