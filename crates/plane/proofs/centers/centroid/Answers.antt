-- `plane::centers::centroid` meets its contract: each answer by the way that leads to it; rule 6 from the lowest site that breaks it.
use Rattle.std.proofs.Common.{Ok, sym, ap, ◌∙◌}
use Rattle.plane.specs.points.laws.Sites.{sites_kept, site_broken}
use Rattle.plane.specs.centers.laws.Centroid.{odd_length, no_points, too_many, broken_site, sound}
use Rattle.plane.proofs.centers.centroid.Goals as goal

pub returns-then-points-count : goal.returns-then-points-count
returns-then-points-count c = sym (odd_length _ c.if-points-count.true)

pub returns-then-count-eq0 : goal.returns-then-count-eq0
returns-then-count-eq0 c = sym (no_points _ c.if-points-count.false c.if-count-eq0.true)

pub returns-then-count-gt65536 : goal.returns-then-count-gt65536
returns-then-count-gt65536 c = sym (too_many _ c.if-points-count.false c.if-count-eq0.false c.if-count-gt65536.true)

pub returns-then-first_bad_site-count : goal.returns-then-first_bad_site-count
returns-then-first_bad_site-count c =
    sym (broken_site _ c.if-points-count.false c.if-count-eq0.false c.if-count-gt65536.false (site_broken _ c.first_bad_site.ensures c.if-first_bad_site-count.true))

pub returns : goal.returns
returns c =
    ap Ok c.centroid_of.ensures
    ∙ sym (sound _ c.if-points-count.false c.if-count-eq0.false c.if-count-gt65536.false (sites_kept _ c.first_bad_site.ensures c.if-first_bad_site-count.false))
