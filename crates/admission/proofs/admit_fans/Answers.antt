-- Known to hold, or found to hold, the slices are as they were; else all are cleared.
use Rattle.mesh.specs.laws.Facts.{paired, entry_site}
use Rattle.admission.specs.laws.Fans.{fans_known, fans_hold, fans_broken}
use Rattle.admission.proofs.admit_fans.Goals as goal

pub returns-then-whole : goal.returns-then-whole
returns-then-whole c = fans_known c.requires.0 (c.requires.1 c.if-whole.true)

pub check_fan-requires : goal.check_fan-requires
check_fan-requires c = let t = c.requires.0 in (t.outline.same, paired t.outline, t.room, entry_site t.outline, t.outline.sound)

pub returns-then-sites-check_fan : goal.returns-then-sites-check_fan
returns-then-sites-check_fan c = fans_hold c.requires.0 c.check_fan.ensures c.if-sites-check_fan.true

pub returns : goal.returns
returns c =
    let q = c.clear_all.ensures in
    fans_broken c.requires.0 c.check_fan.ensures c.if-sites-check_fan.false c.check_fan.auto.work c.clear.ensures q.0 q.1 q.2 c.clear-2.ensures
