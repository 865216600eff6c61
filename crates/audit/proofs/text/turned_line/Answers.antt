-- `audit::text::turned_line` meets its contract: no line where none is turned.
use Rattle.std.proofs.Common.{eq-eqb, ne_eqb}
use Rattle.octets.specs.laws.Wrote.{wrote_none}
use Rattle.audit.specs.text.AuditLines.{turned_line}
use Rattle.audit.proofs.text.turned_line.Goals as goal

pub returns-then-count-eq0 : goal.returns-then-count-eq0
unfolding turned_line
returns-then-count-eq0 c = rw (eq-eqb _ _ c.if-count-eq0.true) (wrote_none _ _)

pub triple_line-requires : goal.triple_line-requires
unfolding turned_line
triple_line-requires c =
    rw (ne_eqb _ _ c.if-count-eq0.false) at c.requires

pub returns : goal.returns
unfolding turned_line
returns c = rw (ne_eqb _ _ c.if-count-eq0.false) c.triple_line.ensures
