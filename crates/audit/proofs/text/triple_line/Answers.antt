-- `audit::text::triple_line` meets its contract: the first labelled number, then the other two.
use Rattle.std.proofs.Common.{[], ◌∷◌, ◌++◌}
use Rattle.printing.specs.parts.Labelled.{entries}
use Rattle.octets.specs.laws.Wrote.{fits_left, fits_then, wrote_then}
use Rattle.printing.specs.parts.Text.{ascii}
use Rattle.audit.specs.text.AuditLines.{pair_line, triple_line}
use Rattle.audit.proofs.text.triple_line.Goals as goal

pub labelled-a-requires : goal.labelled-a-requires
unfolding triple_line
labelled-a-requires c =
    fits_left c.args.out.now c.args.at ((c.args.first.now ++ entries (c.args.l ∷ []))) ((pair_line c.args.second.now c.args.m c.args.third.now c.args.n (ascii "\n"))) c.requires

pub pair_line-requires : goal.pair_line-requires
unfolding triple_line
pair_line-requires c =
    fits_then ((c.args.first.now ++ entries (c.args.l ∷ []))) ((pair_line c.args.second.now c.args.m c.args.third.now c.args.n (ascii "\n"))) c.labelled-a.ensures c.requires

pub returns : goal.returns
unfolding triple_line
returns c = wrote_then c.labelled-a.ensures c.pair_line.ensures
