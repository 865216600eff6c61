-- `audit::text::pair_line` meets its contract: the first labelled number, then the second.
use Rattle.std.proofs.Common.{ℕ, List, [], ◌∷◌, ◌++◌, rules}
use Rattle.printing.specs.parts.Labelled.{entries}
use Rattle.octets.specs.laws.Wrote.{fits_left, fits_then, wrote_then}
use Rattle.audit.specs.text.AuditLines.{labelled_line, pair_line}
use Rattle.audit.proofs.text.pair_line.Statement.{statement}
use Rattle.audit.proofs.text.pair_line.Tie as tie

abbrev before : tie.Start → List ℕ
before s = s.args.first.now ++ entries (s.args.m ∷ [])

abbrev after : tie.Start → List ℕ
after s = labelled_line s.args.second.now s.args.n s.args.end.now

labelled-requires : tie.Need-labelled-a-requires
unfolding pair_line
labelled-requires c κs =
    let s = c in
    fits_left s.args.out.now s.args.at (before s.before.before.before.before.before) (after s.before.before.before.before.before) s.requires

number_line-requires : tie.Need-number_line-requires
unfolding pair_line
number_line-requires c κs =
    let at_first = c in
    let s = at_first in
    fits_then (before s.before.before.before.before.before.before.before.before.before) (after s.before.before.before.before.before.before.before.before.before) at_first.labelled-a.ensures s.requires

returns : tie.Need-returns
unfolding pair_line
returns c = wrote_then c.labelled-a.ensures c.number_line.ensures

pub pair_line_spec : {M : Type 1} → statement M
pair_line_spec = tie.close (tie.spec labelled-requires number_line-requires (λ c. search rules) returns)
