-- `audit::text::number_line` meets its contract: the labelled number, then the rest.
use Rattle.std.proofs.Common.{ℕ, List, [], ◌∷◌, ◌++◌, rules}
use Rattle.printing.specs.parts.Labelled.{entries}
use Rattle.octets.specs.laws.Wrote.{fits_left, fits_then, wrote_then}
use Rattle.audit.specs.text.AuditLines.{labelled_line}
use Rattle.audit.proofs.text.number_line.Statement.{statement}
use Rattle.audit.proofs.text.number_line.Tie as tie

abbrev before : tie.Start → List ℕ
before s = s.args.label.now ++ entries (s.args.n ∷ [])

abbrev after : tie.Start → List ℕ
after s = s.args.end.now

labelled-requires : tie.Need-labelled-a-requires
unfolding labelled_line
labelled-requires c κs = let s = c in fits_left s.args.out.now s.args.at (before s.before.before.before.before) (after s.before.before.before.before) s.requires

put-requires : tie.Need-put-requires
unfolding labelled_line
put-requires c κs =
    let at_first = c in
    let s = at_first in
    fits_then (before s.before.before.before.before.before.before.before.before) (after s.before.before.before.before.before.before.before.before) at_first.labelled-a.ensures s.requires

returns : tie.Need-returns
unfolding labelled_line
returns c =
    let at_second = c in
    wrote_then at_second.labelled-a.ensures at_second.put.ensures

pub number_line_spec : {M : Type 1} → statement M
number_line_spec = tie.close (tie.spec labelled-requires put-requires (λ c. search rules) returns)
