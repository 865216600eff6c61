-- `audit::text::audit_lines` meets its contract: one line after the other.
use Rattle.std.proofs.Common.{ℕ, List, rules}
use Rattle.octets.specs.laws.Wrote.{fits_left, fits_then, wrote_then}
use Rattle.audit.specs.text.AuditLines.{verdict_line, turned_line, audit_lines}
use Rattle.audit.proofs.text.audit_lines.Statement.{statement}
use Rattle.audit.proofs.text.audit_lines.Tie as tie

abbrev before : tie.Start → List ℕ
before s = turned_line s.args.count s.args.total s.args.lowest

abbrev after : tie.Start → List ℕ
after s = verdict_line s.args.verdict s.args.missing

turned_line-requires : tie.Need-turned_line-end-requires
unfolding audit_lines
turned_line-requires c κs = let s = c in fits_left s.args.out.now 0 (before s.before.before) (after s.before.before) s.requires

verdict_line-requires : tie.Need-verdict_line-requires
unfolding audit_lines
verdict_line-requires c κs =
    let s = c in
    fits_then (before s.before.before.before.before.before.before) (after s.before.before.before.before.before.before) c.turned_line-end.ensures s.requires

returns : tie.Need-returns
unfolding audit_lines
returns c = wrote_then c.turned_line-end.ensures c.verdict_line.ensures

pub audit_lines_spec : {M : Type 1} → statement M
audit_lines_spec = tie.close (tie.spec turned_line-requires verdict_line-requires (λ c. search rules) returns)
