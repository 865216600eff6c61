-- `audit::text::pointed` meets its contract: the whole part, then the nine digits.
use Rattle.std.proofs.Common.{◌/◌, ◌%◌, arith, rules}
use Rattle.printing.specs.parts.Text.{decimal}
use Rattle.octets.specs.laws.Wrote.{fits_left, fits_then, wrote_then}
use Rattle.audit.specs.text.Share.{fraction, pointed}
use Rattle.audit.proofs.text.pointed.Statement.{statement}
use Rattle.audit.proofs.text.pointed.Tie as tie

decimal-requires : tie.Need-decimal-end-requires
unfolding pointed
decimal-requires c κs =
    let s = c in
    fits_left s.args.out.now s.args.at (decimal (s.args.n / 1000000000)) (fraction (s.args.n % 1000000000)) s.requires.1

fraction-requires : tie.Need-fraction-requires
unfolding pointed
fraction-requires c κs =
    let s = c in
    (omega arith, fits_then (decimal (s.args.n / 1000000000)) (fraction (s.args.n % 1000000000)) c.decimal-end.ensures s.requires.1)

returns : tie.Need-returns
unfolding pointed
returns c = wrote_then c.decimal-end.ensures c.fraction.ensures

pub pointed_spec : {M : Type 1} → statement M
pointed_spec =
    tie.close (tie.spec (λ c. omega (arith, c.requires.0)) decimal-requires (λ c. omega arith) fraction-requires (λ c. search rules) returns)
