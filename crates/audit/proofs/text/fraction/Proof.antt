-- `audit::text::fraction` meets its contract: ten digits, and the point over the first.
use Rattle.std.proofs.Common.{arith, rules}
use Rattle.octets.specs.laws.Wrote.{wrote_length}
use Rattle.audit.specs.text.laws.Points.{ten_some, fraction_long, fraction_put}
use Rattle.audit.proofs.text.fraction.Statement.{statement}
use Rattle.audit.proofs.text.fraction.Tie as tie

decimal-requires : tie.Need-decimal-end-requires
decimal-requires c κs = let s = c in omega (arith, fraction_long s.args.f s.requires.0, s.requires.1)

slice_write-out : tie.Need-bounds-out-at
slice_write-out c =
    let s = c in
    omega (arith, wrote_length c.decimal-end.ensures, ten_some s.args.f s.requires.0, fraction_long s.args.f s.requires.0, s.requires.1)

returns : tie.Need-returns
returns c =
    let s = c in
    fraction_put s.args.f s.requires.0 c.decimal-end.ensures

pub fraction_spec : {M : Type 1} → statement M
fraction_spec = tie.close (tie.spec (λ c. omega (arith, c.requires.0)) decimal-requires slice_write-out (λ c. search rules) returns)
