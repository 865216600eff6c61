-- `vertices::buckets::mix`: sums and products of 32 digits fit.
use native.Mathlib.Omega.{arith}
use mathlib.Core.Path.{refl}
use Rattle.vertices.specs.buckets.Buckets.{mix_of}
use Rattle.vertices.specs.buckets.laws.Inserting.{mix_fits}
use Rattle.vertices.proofs.buckets.mix.Statement.{statement}
use Rattle.vertices.proofs.buckets.mix.Tie as tie

add-result : tie.Need-overflow_add-result
add-result c = record { fits = mix_fits c.args.a c.args.b c.ranges.a.fits c.ranges.b.fits }

returns : tie.Need-returns
unfolding mix_of
returns c = refl

pub mix_spec : {M : Type 1} → statement M
mix_spec =
    tie.close
    (tie.spec (λ c. omega arith) (λ c. omega arith) (λ c. omega arith) (λ c. omega arith) (λ c. omega arith) add-result
    (λ c. omega arith) returns)
