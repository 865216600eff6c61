-- `vertices::buckets::home_at`: the patterns mixed, as a share of the buckets and as a digit above the number.
use mathlib.Core.Path.{refl}
use native.Mathlib.Omega.{arith}
use Rattle.vertices.specs.buckets.Buckets.{bucket_by, mark_by}
use Rattle.vertices.specs.buckets.laws.Inserting.{bucket_fits}
use Rattle.vertices.proofs.buckets.home_at.Statement.{statement}
use Rattle.vertices.proofs.buckets.home_at.Tie as tie

mul-t7 : tie.Need-overflow_mul-result
mul-t7 c = rw (c.mix-z.ensures, c.broad.ensures) (record { fits = bucket_fits _ _ _ c.requires })

returns : tie.Need-returns
unfolding bucket_by mark_by
returns c =
    let at-mix = c in
    let at-pattern2 = at-mix in
    let at-pattern = at-pattern2 in
    record {
      bucket = cc (at-pattern.pattern.ensures, at-pattern2.pattern-2.ensures, at-mix.mix-z.ensures, c.broad.ensures);
      mark = cc (at-pattern.pattern.ensures, at-pattern2.pattern-2.ensures, at-mix.mix-z.ensures);
      narrow = refl;
    }

pub home_at_spec : {M : Type 1} → statement M
home_at_spec = tie.close (tie.spec (λ c κs. tt) (λ c κs. tt) (λ c κs. tt) (λ c κs. tt) mul-t7 (λ c. omega arith) returns)
