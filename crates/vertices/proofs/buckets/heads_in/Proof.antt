-- `vertices::buckets::heads_in`: a quarter of the entries, of at most 2^20 of them.
use native.Mathlib.Omega.{arith}
use Rattle.vertices.proofs.buckets.heads_in.Statement.{statement}
use Rattle.vertices.proofs.buckets.heads_in.Tie as tie

pub heads_in_spec : {M : Type 1} → statement M
heads_in_spec = tie.close (tie.spec (λ c. omega arith) (λ c. omega arith) (λ c. omega arith) (λ c. omega arith))
