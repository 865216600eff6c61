-- Whether cells are lent, by the tests.
use Rattle.std.specs.Prelude.{◌≡◌, false, ◌≢◌, ℕ, eqb}
use Rattle.std.proofs.Common.{eq-eqb, ne_eqb}
use Rattle.queries.specs.all_neighbours.Lists.{nothing_lent}

pub some_offsets : (a b : ℕ) → a ≢ 0 → false ≡ nothing_lent a b
some_offsets a b n = rw (ne_eqb a 0 n)

pub no_offsets : (a b : ℕ) → a ≡ 0 → eqb b 0 ≡ nothing_lent a b
no_offsets a b q = rw (eq-eqb a 0 q)
