-- The promises of the calls for all gauges at once: the number, and each lent slice at exit. What each list and each end is: Lists of queries::all_neighbours, EndsOfPaths of crate
-- queries::bulk_ends; the rules: Promise of crates queries::bulk_neighbours and queries::bulk_ends; what they are beside the single calls: Singles.
use Rattle.std.specs.Prelude.{List, ℕ, Float}
use Rattle.mesh.specs.Accepted.{Mesh}
use Rattle.queries.specs.bulk_neighbours.Promise.{AllNeighboursAnswer}
use Rattle.queries.specs.bulk_ends.Promise.{EndsAnswer}

-- 1, 2, 6, 7 to 10, 16
abbrev pub AllNeighbours : Mesh → List ℕ → List ℕ → List ℕ → List ℕ → List ℕ → List ℕ → List ℕ → List ℕ → ℕ → Type 0
AllNeighbours = AllNeighboursAnswer

-- 1, 2, 4, 5, 6, 7 to 10
abbrev pub EndsOfPaths : Mesh → ℕ → List Float → List ℕ → List ℕ → List ℕ → List ℕ → ℕ → Type 0
EndsOfPaths = EndsAnswer
