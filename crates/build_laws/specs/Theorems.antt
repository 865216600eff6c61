-- Theorems: what holds of every build that is not refused, on an accepted mesh and a box that rule 3 admits; of wrapping.
use Rattle.std.specs.Prelude.{◌≡◌, List, ◌≢◌, ℕ, ◌+◌, ◌<◌, length}
use Rattle.base.specs.numbers.Numbers.{EMPTY}
use Rattle.plane.specs.boxes.Finite.{BoundedBox}
use Rattle.plane.specs.declared.boxes.BoundingBox.{BoundingBox}
use Rattle.mesh.specs.Accepted.{Mesh, Accepted}
use Rattle.definition.specs.Fault.{ok}
use Rattle.definition.specs.Build.{Built, build}
use Rattle.definition.specs.laws.Gives.{gives_ok}
use Rattle.definition.specs.Measures.{Room}
use Rattle.definition.specs.Cell.{wraps}
use Rattle.build_laws.specs.Wrapping.{Wrapping}
use Rattle.build_laws.specs.laws.Built.{Good, built}
use Rattle.build_laws.specs.laws.Wraps.{wraps_enough}

module _ {m : Mesh} (a : Accepted m) {b : BoundingBox} (box : BoundedBox 101 b) where
  -- each corner is wrapped at most once, by its owner, and a build keeps to its room
  pub wrapping : {r : Built} → build m b ≡ ok r → Wrapping m b r
  wrapping e = (gives_ok (Good a box) (built a box) e).0

  pub room : {r : Built} → build m b ≡ ok r → Room m.triangles m.hull b r
  room e = (gives_ok (Good a box) (built a box) e).1

-- the definition's fuel of 4 corners is enough: with more, wrapping goes no further
pub wraps_all : (nc site : ℕ) → site ≢ EMPTY → (j stop c : ℕ) (os : List ℕ) → length os ≡ 4 → c < 4 → wraps (j + 4) nc site stop c os ≡ wraps 4 nc site stop c os
wraps_all nc site real = wraps_enough nc site real
