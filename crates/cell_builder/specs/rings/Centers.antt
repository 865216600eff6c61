-- What the circumcenters' pass answers, by the definition's outcome.
use Rattle.std.specs.Prelude.{◌≡◌, List, ℕ, ◌+◌, ◌*◌, ◌<◌, Float, length, get_or}
use Rattle.plane.specs.points.Flat.{pour}
use Rattle.plane.specs.declared.points.Point.{Point}
use Rattle.base.specs.numbers.Numbers.{refused_circumcenter}
use Rattle.definition.specs.declared.Fault.{Fault}
use Rattle.definition.specs.Fault.{Outcome, ok, refused}
use Rattle.definition.specs.Short.{fault}

-- every entry of the triangle list names a site of the list
abbrev pub Named : List Float → List ℕ → Type 0
Named sites tri = (k : ℕ) → k < length tri → 2 * get_or tri k 0 + 1 < length sites

-- n triangles: all circumcenters over the slice's beginning, or the lowest triangle r that offends
abbrev pub CentersBy : Outcome Fault (List Point) → ℕ → ℕ → List Float → List Float → Type 0
CentersBy (ok vs) n r v w = (r ≡ n) × (length vs ≡ n) × (w ≡ pour vs v)
CentersBy (refused f) n r v w = (f ≡ fault refused_circumcenter r 0 0) × (r < n)
