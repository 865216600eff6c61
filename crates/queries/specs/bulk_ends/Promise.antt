-- What the call for the ends of paths promises: a number by rules in order, and the ends, then what was there. Definitions only.
use Rattle.std.specs.Prelude.{◌≡◌, Bool, true, ◌&&◌, List, [], ◌∷◌, ◌++◌, ℕ, ◌/◌, ◌%◌, ◌<◌, leb, Float, length, drop}
use Rattle.base.specs.common.Refusals.{Rule, once, Finds}
use Rattle.base.specs.numbers.Numbers.{EMPTY, refused_count, refused_site, refused_destination}
use Rattle.plane.specs.points.Sites.{KeptAt}
use Rattle.mesh.specs.Rules.{call_rules}
use Rattle.mesh.specs.Accepted.{Mesh, site_count}
use Rattle.mesh_check.specs.whole.AtExit.{at_exit}
use Rattle.mesh_check.specs.whole.Answers.{work_after}
use Rattle.queries.specs.bulk_ends.Ends.{all_ends}

-- rule 2: a work entry for each of n sites, and an output entry for each of k points
unfoldable pub ends_room : ℕ → ℕ → ℕ → ℕ → Bool
ends_room n k work out = leb n work && leb k out

-- rule 5 on every point
pub record PointsKept (points : List Float) : Type 0 where
  pub each : (i : ℕ) → i < length points / 2 → KeptAt points i

-- 4, then 5 on every point
abbrev pub end_rules : ℕ → ℕ → List Float → List (Rule ℕ)
end_rules n s points = once refused_site (s < n) ∷ once refused_destination (PointsKept points) ∷ []

-- 1 on the points, then 1 and 2, then these, then 6 and 7 to 10
abbrev pub all_rules : Mesh → ℕ → List Float → ℕ → ℕ → List (Rule ℕ)
all_rules m s points work out =
    once refused_count (length points % 2 ≡ 0)
    ∷ call_rules m (ends_room (site_count m.sites) (length points / 2) work out ≡ true) (end_rules (site_count m.sites) s points)

-- w and o are the work slice and the output, w' and o' at exit
pub record EndsAnswer (m : Mesh) (s : ℕ) (points : List Float) (w w' o o' : List ℕ) (r : ℕ) : Type 0 where
  pub number : Finds (all_rules m s points (length w) (length o)) 0 r
  pub work : w' ≡ work_after m w r
  pub out : o' ≡ at_exit EMPTY (all_ends m points s ++ drop (length (all_ends m points s)) o) o r
