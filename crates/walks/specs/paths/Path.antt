-- The path from a site towards a point: each hop goes to the first of the nearest neighbours, while that is strictly nearer.
use Rattle.std.specs.Prelude.{ℕ, zero, suc, ◌-◌, ◌<◌, ◌/◌, List, [], ◌∷◌, eqb, Float, ◌≡◌, length, get_or}
use Rattle.std.specs.Float.Ieee.{lt}
use Rattle.base.specs.common.Pick.{pick}
use Rattle.plane.specs.points.Flat.{point_at}
use Rattle.plane.specs.points.Plane.{dist2_of}
use Rattle.plane.specs.declared.points.Point.{Point}
use Rattle.walks.specs.neighbours.Neighbours.{neighbours_of}
use Rattle.walks.specs.declared.paths.Best.{Best}

-- the computed squared distance from site s to p
unfoldable pub dist_of : List Float → Point → ℕ → Float
dist_of sites p s = dist2_of (point_at sites s) p

-- s, or of ns the first of those nearest to p, if it is strictly nearer than s
unfoldable pub nearest_of : List Float → Point → List ℕ → ℕ → ℕ
nearest_of sites p [] s = s
nearest_of sites p (n ∷ ns) s = pick (lt (dist_of sites p n) (dist_of sites p s)) (λ _. nearest_of sites p ns n) (λ _. nearest_of sites p ns s)

-- where the path goes from s: s itself where it ends there
unfoldable pub hop_of : List Float → List ℕ → List ℕ → List ℕ → Point → ℕ → ℕ
hop_of sites tri he table p s = nearest_of sites p (neighbours_of tri he table s) s

-- at most k entries of the path from s
unfoldable pub path_of : List Float → List ℕ → List ℕ → List ℕ → Point → ℕ → ℕ → List ℕ
path_of sites tri he table p zero s = []
path_of sites tri he table p (suc k) s =
    let n = hop_of sites tri he table p s in
    s ∷ pick (eqb n s) (λ _. []) (λ _. path_of sites tri he table p k n)

-- the site where the path ends, with fuel k
unfoldable pub path_end : List Float → List ℕ → List ℕ → List ℕ → Point → ℕ → ℕ → ℕ
path_end sites tri he table p zero s = s
path_end sites tri he table p (suc k) s =
    let n = hop_of sites tri he table p s in
    pick (eqb n s) (λ _. s) (λ _. path_end sites tri he table p k n)

-- the whole path from s
abbrev pub whole_path : List Float → List ℕ → List ℕ → List ℕ → Point → ℕ → List ℕ
whole_path sites tri he table p s = path_of sites tri he table p (length sites) s

-- the last entry
abbrev pub last_of : List ℕ → ℕ
last_of l = get_or l (length l - 1) 0

-- where a path ends: the last entry of the whole path, which is the definition's end
pub record EndsAt (sites : List Float) (tri he table : List ℕ) (p : Point) (s r : ℕ) : Type 0 where
  pub last : r ≡ last_of (whole_path sites tri he table p s)
  pub end : r ≡ path_end sites tri he table p (length sites / 2) s
  pub below : r < length sites / 2

unfoldable pub nearer_of : Best → ℕ → Float → Best
nearer_of b n d = pick (lt d b.dist) (λ _. record { site = n; dist = d }) (λ _. b)
