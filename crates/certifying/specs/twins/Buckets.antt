-- How the sites are chained in buckets by their places, in two words of work to a site k: the last site of bucket k, as one more than its number, or 0; the one before site k in its bucket, in the
-- same way. What the inner functions promise.
use Rattle.std.specs.Prelude.{◌≡◌, List, ℕ, ◌+◌, ◌*◌, ◌/◌, ◌%◌, ◌≤◌, ◌<◌, Float, length, get_or}
use Rattle.plane.specs.points.Flat.{point_at}
use Rattle.plane.specs.declared.points.Point.{Point}
use Rattle.auditing.specs.places.Buckets.{LastIn}
use Rattle.certifying.specs.sides.Chains.{place_number}

-- of n buckets
unfoldable pub site_bucket : ℕ → Point → ℕ
site_bucket n p = place_number p % n

-- of site k
abbrev pub bucket_at : List Float → ℕ → ℕ
bucket_at sites k = site_bucket (length sites / 2) (point_at sites k)

-- the first n sites are chained
pub record SitesChained (sites : List Float) (n : ℕ) (w : List ℕ) : Type 0 where
  pub few : length sites / 2 ≤ 65536
  pub room : 2 * (length sites / 2) ≤ length w
  pub lasts : (m : ℕ) → m < length sites / 2 → LastIn (bucket_at sites) m n (get_or w (2 * m) 0)
  pub nexts : (k : ℕ) → k < n → LastIn (bucket_at sites) (bucket_at sites k) k (get_or w (2 * k + 1) 0)

-- those before s are chained, and m is the bucket of s
pub record SiteHeld (sites : List Float) (s m : ℕ) (w : List ℕ) : Type 0 where
  pub site : s < length sites / 2
  pub bucket : m ≡ bucket_at sites s
  pub below : m < length sites / 2
  pub chained : SitesChained sites s w
