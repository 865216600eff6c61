-- What the functions of the search promise.
use Rattle.std.specs.Prelude.{◌≡◌, Bool, true, ◌&&◌, List, ℕ, ◌+◌, ◌-◌, ◌*◌, ◌≤◌, ◌<◌, Float, length, get_or, set, take, drop}
use Rattle.plane.specs.declared.points.Point.{Point}
use Rattle.vertices.specs.declared.buckets.Home.{Home}
use Rattle.vertices.specs.buckets.Buckets.{mid_of, narrow_of, bucket_by, mark_by, entry_with, heads_of, InChains}

-- all buckets are empty, and nothing before the tail has changed
pub record BucketsFree (limit : ℕ) (old new : List ℕ) : Type 0 where
  pub long : length new ≡ length old
  pub body : take limit new ≡ take limit old
  pub free : (m : ℕ) → m < heads_of (length new - limit) → get_or new (limit + m) 0 ≡ 0

-- the bucket of two places, of h, and their mark
pub record HomeAt (h : ℕ) (x y : Float) (all : Bool) (r : Home) : Type 0 where
  pub bucket : r.bucket ≡ bucket_by h x y
  pub mark : r.mark ≡ mark_by x y
  pub narrow : r.narrow ≡ all

-- where p belongs, and whether all that is near p does
abbrev pub HomeOf : ℕ → Point → Home → Type 0
HomeOf h p = HomeAt h (mid_of p.x) (mid_of p.y) (narrow_of p.x && narrow_of p.y)

-- there is such a bucket of h, and such a digit
pub record HomeIn (h m mark : ℕ) : Type 0 where
  pub below : 0 < h → m < h
  pub digit : mark < 32

-- vertex k after the circumcenters goes in front of the chain of bucket m, with its mark, if it has a link
pub record InsertsIn (limit k m mark : ℕ) (old new : List ℕ) : Type 0 where
  pub linked : k < 3 * heads_of (length old - limit)
      → new ≡ set (set old (limit + (heads_of (length old - limit) + k)) (get_or old (limit + m) 0)) (limit + m) (entry_with (get_or old (limit + m) 0) k mark)
  pub past : 3 * heads_of (length old - limit) ≤ k → new ≡ old

-- the first `inserted` vertices after the circumcenters are chained, and bucket m and the mark are those of all that is near p
pub record BucketChain (v : List Float) (ix : List ℕ) (limit heads nc inserted m mark : ℕ) (p : Point) : Type 0 where
  pub heads_is : heads ≡ heads_of (length (drop limit ix))
  pub few : inserted ≤ 3 * heads
  pub room : 2 * (nc + inserted) ≤ length v
  pub in_chains : InChains nc inserted v (drop limit ix)
  pub x_narrow : narrow_of p.x ≡ true
  pub y_narrow : narrow_of p.y ≡ true
  pub bucket : m ≡ bucket_by heads (mid_of p.x) (mid_of p.y)
  pub mark_is : mark ≡ mark_by (mid_of p.x) (mid_of p.y)
  pub below : m < heads
  pub digit : mark < 32
