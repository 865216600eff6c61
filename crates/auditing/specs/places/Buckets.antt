-- How twins are searched for, block by block: the sites of a block stand in a hash table with chains, by their places. What the inner functions promise.
use Rattle.std.specs.Prelude.{◌≡◌, Bool, false, List, ◌≢◌, ℕ, suc, ◌+◌, ◌-◌, ◌/◌, ◌%◌, ◌≤◌, ◌<◌, min, length, get_or, set, Float}
use Rattle.std.specs.Float.{binary64}
use Rattle.std.specs.Float.Ieee.{to_bits}
use Rattle.base.specs.common.Binary64.{◌⊞◌, zero}
use Rattle.ring_area.specs.lowest.Lowest.{any_below}
use Rattle.plane.specs.points.Flat.{point_at}
use Rattle.plane.specs.declared.points.Point.{Point}
use Rattle.auditing.specs.places.Places.{twin_at}

abbrev pub block : ℕ
block = 512

abbrev pub buckets : ℕ
buckets = 512

unfoldable pub bucket_of : Point → ℕ
bucket_of p = (to_bits binary64 (p.x ⊞ zero) % 2654435761 + to_bits binary64 (p.y ⊞ zero) % 3266489917) % buckets

-- of site k of the block from a on
abbrev pub bucket_in : List Float → ℕ → ℕ → ℕ
bucket_in sites a k = bucket_of (point_at sites (a + k))

-- how many of that block stand before s
abbrev pub chained_to : ℕ → ℕ → ℕ
chained_to a s = min (s - a) block

-- one of these stands at the place of s
unfoldable pub twin_in : List Float → ℕ → ℕ → Bool
twin_in sites a s = any_below (λ (k : ℕ). twin_at sites s (a + k)) (chained_to a s)

-- x is one more than the last number below n whose bucket is m, or 0
pub record LastIn (bucket : ℕ → ℕ) (m n x : ℕ) : Type 0 where
  pub within : x ≤ n
  pub there : (k : ℕ) → x ≡ suc k → bucket k ≡ m
  pub after : (k : ℕ) → x ≤ k → k < n → bucket k ≢ m

-- the first n are in the table: the last of each bucket, and for each the one before it in its chain
pub record InTable (bucket : ℕ → ℕ) (n : ℕ) (heads links : List ℕ) : Type 0 where
  pub wide : length heads ≡ buckets
  pub long : length links ≡ block
  pub lasts : (m : ℕ) → m < buckets → LastIn bucket m n (get_or heads m 0)
  pub nexts : (k : ℕ) → k < n → LastIn bucket (bucket k) k (get_or links k 0)

-- those of the block from a on that stand before s
pub record BlockIn (sites : List Float) (a s : ℕ) (heads links : List ℕ) : Type 0 where
  pub from : a ≤ s
  pub site : s < length sites / 2
  pub chained : InTable (bucket_in sites a) (chained_to a s) heads links

-- m is the bucket of s
pub record InBucket (sites : List Float) (a s m : ℕ) (heads links : List ℕ) : Type 0 where
  pub in_block : BlockIn sites a s heads links
  pub bucket : m ≡ bucket_of (point_at sites s)

-- k may be inserted into the bucket m
pub record CanInsert (heads links : List ℕ) (m k : ℕ) : Type 0 where
  pub wide : length heads ≡ buckets
  pub long : length links ≡ block
  pub bucket : m < buckets
  pub room : k < block

-- it is, in front of what was there
pub record Inserted (heads links : List ℕ) (m k : ℕ) (heads' links' : List ℕ) : Type 0 where
  pub last : heads' ≡ set heads m (suc k)
  pub next : links' ≡ set links k (get_or heads m 0)

-- what is said of s; where it has no twin in the block it is inserted too
pub record Visited (sites : List Float) (a s : ℕ) (heads links : List ℕ) (r : Bool) : Type 0 where
  pub twin : r ≡ twin_in sites a s
  pub chained : r ≡ false → InTable (bucket_in sites a) (chained_to a (s + 1)) heads links
