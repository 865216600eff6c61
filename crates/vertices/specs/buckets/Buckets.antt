-- How a near vertex is found: added vertices are chained in buckets by their places, in the tail of the index list. A quarter of the tail is heads, one for each bucket; the rest are links, one
-- for each of the first vertices after the circumcenters. A head has the last vertex of its bucket, a link the one before in the same bucket: one more than its number after the
-- circumcenters, or 0, in 20 digits; the 12 digits above these are marks, and that of each vertex from there back is set. So a search ends where its mark is not set. A vertex past the links is
-- in no chain.
-- The place of a vertex is rounded to a grid: its magnitude and 2^21 rounded, which is a multiple of 2^-31 up to 2^21. What is near a point has the same place unless the point is
-- within 2^-48 below a border of the grid (laws/Keys.antt, `near_places`). Definitions only.
use Rattle.std.specs.Prelude.{◌≡◌, Bool, ◌&&◌, List, ◌≢◌, ℕ, suc, ◌+◌, ◌*◌, ◌/◌, ◌%◌, ◌^◌, ◌≤◌, ◌<◌, min, Float, length, get_or}
use Rattle.std.specs.Int.Bits.{bit_or}
use Rattle.std.specs.Float.{binary64}
use Rattle.std.specs.Float.Ieee.{of_bits, to_bits, eq, le}
use Rattle.base.specs.common.Binary64.{◌⊞◌, zero}
use Rattle.base.specs.numbers.Numbers.{large}
use Rattle.root.specs.Root.{magnitude}
use Rattle.plane.specs.points.Flat.{point_at}

-- ---- places on the grid

-- 2^-49, 2^-48 and 2^21
abbrev pub reach : Float
reach = of_bits binary64 0x3ce0_0000_0000_0000

abbrev pub far_reach : Float
far_reach = of_bits binary64 0x3cf0_0000_0000_0000

abbrev pub coarse : Float
coarse = of_bits binary64 0x4140_0000_0000_0000

-- where x stands, and between what all that is near x stands
abbrev pub mid_of : Float → Float
mid_of x = magnitude x ⊞ reach ⊞ coarse

abbrev pub low_of : Float → Float
low_of x = magnitude x ⊞ zero ⊞ coarse

abbrev pub high_of : Float → Float
high_of x = magnitude x ⊞ far_reach ⊞ coarse

-- these are one place
unfoldable pub narrow_of : Float → Bool
narrow_of x = eq (low_of x) (high_of x) && le (high_of x) large

-- ---- buckets

-- 22 digits of two patterns, all of theirs mixed
unfoldable pub mix_of : ℕ → ℕ → ℕ
mix_of a b = (a % 4294967296 + a / 4294967296 * 40503 + (b % 4294967296 * 60493 + b / 4294967296 * 51749)) % 4294967296 * 2654435769 / 1024 % 4194304

-- of h
unfoldable pub bucket_by : ℕ → Float → Float → ℕ
bucket_by h x y = mix_of (to_bits binary64 x) (to_bits binary64 y) * h / 4194304

-- of vertex k after the first nc
abbrev pub bucket_from : ℕ → List Float → ℕ → ℕ → ℕ
bucket_from h v nc k = bucket_by h (mid_of (point_at v (nc + k)).x) (mid_of (point_at v (nc + k)).y)

-- the digit of an entry that is the mark of two places
unfoldable pub mark_by : Float → Float → ℕ
mark_by x y = 20 + mix_of (to_bits binary64 x) (to_bits binary64 y) % 12

abbrev pub mark_from : List Float → ℕ → ℕ → ℕ
mark_from v nc k = mark_by (mid_of (point_at v (nc + k)).x) (mid_of (point_at v (nc + k)).y)

-- ---- the tail

-- how many heads a tail so long has; the links are three times as many
abbrev pub heads_of : ℕ → ℕ
heads_of room = min room 1048576 / 4

-- how many of so many vertices are chained
abbrev pub inserted_of : ℕ → ℕ → ℕ
inserted_of count room = min count (3 * heads_of room)

-- what an entry has of a number
abbrev pub number_in : ℕ → ℕ
number_in e = e % 1048576

-- vertex k with its mark in front of entry e
unfoldable pub entry_with : ℕ → ℕ → ℕ → ℕ
entry_with e k mark = bit_or (e / 1048576 * 1048576 + suc k) (2 ^ mark)

-- entry e has one more than the last number below n whose bucket is m, and the marks of all of them; or it is 0
pub record LastChained (bucket mark : ℕ → ℕ) (m n e : ℕ) : Type 0 where
  pub within : number_in e ≤ n
  pub there : (k : ℕ) → number_in e ≡ suc k → bucket k ≡ m
  pub after : (k : ℕ) → number_in e ≤ k → k < n → bucket k ≢ m
  pub marked : (k : ℕ) → k < n → bucket k ≡ m → e / 2 ^ mark k % 2 ≡ 1
  pub none : number_in e ≡ 0 → e ≡ 0

-- of the vertices after the first nc so many are chained
pub record InChains (nc n : ℕ) (v : List Float) (tail : List ℕ) : Type 0 where
  pub lasts : (m : ℕ) → m < heads_of (length tail) → LastChained (bucket_from (heads_of (length tail)) v nc) (mark_from v nc) m n (get_or tail m 0)
  pub nexts : (k : ℕ) → k < n
      → LastChained (bucket_from (heads_of (length tail)) v nc) (mark_from v nc) (bucket_from (heads_of (length tail)) v nc k) k (get_or tail (heads_of (length tail) + k) 0)
