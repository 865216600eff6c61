-- How the sides are chained in buckets by the two places between which they run, in three words of work to an entry k: the last side of bucket k, as one more than its entry, or 0; the one before
-- side k in its bucket, in the same way; the vertex where side k ends. What the inner functions promise.
use Rattle.std.specs.Prelude.{◌≡◌, true, false, ◌&&◌, List, [], ◌∷◌, ◌⊎◌, ℕ, zero, suc, ◌+◌, ◌-◌, ◌*◌, ◌/◌, ◌%◌, ◌^◌, ◌≤◌, ◌<◌, Float, length, get_or}
use Rattle.std.specs.Float.{binary64}
use Rattle.std.specs.Float.Ieee.{to_bits}
use Rattle.base.specs.common.Binary64 as B
use Rattle.base.specs.common.Binary64.{◌⊞◌}
use Rattle.plane.specs.points.Flat.{point_at}
use Rattle.plane.specs.declared.points.Point.{Point}
use Rattle.plane.specs.declared.boxes.BoundingBox.{BoundingBox}
use Rattle.walks.specs.shared.Cells.{Cells}
use Rattle.arguments.specs.entries.Named.{EntriesNamed}
use Rattle.areas.specs.Promise.{entries_of_all}
use Rattle.auditing.specs.places.Places.{same_of}
use Rattle.auditing.specs.places.Buckets.{LastIn}
use Rattle.certifying.specs.sides.Sides.{ring_ends, ends_of, side_count, runs_at, how_many, more_of, surplus_at}

-- ---- the bucket of two places, of n; the same both ways. -0 + 0 is 0
unfoldable pub place_number : Point → ℕ
place_number p = to_bits binary64 (p.x ⊞ B.zero) % 2654435761 + to_bits binary64 (p.y ⊞ B.zero) % 3266489917

unfoldable pub side_bucket : ℕ → Point → Point → ℕ
side_bucket n p q = (place_number p + place_number q) % n

-- of side k
abbrev pub bucket_at : List Float → List ℕ → List ℕ → ℕ → ℕ → ℕ
bucket_at v ix to n k = side_bucket n (point_at v (get_or ix k 0)) (point_at v (get_or to k 0))

-- the ends that lie in the work w: of n sides from i on, of n
unfoldable pub laid_from : List ℕ → ℕ → ℕ → List ℕ
laid_from w i zero = []
laid_from w i (suc n) = get_or w (3 * i + 2) 0 ∷ laid_from w (suc i) n

abbrev pub laid_ends : List ℕ → ℕ → List ℕ
laid_ends w n = laid_from w 0 n

-- side k can be read
pub record SideSafe (v : List Float) (ix : List ℕ) (k : ℕ) (w : List ℕ) : Type 0 where
  pub few : k < 2 ^ 24
  pub entry : k < length ix
  pub from_named : get_or ix k 0 < length v / 2
  pub room : 3 * k + 2 < length w
  pub to_named : get_or w (3 * k + 2) 0 < length v / 2

-- ---- n sides lie in the work w: entries and ends are vertices
pub record SidesIn (v : List Float) (ix to : List ℕ) (n : ℕ) (w : List ℕ) : Type 0 where
  pub few : n ≤ 2 ^ 24
  pub room : 3 * n ≤ length w
  pub entries : n ≤ length ix
  pub from_named : (k : ℕ) → k < n → get_or ix k 0 < length v / 2
  pub to_named : (k : ℕ) → k < n → get_or to k 0 < length v / 2
  pub ends : (k : ℕ) → k < n → get_or w (3 * k + 2) 0 ≡ get_or to k 0

-- the first m of n are chained
pub record ChainedIn (bucket : ℕ → ℕ) (n m : ℕ) (w : List ℕ) : Type 0 where
  pub lasts : (j : ℕ) → j < n → LastIn bucket j m (get_or w (3 * j) 0)
  pub nexts : (k : ℕ) → k < m → LastIn bucket (bucket k) k (get_or w (3 * k + 1) 0)

-- all lie there, and the first m are chained
pub record ChainedTo (v : List Float) (ix to : List ℕ) (n m : ℕ) (w : List ℕ) : Type 0 where
  pub lie : SidesIn v ix to n w
  pub chained : ChainedIn (bucket_at v ix to n) n m w

-- how many run from p to q and how many back
pub record WaysOf (v : List Float) (ix to : List ℕ) (n : ℕ) (p q : Point) (there back : ℕ) : Type 0 where
  pub there_is : there ≡ how_many (runs_at v ix to p q) n
  pub back_is : back ≡ how_many (runs_at v ix to q p) n

-- ---- bucket by bucket
-- a side from a to c runs back, and not there, as one from p to q does
pub record RunsBack (p q a c : Point) : Type 0 where
  pub back : (same_of q a && same_of p c) ≡ true
  pub only : (same_of p a && same_of q c) ≡ false

-- side k can be read by numbers
pub record NumberSafe (ix w : List ℕ) (k : ℕ) : Type 0 where
  pub few : k < 2 ^ 24
  pub entry : k < length ix
  pub room : 3 * k + 2 < length w

pub record FourSafe (ix w : List ℕ) (i j k l : ℕ) : Type 0 where
  pub first : NumberSafe ix w i
  pub second : NumberSafe ix w j
  pub third : NumberSafe ix w k
  pub fourth : NumberSafe ix w l

-- sides j and k are the same one there and back, by the numbers of their vertices
pub record Turned (ix w : List ℕ) (j k : ℕ) : Type 0 where
  pub there : get_or ix j 0 ≡ get_or w (3 * k + 2) 0
  pub back : get_or ix k 0 ≡ get_or w (3 * j + 2) 0

abbrev pub TwoPairs : List ℕ → List ℕ → ℕ → ℕ → ℕ → ℕ → Type 0
TwoPairs ix w i j k l = (Turned ix w i j × Turned ix w k l) ⊎ ((Turned ix w i k × Turned ix w j l) ⊎ (Turned ix w i l × Turned ix w j k))

-- of no side of bucket m more run its way than back; for the second fault, none that is along an edge counts
abbrev pub EvenIn : List Float → List ℕ → List ℕ → ℕ → ℕ → Type 0
EvenIn v ix to n m = (k : ℕ) → k < n → bucket_at v ix to n k ≡ m → more_of v ix to n (point_at v (get_or ix k 0)) (point_at v (get_or to k 0)) ≡ false

abbrev pub FairIn : BoundingBox → List Float → List ℕ → List ℕ → ℕ → ℕ → Type 0
FairIn b v ix to n m = (k : ℕ) → k < n → bucket_at v ix to n k ≡ m → surplus_at b v ix to n k ≡ false

-- ---- the first n ends of a ring laid from entry `base` on, with empty buckets beside them
pub record RingLaid (base : ℕ) (cell : List ℕ) (n : ℕ) (old new : List ℕ) : Type 0 where
  pub most : n ≤ length cell
  pub long : length new ≡ length old
  pub ends : (i : ℕ) → i < n → get_or new (3 * (base + i) + 2) 0 ≡ get_or (ring_ends cell) i 0
  pub free : (i : ℕ) → i < n → get_or new (3 * (base + i)) 0 ≡ 0
  pub before : (j : ℕ) → j < 3 * base → get_or new j 0 ≡ get_or old j 0

-- there is room for the sides of all rings
pub record LaySafe (off ix w : List ℕ) : Type 0 where
  pub cut : Cells off (length ix)
  pub few : side_count off ≤ 2 ^ 24
  pub room : 3 * side_count off ≤ length w

-- the rings of the sites before s lie there
pub record LaidTo (off ix : List ℕ) (s : ℕ) (old w : List ℕ) : Type 0 where
  pub most : s ≤ length off - 1
  pub long : length w ≡ length old
  pub ends : (k : ℕ) → k < get_or off s 0 → get_or w (3 * k + 2) 0 ≡ get_or (ends_of off ix) k 0
  pub free : (k : ℕ) → k < get_or off s 0 → get_or w (3 * k) 0 ≡ 0

-- ---- one more is chained, and the ends are as they were
pub record ChainedMore (v : List Float) (ix : List ℕ) (n m : ℕ) (old new : List ℕ) : Type 0 where
  pub chained : ChainedTo v ix (laid_ends new n) n m new
  pub ends : laid_ends new n ≡ laid_ends old n
  pub long : length new ≡ length old

-- what inserting all asks, and what it leaves
pub record InsertSafe (v : List Float) (off ix : List ℕ) (n : ℕ) (w : List ℕ) : Type 0 where
  pub lay : LaySafe off ix w
  pub count : n ≡ side_count off
  pub named : EntriesNamed (entries_of_all off ix) (length v / 2)

pub record InsertsAll (v : List Float) (off ix : List ℕ) (n : ℕ) (old new : List ℕ) : Type 0 where
  pub chained : ChainedTo v ix (laid_ends new n) n n new
  pub ends : laid_ends new n ≡ ends_of off ix
  pub long : length new ≡ length old
