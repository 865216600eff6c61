-- The room that a polygon takes, by the number of its points, and the image by their number.
use Rattle.std.specs.Prelude.{◌≡◌, Bool, true, false, List, [], ◌∷◌, ◌++◌, ℕ, zero, suc, ◌+◌, ◌*◌, ◌^◌, ◌≤◌, ◌<◌, leb, length, get_or, take}
use Rattle.std.proofs.Math.Path.{refl}
use Rattle.std.proofs.Common.{arith, leb-true, leb-false, le-ltb, lt-ltb}
use Rattle.std.proofs.lemmas.List.{length-map}
use Rattle.base.specs.common.Decide.{Says}
use Rattle.wkb.specs.Polygon.{head_bytes, ring_bytes, closed, pattern_at, patterns_of, polygon, size}
use Rattle.arguments.specs.entries.Named.{EntriesNamed}
use Rattle.wkb.specs.Promise.{ImageFits, image}

pub size_none : (n : ℕ) → n < 3 → size n ≡ 9
unfolding size
size_none n h = rw (lt-ltb n 3 h) refl

pub size_ring : (n : ℕ) → 3 ≤ n → size n ≡ 29 + 16 * n
unfolding size
size_ring n h = rw (le-ltb n 3 h) refl

pub sized_says : (n room m : ℕ) (b : Bool) → n + 1 < 2 ^ 32 → size n ≡ m → leb m room ≡ b → Says b (ImageFits n room)
sized_says n room m true few e h = record { counted = few; long = omega (arith, leb-true m room h) }
sized_says n room m false few e h = λ s. omega (arith, s.long, leb-false m room h)

pub length_head : (rings : ℕ) → length (head_bytes rings) ≡ 9
unfolding head_bytes
length_head rings = refl

-- of named entries the first is named
pub named_first : (cell : List ℕ) (n : ℕ) → EntriesNamed cell n → EntriesNamed (take 1 cell) n
named_first [] n a = a
named_first (e ∷ l) n a = record { each = only }
  where
    only : (k : ℕ) → k < 1 → get_or (e ∷ []) k 0 < n
    only zero h = a.each 0 (omega arith)
    only (suc k) h = absurd (omega arith)

module _ (v cell : List ℕ) where
  long : length (patterns_of v cell) ≡ length cell
  long = length-map cell (pattern_at v)

  pub image_none : length cell < 3 → image v cell ≡ head_bytes 0
  unfolding polygon
  image_none h = rw (lt-ltb (length (patterns_of v cell)) 3 (omega (arith, long))) refl

  pub image_ring : 3 ≤ length cell → image v cell ≡ head_bytes 1 ++ ring_bytes (closed (patterns_of v cell))
  unfolding polygon
  image_ring h = rw (le-ltb (length (patterns_of v cell)) 3 (omega (arith, long))) refl
