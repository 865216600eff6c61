-- What stands where in a file: the marks, the types, the count, the coordinates; and when the whole has the shape of a MultiPoint. Definitions only.
-- That these files are the MultiPoints, and no others: Exactly.
use Rattle.std.specs.Prelude.{◌≡◌, Bool, List, ℕ, ◌+◌, ◌*◌, ◌/◌, ◌%◌, ◌≤◌, ◌<◌, eqb, length, get_or, take, drop, Float}
use Rattle.std.specs.Float.{binary64}
use Rattle.std.specs.Float.Ieee.{of_bits}
use Rattle.octets.specs.Orders.{word_in}

-- of a structure: its order by its first byte, and the number of the n bytes from a place in it on
abbrev pub little_of : List ℕ → Bool
little_of t = eqb (get_or t 0 0) 1

unfoldable pub field : List ℕ → ℕ → ℕ → ℕ
field t from n = word_in (little_of t) (take n (drop from t))

-- a mark and a type
pub record StartsAs (t : List ℕ) (kind : ℕ) : Type 0 where
  pub marked : get_or t 0 0 < 2
  pub typed : field t 1 4 ≡ kind

abbrev pub point_count : List ℕ → ℕ
point_count s = field s 5 4

-- where point i begins
abbrev pub point_place : ℕ → ℕ
point_place i = 9 + 21 * i

pub record Shape (s : List ℕ) : Type 0 where
  pub long : 9 ≤ length s
  pub starts : StartsAs s 4
  pub whole : length s ≡ point_place (point_count s)
  pub points : (i : ℕ) → i < point_count s → StartsAs (drop (point_place i) s) 1

-- coordinate k, x and y of each point in turn: its pattern, its value
unfoldable pub file_pattern : List ℕ → ℕ → ℕ
file_pattern s k = field (drop (point_place (k / 2)) s) (5 + 8 * (k % 2)) 8

abbrev pub coordinate_of : List ℕ → ℕ → Float
coordinate_of s k = of_bits binary64 (file_pattern s k)
