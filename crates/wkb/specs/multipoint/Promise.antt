-- What reading promises: a number by rules in order, a count, and the output. Definitions only.
use Rattle.std.specs.Prelude.{◌≡◌, true, List, [], ◌∷◌, ◌++◌, ℕ, zero, suc, ◌*◌, ◌≤◌, ◌<◌, eqb, ltb, length, Float}
use Rattle.base.specs.common.Binary64 as R
use Rattle.base.specs.common.Pick.{pick}
use Rattle.base.specs.common.Refusals.{Rule, once, Finds}
use Rattle.base.specs.numbers.Numbers.{refused_count, refused_room, refused_coordinate, refused_points}
use Rattle.plane.specs.points.Rules.{ok_coord}
use Rattle.wkb.specs.multipoint.Fields.{Shape, point_count, coordinate_of}

-- 3 to 65,536 sites
pub record SiteLimits (n : ℕ) : Type 0 where
  pub many : 3 ≤ n
  pub few : n ≤ 65536

-- the first n of f, one after the other
abbrev pub firsts : {A : Type 0} → (ℕ → A) → ℕ → List A
firsts f zero = []
firsts f (suc n) = firsts f n ++ (f n ∷ [])

-- ---- reading a file s into an output: 21 over the whole file, then 1, 2, 6

-- rule 6 on each coordinate
pub record SoundPoints (s : List ℕ) : Type 0 where
  pub each : (k : ℕ) → k < 2 * point_count s → ok_coord (coordinate_of s k) ≡ true

-- the rules after the first
abbrev pub limit_rules : List ℕ → ℕ → List (Rule ℕ)
limit_rules s room = once refused_count (SiteLimits (point_count s)) ∷ once refused_room (2 * point_count s ≤ room) ∷ once refused_coordinate (SoundPoints s) ∷ []

abbrev pub read_rules : List ℕ → ℕ → List (Rule ℕ)
read_rules s room = once refused_points (Shape s) ∷ limit_rules s room

-- place k of the output: a coordinate, or +0 past them
unfoldable pub entry_of : List ℕ → ℕ → Float
entry_of s k = pick (ltb k (2 * point_count s)) (λ _. coordinate_of s k) (λ _. R.zero)

-- the output after the number r, and the count
abbrev pub sites_after : List ℕ → List Float → ℕ → List Float
sites_after s old r = pick (eqb r 0) (λ _. firsts (entry_of s) (length old)) (λ _. old)

abbrev pub read_count : List ℕ → ℕ → ℕ
read_count s r = pick (eqb r 0) (λ _. point_count s) (λ _. 0)

pub record ReadAnswer (s : List ℕ) (old new : List Float) (count r : ℕ) : Type 0 where
  pub number : Finds (read_rules s (length old)) 0 r
  pub sites : new ≡ sites_after s old r
  pub counted : count ≡ read_count s r

-- of a file that has the shape
pub record SoundAnswer (s : List ℕ) (old new : List Float) (count r : ℕ) : Type 0 where
  pub number : Finds (limit_rules s (length old)) 0 r
  pub sites : new ≡ sites_after s old r
  pub counted : count ≡ read_count s r
