-- What writing sites promises: a number by rules in order, 1 (odd length, count), 2, 6, the length and the output. Definitions only.
use Rattle.std.specs.Prelude.{◌≡◌, true, List, [], ◌∷◌, ℕ, ◌+◌, ◌*◌, ◌/◌, ◌%◌, ◌≤◌, ◌<◌, eqb, length, get_or, Float}
use Rattle.std.specs.Float.{nan, binary64}
use Rattle.std.specs.Float.Ieee.{to_bits}
use Rattle.base.specs.common.Pick.{pick}
use Rattle.base.specs.common.Refusals.{Rule, once, Finds}
use Rattle.base.specs.numbers.Numbers.{refused_count, refused_room, refused_coordinate}
use Rattle.plane.specs.points.Sites.{KeptAt}
use Rattle.octets.specs.Wrote.{Wrote}
use Rattle.wkb.specs.multipoint.MultiPoint.{FilePoint, file_point, multi_point}
use Rattle.wkb.specs.multipoint.Promise.{SiteLimits, firsts}

abbrev pub write_rules : List Float → ℕ → List (Rule ℕ)
write_rules sites room =
    once refused_count (length sites % 2 ≡ 0)
    ∷ once refused_count (SiteLimits (length sites / 2))
    ∷ once refused_room (9 + 21 * (length sites / 2) ≤ room)
    ∷ once refused_coordinate ((i : ℕ) → i < length sites / 2 → KeptAt sites i)
    ∷ []

-- site i as a point of a file, little-endian
unfoldable pub site_point : List Float → ℕ → FilePoint
site_point sites i = file_point true (to_bits binary64 (get_or sites (2 * i) nan)) (to_bits binary64 (get_or sites (2 * i + 1) nan))

-- the file of the sites
abbrev pub file_of : List Float → List ℕ
file_of sites = multi_point true (firsts (site_point sites) (length sites / 2))

abbrev pub file_after : List Float → ℕ → List ℕ
file_after sites r = pick (eqb r 0) (λ _. file_of sites) (λ _. [])

pub record WriteAnswer (sites : List Float) (old new : List ℕ) (written r : ℕ) : Type 0 where
  pub number : Finds (write_rules sites (length old)) 0 r
  pub output : Wrote old new 0 written (file_after sites r)
