-- What a certificate asks of its arguments, as rules in order: 1 on the counts and the tolerance, as an audit; 2 on the work; 3 on the box, 6 on the sites, 16 on the offsets, 18 on the
-- entries, 24 on the corners. Definitions only.
use Rattle.std.specs.Prelude.{◌≡◌, Bool, true, List, ◌∷◌, ◌++◌, ℕ, ◌+◌, ◌*◌, ◌/◌, ◌≤◌, Float, length}
use Rattle.base.specs.common.Refusals.{Rule, once, each, Finds}
use Rattle.base.specs.numbers.Numbers.{refused_count, refused_room, refused_box, refused_coordinate}
use Rattle.plane.specs.points.Sites.{KeptAt}
use Rattle.arguments.specs.asking.Asks.{cell_rules}
use Rattle.areas.specs.Promise.{entries_of_all, corner_rules}
use Rattle.auditing.specs.rules.Rules.{AuditCounts}

-- the words of work for so many numbers of sites and so many entries: three to an entry, two to a site, and 64
abbrev pub certify_room : ℕ → ℕ → ℕ
certify_room sites entries = 3 * entries + 2 * (sites / 2) + 64

abbrev pub certify_rules : Bool → List Float → List Float → List ℕ → List ℕ → ℕ → ℕ → List (Rule ℕ)
certify_rules sound sites v off ix bits room =
    once refused_count (AuditCounts (length sites) (length v) (length ix) bits)
    ∷ once refused_room (certify_room (length sites) (length ix) ≤ room)
    ∷ once refused_box (sound ≡ true)
    ∷ each (λ _. refused_coordinate) (length sites / 2) (KeptAt sites)
    ∷ cell_rules off ix (length sites / 2)
    ++ corner_rules v (entries_of_all off ix)

-- with so many words of work
pub record CertifyNumber (sound : Bool) (sites v : List Float) (off ix : List ℕ) (bits room r : ℕ) : Type 0 where
  pub found : Finds (certify_rules sound sites v off ix bits room) 0 r
