-- What an audit asks of its arguments, as rules in order: 1 on the counts and the tolerance, 3 on the box, 6 on the sites, 16 on the offsets and then on the starts, 18 on the
-- entries and then on the others, 24 on the corners. Definitions only.
use Rattle.std.specs.Prelude.{◌≡◌, Bool, true, List, [], ◌∷◌, ◌++◌, ◌⊎◌, ℕ, ◌/◌, ◌%◌, ◌^◌, ◌≤◌, Float, length}
use Rattle.base.specs.common.Refusals.{Rule, once, each, Finds}
use Rattle.base.specs.numbers.Numbers.{refused_count, refused_box, refused_coordinate, refused_offsets, refused_entry, refused_corner}
use Rattle.plane.specs.points.Sites.{KeptAt}
use Rattle.arguments.specs.asking.Asks.{CellsOf, cell_rules}
use Rattle.arguments.specs.entries.Named.{EntriesNamed}
use Rattle.areas.specs.Promise.{entries_of_all, KeepsRule}
use Rattle.auditing.specs.nearer.Nearer.{no_lists}

-- of the lengths of the lists of sites, vertices and entries
pub record AuditCounts (sites vertices entries bits : ℕ) : Type 0 where
  pub even_sites : sites % 2 ≡ 0
  pub three_sites : 3 ≤ sites / 2
  pub few_sites : sites / 2 ≤ 65536
  pub even_vertices : vertices % 2 ≡ 0
  pub fine : bits ≤ 52
  pub few_entries : entries ≤ 2 ^ 24

-- no others are listed, or the starts cut them for each of n sites
abbrev pub ListsCut : List ℕ → List ℕ → ℕ → Type 0
ListsCut starts others n = (no_lists starts others ≡ true) ⊎ CellsOf starts others n

abbrev pub given_rules : Bool → List Float → ℕ → ℕ → ℕ → List (Rule ℕ)
given_rules sound sites vertices entries bits =
    once refused_count (AuditCounts (length sites) vertices entries bits) ∷ once refused_box (sound ≡ true) ∷ each (λ _. refused_coordinate) (length sites / 2) (KeptAt sites) ∷ []

-- the entries and the others that are used
abbrev pub audit_entry_rules : List Float → List ℕ → List ℕ → ℕ → List (Rule ℕ)
audit_entry_rules v entries others n =
    once refused_entry (EntriesNamed entries (length v / 2)) ∷ once refused_entry (EntriesNamed others n) ∷ once refused_corner (KeepsRule v entries) ∷ []

abbrev pub audit_rules : Bool → List Float → List Float → List ℕ → List ℕ → List ℕ → List ℕ → ℕ → List (Rule ℕ)
audit_rules sound sites v off ix starts others bits =
    given_rules sound sites (length v) (length ix) bits
    ++ cell_rules off ix (length sites / 2)
    ++ once refused_offsets (ListsCut starts others (length sites / 2))
    ∷ audit_entry_rules v (entries_of_all off ix) (entries_of_all starts others) (length sites / 2)

pub record GivenNumber (sound : Bool) (sites : List Float) (vertices entries bits r : ℕ) : Type 0 where
  pub found : Finds (given_rules sound sites vertices entries bits) 0 r

pub record AuditEntries (v : List Float) (entries others : List ℕ) (n r : ℕ) : Type 0 where
  pub found : Finds (audit_entry_rules v entries others n) 0 r

pub record AuditNumber (sound : Bool) (sites v : List Float) (off ix starts others : List ℕ) (bits r : ℕ) : Type 0 where
  pub found : Finds (audit_rules sound sites v off ix starts others bits) 0 r
