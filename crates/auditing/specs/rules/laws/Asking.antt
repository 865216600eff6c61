-- The number by the tests made.
use Rattle.std.specs.Prelude.{◌≡◌, refl, Bool, true, false, not, List, ◌≢◌, ◌⊎◌, ℕ, ◌-◌, ◌/◌, ◌≤◌, ◌<◌, Float, length, get_or, take}
use Rattle.std.proofs.Common.{sym, ◌∙◌, inl, inr, rules}
use Rattle.base.specs.common.Decide.{Says, First}
use Rattle.ring_area.specs.lowest.laws.Loops.{no_both}
use Rattle.base.specs.common.laws.Decide.{says_or, first_all}
use Rattle.base.specs.common.laws.Refusals.{breaks, keeps, offends, all_keep, nothing, finds_first, finds_after, finds_keep}
use Rattle.base.specs.numbers.Numbers.{refused_count, refused_box, refused_coordinate, refused_offsets, refused_entry, refused_corner}
use Rattle.plane.specs.points.Sites.{KeptAt}
use Rattle.walks.specs.shared.Cells.{Cells}
use Rattle.arguments.specs.asking.Asks.{CellsOf}
use Rattle.arguments.specs.entries.Named.{EntriesNamed}
use Rattle.areas.specs.Promise.{entries_of_all, KeepsRule}
use Rattle.auditing.specs.nearer.Nearer.{no_lists}
use Rattle.auditing.specs.nearer.laws.Pieces.{lists_empty}
use Rattle.auditing.specs.rules.Rules.{AuditCounts, ListsCut, given_rules, GivenNumber, AuditEntries, AuditNumber}

-- ---- 1, 3, 6
module _ {sound : Bool} {sites : List Float} {v ix bits : ℕ} where
  pub no_counts : (AuditCounts (length sites) v ix bits → ⊥) → GivenNumber sound sites v ix bits refused_count
  no_counts n = record { found = breaks n }

  module _ (c : AuditCounts (length sites) v ix bits) where
    pub no_box : (sound ≡ true → ⊥) → GivenNumber sound sites v ix bits refused_box
    no_box n = record { found = keeps c (breaks n) }

    module _ (b : sound ≡ true) {i : ℕ} (f : First (KeptAt sites) (length sites / 2) i) where
      pub bad_site : i < length sites / 2 → GivenNumber sound sites v ix bits refused_coordinate
      bad_site h = record { found = keeps c (keeps b (offends f h)) }

      pub all_given : length sites / 2 ≤ i → GivenNumber sound sites v ix bits 0
      all_given h = record { found = keeps c (keeps b (all_keep (first_all f h) nothing)) }

-- a box that is not sound
pub not_sound : (s : Bool) → not s ≡ true → s ≡ true → ⊥
not_sound true e f = no_both (sym e)
not_sound false e f = no_both (sym f)

-- ---- 18, 18, 24
module _ {v : List Float} {entries others : List ℕ} {n : ℕ} where
  pub no_vertex : (EntriesNamed entries (length v / 2) → ⊥) → AuditEntries v entries others n refused_entry
  no_vertex x = record { found = breaks x }

  module _ (a : EntriesNamed entries (length v / 2)) where
    pub no_site : (EntriesNamed others n → ⊥) → AuditEntries v entries others n refused_entry
    no_site x = record { found = keeps a (breaks x) }

    module _ (b : EntriesNamed others n) where
      pub no_corner_lem : (KeepsRule v entries → ⊥) → AuditEntries v entries others n refused_corner
      no_corner_lem x = record { found = keeps a (keeps b (breaks x)) }

      pub all_entries_lem : KeepsRule v entries → AuditEntries v entries others n 0
      all_entries_lem k = record { found = keeps a (keeps b (keeps k nothing)) }

-- ---- the lists of others
pub lists_none : {starts others : List ℕ} {b : Bool} (n : ℕ) → b ≡ no_lists starts others → b ≡ true → ListsCut starts others n
lists_none n e f = inl (sym e ∙ f)

pub lists_cut : (starts others : List ℕ) {b : Bool} (n : ℕ) (t : Bool) → b ≡ no_lists starts others → b ≡ false → Says t (CellsOf starts others n) → Says t (ListsCut starts others n)
lists_cut starts others n t e f c = says_or (CellsOf starts others n) t (λ h. no_both (sym h ∙ sym e ∙ f)) c

pub cut_only : (starts others : List ℕ) (n : ℕ) → ListsCut starts others n → (no_lists starts others ≡ true) ⊎ Cells starts (length others)
cut_only starts others n (inl e) = inl e
cut_only starts others n (inr c) = inr c.cut

-- no lists: nothing is used
pub none_used : (starts others : List ℕ) → no_lists starts others ≡ true → others ≡ entries_of_all starts others
none_used starts others e = let h = lists_empty starts others e in rw (h.0, h.1) refl

pub used_is : (off ix : List ℕ) (last end : ℕ) → last ≡ length off - 1 → end ≡ get_or off last 0 → take end ix ≡ entries_of_all off ix
used_is off ix last end e f = rw (f, e) refl

-- ---- all
module _ (sound : Bool) (sites v : List Float) (off ix starts others : List ℕ) (bits : ℕ) {g : ℕ} (a : GivenNumber sound sites (length v) (length ix) bits g) where
  pub bad_given : g ≢ 0 → AuditNumber sound sites v off ix starts others bits g
  bad_given n = record { found = finds_first _ n a.found }

  module _ (z : g ≡ 0) where
    pub no_cells : (CellsOf off ix (length sites / 2) → ⊥) → AuditNumber sound sites v off ix starts others bits refused_offsets
    no_cells n = record { found = finds_after (given_rules sound sites (length v) (length ix) bits) (finds_keep (λ r. r ≡ 0) (search rules) z a.found) (breaks n) }

    module _ (c : CellsOf off ix (length sites / 2)) where
      pub no_starts : (ListsCut starts others (length sites / 2) → ⊥) → AuditNumber sound sites v off ix starts others bits refused_offsets
      no_starts n = record { found = finds_after (given_rules sound sites (length v) (length ix) bits) (finds_keep (λ r. r ≡ 0) (search rules) z a.found) (keeps c (breaks n)) }

      pub by_entries : ListsCut starts others (length sites / 2) → {x y : List ℕ} {r : ℕ} → x ≡ entries_of_all off ix → y ≡ entries_of_all starts others
          → AuditEntries v x y (length sites / 2) r → AuditNumber sound sites v off ix starts others bits r
      by_entries l {x} {y} {r} e f n = record {
        found = finds_after (given_rules sound sites (length v) (length ix) bits) (finds_keep (λ r. r ≡ 0) (search rules) z a.found) (keeps c (keeps l (rw (e, f) at n.found)));
      }
