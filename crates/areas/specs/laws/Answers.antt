-- The number by the tests made, and the answer.
use Rattle.std.specs.Prelude.{◌≡◌, List, [], ◌∷◌, ◌≢◌, ℕ, ◌-◌, ◌/◌, ◌%◌, ◌^◌, ◌≤◌, Float, length, get_or, take}
use Rattle.std.proofs.Math.Path.{refl}
use Rattle.std.proofs.Common.{rules, ne_eqb}
use Rattle.base.specs.common.Refusals.{once}
use Rattle.base.specs.common.laws.Refusals.{breaks, keeps, nothing, finds_first, finds_after, finds_keep}
use Rattle.base.specs.numbers.Numbers.{refused_count, refused_entry, refused_offsets, refused_room, refused_corner}
use Rattle.arguments.specs.asking.Asks.{CellsOf}
use Rattle.arguments.specs.entries.Named.{EntriesNamed}
use Rattle.areas.specs.Promise.{entries_of_all, KeepsRule, corner_rules, areas_after, EntriesNumber, AreasNumber, AreasAnswer}
use Rattle.areas.specs.Steps.{RingsKept, WrittenAreas}

-- ---- the entries
module _ (v : List Float) (l : List ℕ) where
  pub not_named : (EntriesNamed l (length v / 2) → ⊥) → EntriesNumber v l refused_entry
  not_named n = record { found = breaks n }

  pub not_kept : EntriesNamed l (length v / 2) → (KeepsRule v l → ⊥) → EntriesNumber v l refused_corner
  not_kept a n = record { found = keeps a (breaks n) }

  pub all_kept : EntriesNamed l (length v / 2) → KeepsRule v l → EntriesNumber v l 0
  all_kept a b = record { found = keeps a (keeps b nothing) }

-- the entries up to the last offset, as the code has it
pub entries_used : {v : List Float} (off ix : List ℕ) {r : ℕ} (count end : ℕ) → count ≡ length off - 1 → end ≡ get_or off count 0
    → EntriesNumber v (take end ix) r → EntriesNumber v (entries_of_all off ix) r
entries_used off ix count end e f x = rw (f, e) at x

-- ---- the call
module _ (v : List Float) (off ix : List ℕ) (room : ℕ) where
  pub odd_list : length v % 2 ≢ 0 → AreasNumber v off ix room refused_count
  odd_list n = record { found = breaks n }

  module _ (even : length v % 2 ≡ 0) where
    pub many_entries : (length ix ≤ 2 ^ 24 → ⊥) → AreasNumber v off ix room refused_count
    many_entries n = record { found = keeps even (breaks n) }

    module _ (few : length ix ≤ 2 ^ 24) where
      pub not_cut : (CellsOf off ix (length off - 1) → ⊥) → AreasNumber v off ix room refused_offsets
      not_cut n = record { found = keeps even (keeps few (breaks n)) }

      module _ (cut : CellsOf off ix (length off - 1)) {r : ℕ} (e : EntriesNumber v (entries_of_all off ix) r) where
        pub bad_entries : r ≢ 0 → AreasNumber v off ix room r
        bad_entries n = record { found = keeps even (keeps few (keeps cut (finds_first (once refused_room (length off - 1 ≤ room) ∷ []) n e.found))) }

        module _ (z : r ≡ 0) where
          pub no_room : (length off - 1 ≤ room → ⊥) → AreasNumber v off ix room refused_room
          no_room n = record { found = keeps even (keeps few (keeps cut (finds_after (corner_rules v (entries_of_all off ix)) (finds_keep (λ k. k ≡ 0) (search rules) z e.found) (breaks n)))) }

          pub has_room : length off - 1 ≤ room → AreasNumber v off ix room 0
          has_room h = record {
            found = keeps even (keeps few (keeps cut (finds_after (corner_rules v (entries_of_all off ix)) (finds_keep (λ k. k ≡ 0) (search rules) z e.found) (keeps h nothing))));
          }

-- what an admitted call has
pub admitted : {v : List Float} {off ix : List ℕ} {room r : ℕ} → AreasNumber v off ix room r → r ≡ 0 → RingsKept v off ix
admitted a z =
    let k = finds_keep (λ r. r ≡ 0) (search rules) z a.found in
    record { cut = k.1.1.0.cut; few = k.1.0; named = k.1.1.1.0; kept = k.1.1.1.1.0 }

module _ {v : List Float} {off ix : List ℕ} {old : List Float} {r : ℕ} (a : AreasNumber v off ix (length old) r) where
  pub refused_areas : r ≢ 0 → AreasAnswer v off ix old old r
  unfolding areas_after
  refused_areas n = record { number = a; areas = rw (ne_eqb r 0 n) refl }

  pub given_areas : {new : List Float} → r ≡ 0 → WrittenAreas v off ix old new → AreasAnswer v off ix old new 0
  unfolding areas_after
  given_areas {new} z w = record { number = rw z at a; areas = w.areas }
