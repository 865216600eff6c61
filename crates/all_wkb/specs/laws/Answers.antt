-- The number by the tests made, and the answer.
use Rattle.std.specs.Prelude.{◌≡◌, refl, List, ◌≢◌, ℕ, ◌-◌, ◌/◌, ◌%◌, ◌^◌, ◌≤◌, Float, length, get_or, take}
use Rattle.std.proofs.Common.{arith, rules, ne_eqb}
use Rattle.base.specs.common.Count.{sum_to}
use Rattle.base.specs.common.laws.Refusals.{breaks, keeps, nothing, finds_first, finds_after, finds_keep}
use Rattle.base.specs.numbers.Numbers.{refused_count, refused_entry, refused_offsets, refused_room}
use Rattle.arguments.specs.asking.Asks.{CellsOf}
use Rattle.arguments.specs.entries.Named.{EntriesNamed}
use Rattle.octets.specs.laws.Wrote.{wrote_none}
use Rattle.areas.specs.Promise.{entries_of_all}
use Rattle.all_wkb.specs.Promise.{rings_rules, room_rules, starts_after, images_after, CellsNumber, AllNumber, AllWkbAnswer}
use Rattle.all_wkb.specs.Steps.{size_at, ImagesNamed, ImagesFit}
use Rattle.all_wkb.specs.laws.Sizes.{images_long}

-- ---- the cells
-- the entries up to the last offset, as the code has it
pub entries_used : (off ix : List ℕ) {n : ℕ} (count end : ℕ) → count ≡ length off - 1 → end ≡ get_or off count 0 → EntriesNamed (take end ix) n → EntriesNamed (entries_of_all off ix) n
entries_used off ix count end e f x = rw (f, e) at x

pub entries_meant : (off ix : List ℕ) {n : ℕ} (count end : ℕ) → count ≡ length off - 1 → end ≡ get_or off count 0 → EntriesNamed (entries_of_all off ix) n → EntriesNamed (take end ix) n
entries_meant off ix count end e f x = rw (f, e) x

module _ (v : List Float) (off ix : List ℕ) where
  pub odd_list : length v % 2 ≢ 0 → CellsNumber v off ix refused_count
  odd_list n = record { found = breaks n }

  module _ (even : length v % 2 ≡ 0) where
    pub many_entries : (length ix ≤ 2 ^ 24 → ⊥) → CellsNumber v off ix refused_count
    many_entries n = record { found = keeps even (breaks n) }

    module _ (few : length ix ≤ 2 ^ 24) where
      pub not_cut : (CellsOf off ix (length off - 1) → ⊥) → CellsNumber v off ix refused_offsets
      not_cut n = record { found = keeps even (keeps few (breaks n)) }

      module _ (cut : CellsOf off ix (length off - 1)) where
        pub not_named : (EntriesNamed (entries_of_all off ix) (length v / 2) → ⊥) → CellsNumber v off ix refused_entry
        not_named n = record { found = keeps even (keeps few (keeps cut (breaks n))) }

        pub all_named : EntriesNamed (entries_of_all off ix) (length v / 2) → CellsNumber v off ix 0
        all_named a = record { found = keeps even (keeps few (keeps cut (keeps a nothing))) }

-- what they have where they are admitted
module _ {v : List Float} {off ix : List ℕ} {r : ℕ} (a : CellsNumber v off ix r) (z : r ≡ 0) where
  pub cells_given : ImagesNamed off ix
  cells_given =
      let k = finds_keep (λ r. r ≡ 0) (search rules) z a.found in
      record { cut = k.1.1.0.cut; few = k.1.0 }

-- ---- the call
module _ {v : List Float} {off ix : List ℕ} (starts out : ℕ) {r : ℕ} (a : CellsNumber v off ix r) where
  pub bad_cells : r ≢ 0 → AllNumber v off ix starts out r
  bad_cells n = record { found = finds_first (room_rules v off ix starts out) n a.found }

  module _ (z : r ≡ 0) where
    pub no_starts : (length off ≤ starts → ⊥) → AllNumber v off ix starts out refused_room
    no_starts n = record { found = finds_after (rings_rules v off ix) (finds_keep (λ k. k ≡ 0) (search rules) z a.found) (breaks n) }

    module _ (one_more : length off ≤ starts) where
      pub no_room : (sum_to (size_at off ix) (length off - 1) ≤ out → ⊥) → AllNumber v off ix starts out refused_room
      no_room n = record {
        found = finds_after (rings_rules v off ix) (finds_keep (λ k. k ≡ 0) (search rules) z a.found)
            (keeps one_more (breaks (λ h. n (omega (arith, images_long v off ix (length off - 1))))));
      }

      pub has_room : sum_to (size_at off ix) (length off - 1) ≤ out → AllNumber v off ix starts out 0
      has_room h = record {
        found = finds_after (rings_rules v off ix) (finds_keep (λ k. k ≡ 0) (search rules) z a.found)
            (keeps one_more (keeps (omega (arith, images_long v off ix (length off - 1))) nothing));
      }

-- what an admitted call has
pub admitted : {v : List Float} {off ix : List ℕ} {starts out r : ℕ} → AllNumber v off ix starts out r → r ≡ 0 → ImagesFit v off ix starts out
admitted a z =
    let k = finds_keep (λ r. r ≡ 0) (search rules) z a.found in
    record { cells = record { cut = k.1.1.0.cut; few = k.1.0 }; named = k.1.1.1.0; one_more = k.1.1.1.1.0; room = k.1.1.1.1.1.0 }

module _ {v : List Float} {off ix st o : List ℕ} {r : ℕ} (a : AllNumber v off ix (length st) (length o) r) where
  pub refused_all : r ≢ 0 → AllWkbAnswer v off ix st st o o 0 r
  unfolding starts_after images_after
  refused_all n = record { number = a; starts = rw (ne_eqb r 0 n) refl; output = rw (ne_eqb r 0 n) (wrote_none o 0) }
