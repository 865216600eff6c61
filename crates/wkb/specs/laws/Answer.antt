-- The answers of the calls, from the tests that the code makes.
use Rattle.std.specs.Prelude.{◌≡◌, refl, List, [], ◌++◌, ◌≢◌, ℕ, ◌+◌, ◌-◌, ◌/◌, ◌%◌, length}
use Rattle.std.proofs.Common.{◌∙◌, append-nil, add-zero, eq-eqb, ne_eqb, rules}
use Rattle.base.specs.common.laws.Refusals.{breaks, keeps, nothing, finds_keep, finds_first, finds_after}
use Rattle.base.specs.numbers.Numbers.{refused_count, refused_entry, refused_room}
use Rattle.walks.specs.shared.Cells.{cell_of}
use Rattle.arguments.specs.asking.Asks.{site_rules, cell_rules}
use Rattle.cell_query.specs.Cells.{CellAnswer}
use Rattle.octets.specs.Wrote.{Wrote}
use Rattle.octets.specs.laws.Wrote.{wrote_none}
use Rattle.arguments.specs.entries.Named.{EntriesNamed}
use Rattle.wkb.specs.Promise.{ImageFits, image, entry_rules, WkbAnswer, EntriesAnswer}

-- of a cell's entries: n is the number of vertices
module _ (v cell old : List ℕ) (n : ℕ) (half : n ≡ length v / 2) where
  pub not_named : (EntriesNamed cell n → ⊥) → EntriesAnswer v cell old old 0 refused_entry
  not_named q = record { number = breaks (λ a. q (rw half a)); output = wrote_none old 0 }

  module _ (named : EntriesNamed cell n) where
    there : EntriesNamed cell (length v / 2)
    there = rw half at named

    pub no_room : (ImageFits (length cell) (length old) → ⊥) → EntriesAnswer v cell old old 0 refused_room
    no_room q = record { number = keeps there (breaks q); output = wrote_none old 0 }

    pub wrote_image : {new : List ℕ} {w : ℕ} → ImageFits (length cell) (length old) → Wrote old new 0 w (image v cell) → EntriesAnswer v cell old new w 0
    wrote_image s p = record { number = keeps there (keeps s nothing); output = p }

-- no patterns come after
pub no_bits : {v off ix : List ℕ} {s : ℕ} {old new : List ℕ} {w r : ℕ} → WkbAnswer (v ++ []) off ix s old new w r → WkbAnswer v off ix s old new w r
no_bits {v} a = rw (append-nil v) at a

pub no_bits_named : {cell : List ℕ} (n : ℕ) → EntriesNamed cell (n / 2) → EntriesNamed cell ((n + 0) / 2)
no_bits_named n a = rw (add-zero n) a

pub no_bits_wrote : {l m : List ℕ} {a b : ℕ} (v cell : List ℕ) → Wrote l m a b (image (v ++ []) cell) → Wrote l m a b (image v cell)
no_bits_wrote v cell p = rw (append-nil v) at p

-- of a site
module _ (v off ix : List ℕ) (s : ℕ) (old : List ℕ) where
  pub odd_list : length v % 2 ≢ 0 → WkbAnswer v off ix s old old 0 refused_count
  odd_list q = record { number = breaks q; output = wrote_none old 0 }

  module _ (even : length v % 2 ≡ 0) {part : List ℕ} {r : ℕ} (a : CellAnswer off ix s part r) where
    pub no_cell : r ≢ 0 → WkbAnswer v off ix s old old 0 r
    no_cell q = record {
      number = keeps even (finds_first (entry_rules v (cell_of off ix s) (length old)) q a.number.found);
      output = rw (ne_eqb r 0 q) (wrote_none old 0);
    }

    pub of_cell : {new : List ℕ} {w k : ℕ} → r ≡ 0 → EntriesAnswer v part old new w k → WkbAnswer v off ix s old new w k
    of_cell {new} {w} {k} z e =
        let keep = finds_keep (λ n. n ≡ 0) (search rules) z a.number.found in
        let q : part ≡ cell_of off ix s = a.entries ∙ rw (eq-eqb r 0 z) refl in
        let f : EntriesAnswer v (cell_of off ix s) old new w k = rw q at e in
        record {
          number = keeps even (finds_after (site_rules (length off - 1) s ++ cell_rules off ix (length off - 1)) keep f.number);
          output = f.output;
        }
