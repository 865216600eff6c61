-- Cells that stand one after the other are pieces that can be audited.
use Rattle.std.specs.Prelude.{◌≡◌, ℕ, zero, suc, ◌+◌, ◌-◌, ◌/◌, ◌<◌, ◌≤◌, true, List, [], ◌∷◌, ◌++◌, map, length, get_or, take, slice_index, slice_index_or, refl, Float}
use Rattle.std.proofs.Common.{sym, ap, ◌∙◌, append-nil, arith, add-one, length-append, take_all}
use Rattle.std.proofs.Math.Path.{subst}
use Rattle.std.proofs.Math.Logic.{inl}
use Rattle.definition.specs.Cell.{Mark, plain, crossing, wrapped, Entry, unmarked}
use Rattle.definition.specs.Measures.{ValidEntry, ValidEntries}
use Rattle.cell_memory.specs.layout.Regions.{joined, offsets_from}
use Rattle.cell_memory.specs.layout.laws.Compacted.{offsets_length}
use Rattle.printing.specs.laws.CellsInIndexes.{offset_at, next_at}
use Rattle.arguments.specs.asking.Asks.{CellsOf}
use Rattle.arguments.specs.entries.Named.{EntriesNamed}
use Rattle.areas.specs.Promise.{entries_of_all, KeepsRule}
use Rattle.auditing.specs.nearer.Nearer.{no_lists}
use Rattle.form.specs.Limits.{most_sites}
use Rattle.printing.specs.Rooms.{index_room}
use Rattle.auditing.specs.rules.Kept.{AuditKept}

-- ---- entries that name one of n vertices
abbrev AllBelow : ℕ → List ℕ → Type 0
AllBelow n [] = Unit {0}
AllBelow n (e ∷ es) = (e < n) × AllBelow n es

below_append : (n : ℕ) (a b : List ℕ) → AllBelow n a → AllBelow n b → AllBelow n (a ++ b)
below_append n [] b p q = q
below_append n (e ∷ a) b p q = (p.0, below_append n a b p.1 q)

below_at : (n : ℕ) (es : List ℕ) → AllBelow n es → (k : ℕ) → k < length es → slice_index es k < n
below_at n [] p k l = absurd (omega arith)
below_at n (e ∷ es) p zero l = p.0
below_at n (e ∷ es) p (suc k) l = below_at n es p.1 k (omega arith)

placed : (P : ℕ → Type 0) (nc n : ℕ) → nc + 4 ≤ n → (es : List Entry) → ValidEntries P nc n es → AllBelow n (unmarked es)
placed P nc n h [] p = tt
placed P nc n h (e ∷ es) p = (one e.mark e.at p.0, placed P nc n h es p.1)
  where
    one : (m : Mark) (v : ℕ) → ValidEntry P nc n m v → v < n
    one plain v q = omega (arith, q.1)
    one crossing v q = omega (arith, q.1)
    one wrapped v q = omega (arith, q.1)

all_placed : (P : ℕ → Type 0) (nc n : ℕ) → nc + 4 ≤ n → (cs : List (List Entry)) → ((s : ℕ) → ValidEntries P nc n (slice_index_or cs s [])) → AllBelow n (joined (map unmarked cs))
unfolding joined
all_placed P nc n h [] p = tt
all_placed P nc n h (c ∷ cs) p = below_append n (unmarked c) (joined (map unmarked cs)) (placed P nc n h c (p 0)) (all_placed P nc n h cs (λ s. p (suc s)))

pub pieces_named : (P : ℕ → Type 0) (nc n : ℕ) → nc + 4 ≤ n → (cs : List (List Entry)) → ((s : ℕ) → ValidEntries P nc n (slice_index_or cs s [])) → EntriesNamed (joined (map unmarked cs)) n
pieces_named P nc n h cs p = record { each = below_at n (joined (map unmarked cs)) (all_placed P nc n h cs p) }

-- ---- the offsets cut them
joined_le : (cs : List (List ℕ)) (k : ℕ) → length (joined (take k cs)) ≤ length (joined cs)
unfolding joined
joined_le [] zero = omega arith
joined_le [] (suc k) = omega arith
joined_le (c ∷ cs) zero = omega arith
joined_le (c ∷ cs) (suc k) = omega (arith, length-append c (joined (take k cs)), length-append c (joined cs), joined_le cs k)

module _ (cs : List (List ℕ)) where
  abbrev off : List ℕ
  off = offsets_from 0 cs

  starts_at_lem : (k : ℕ) → k ≤ length cs → slice_index off k ≡ length (joined (take k cs))
  starts_at_lem k h = ap (λ (l : List ℕ). slice_index l k) (sym (append-nil off)) ∙ offset_at cs [] [] k h

  ends_at : (k : ℕ) → k < length cs → slice_index off (suc k) ≡ length (joined (take k cs)) + length (slice_index_or cs k [])
  ends_at k h = ap (λ (l : List ℕ). slice_index l (suc k)) (sym (append-nil off)) ∙ next_at cs [] [] k h

  pub last_at : get_or off (length cs) 0 ≡ length (joined cs)
  last_at = starts_at_lem (length cs) (omega arith) ∙ ap (λ (l : List (List ℕ)). length (joined l)) (take_all (length cs) cs (omega arith))

  rises : (i : ℕ) → i < length cs → slice_index off i ≤ slice_index off (i + 1)
  rises i h = rw (add-one i) (omega (arith, starts_at_lem i (omega arith), ends_at i h))

  cut : CellsOf off (joined cs) (length cs)
  unfolding joined
  cut = record {
    many = omega (arith, offsets_length 0 cs);
    cut = record {
      some = omega (arith, offsets_length 0 cs);
      start = starts_at_lem 0 (omega arith);
      rising = λ i h. rises i (omega (arith, offsets_length 0 cs));
      within = λ i h. omega (arith, starts_at_lem i (omega (arith, offsets_length 0 cs)), joined_le cs i);
    };
  }

  all_entries_lem : entries_of_all off (joined cs) ≡ joined cs
  all_entries_lem =
      let e : length off - 1 ≡ length cs = omega (arith, offsets_length 0 cs) in
      ap (λ (k : ℕ). take (slice_index off k) (joined cs)) e ∙ ap (λ (k : ℕ). take k (joined cs)) last_at ∙ take_all (length (joined cs)) (joined cs) (omega arith)

  pub pieces_kept : (sites v : List Float) → length cs ≡ length sites / 2 → length cs ≤ most_sites → length (joined cs) ≤ index_room → EntriesNamed (joined cs) (length v / 2) → KeepsRule v (joined cs)
      → AuditKept true sites v off (joined cs) [] [] 20
  unfolding no_lists
  pieces_kept sites v n few short named kept =
      let a : EntriesNamed (entries_of_all off (joined cs)) (length v / 2) = subst (λ (l : List ℕ). EntriesNamed l (length v / 2)) (sym all_entries_lem) named in
      record {
        box = refl;
        fine = omega arith;
        rings = record { cut = cut.cut; few = omega arith; named = a; kept = subst (KeepsRule v) (sym all_entries_lem) kept };
        pieces = record { cut = subst (CellsOf off (joined cs)) n cut; named = a };
        held = record { cut = inl refl; named = record { each = λ k l. absurd (omega arith) } };
        many = omega (arith, offsets_length 0 cs);
      }
