-- Cells that stand one after the other in an index list, with their offsets: what goes by the offsets draws each of them.
use Rattle.std.specs.Prelude.{◌≡◌, length, get_or, take, drop}
use Rattle.std.proofs.Math.Path.{refl, subst}
use Rattle.std.proofs.Common.{ap, add-zero, length-append}
use mathlib.Core.List.{List, [], ◌∷◌, ◌++◌}
use Prim.Native.Nat.{ℕ, suc, ◌+◌, ◌/◌, ◌≤◌, ◌<◌}
use native.Mathlib.Omega.{arith}
use Rattle.cell_memory.specs.layout.Regions.{joined, offsets_from}
use Rattle.cell_memory.specs.layout.laws.Compacted.{offsets_length}
use Rattle.form.specs.Limits.{most_sites}
use Rattle.printing.specs.Rooms.{index_room}
use Rattle.printing.specs.parts.Listed.{listed_cell, Layout}
use Rattle.arguments.specs.entries.Named.{EntriesNamed}
use Rattle.wkb.specs.Promise.{image}
use Rattle.export.specs.map_text.MapText.{map_line, map_lines}
use Rattle.export.specs.Printed.{drawn_from}
use Rattle.export.specs.Shown.{CanDraw}
use Rattle.printing.specs.laws.CellsInIndexes.{joined_split, offset_at, next_at, cell_at, total}

-- the offsets and the index list may go on after the cells
module _ (cs : List (List ℕ)) (more rest : List ℕ) where
  abbrev off : List ℕ
  off = offsets_from 0 cs ++ more

  abbrev ix : List ℕ
  ix = joined cs ++ rest

  module _ (v w : List ℕ) where
    lines_by : (ds : List (List ℕ)) (i : ℕ) → ((k : ℕ) → k < length ds → listed_cell off ix (i + k) ≡ get_or ds k [])
        → ((k : ℕ) → k < length ds → image v (get_or ds k []) ≡ image w (get_or ds k [])) → map_lines v off ix i (length ds) ≡ drawn_from w i ds
    unfolding map_lines drawn_from
    lines_by [] i h g = refl
    lines_by (d ∷ ds) i h g =
        let q : listed_cell off ix i ≡ d = subst (λ (j : ℕ). listed_cell off ix j ≡ d) (add-zero i) (h 0 (omega arith)) in
        let more = lines_by ds (suc i) (λ k l. let e : suc i + k ≡ i + suc k = omega arith in rw e (h (suc k) (omega arith))) (λ k l. g (suc k) (omega arith)) in
        rw (q, g 0 (omega arith)) (ap (λ (l : List ℕ). map_line i (image w d) ++ l) more)

    pub lines_are : ((k : ℕ) → k < length cs → image v (get_or cs k []) ≡ image w (get_or cs k [])) → map_lines v off ix 0 (length cs) ≡ drawn_from w 0 cs
    lines_are g = lines_by cs 0 (λ k h. let e : 0 + k ≡ k = omega arith in rw e (cell_at cs more rest k h)) g

  laid : length cs ≤ most_sites → Layout off ix (length cs)
  laid few = record {
    long = omega (arith, length-append (offsets_from 0 cs) more, offsets_length 0 cs);
    few = omega arith;
    rise = λ i h. omega (arith, offset_at cs more rest i (omega arith), next_at cs more rest i h);
    within = λ i h. omega (arith, next_at cs more rest i h, all_length i h, length-append (joined cs) rest);
  }
    where
      all_length : (i : ℕ) → i < length cs → length (joined (take i cs)) + length (get_or cs i []) ≤ length (joined cs)
      all_length i h = omega (
        arith,
        ap length (joined_split cs i h),
        length-append (joined (take i cs) ++ get_or cs i []) (joined (drop (suc i) cs)),
        length-append (joined (take i cs)) (get_or cs i []),
      )

  short_at : (i : ℕ) → i < length cs → length (get_or cs i []) ≤ length (joined cs)
  short_at i h = omega (
    arith,
    ap length (joined_split cs i h),
    length-append (joined (take i cs) ++ get_or cs i []) (joined (drop (suc i) cs)),
    length-append (joined (take i cs)) (get_or cs i []),
  )

  -- within the form's limits they can be drawn
  pub can_draw : (numbers : ℕ) → length cs ≤ most_sites → length ix ≤ index_room → ((i : ℕ) → i < length cs → EntriesNamed (get_or cs i []) (numbers / 2)) → CanDraw (length cs) numbers off ix
  can_draw numbers few short named =
      let all : length ix ≡ length (joined cs) + length rest = length-append (joined cs) rest in
      record {
        few = few;
        drawn = record {
          layout = laid few;
          named = λ i h. rw (cell_at cs more rest i h) (named i h);
          short = λ i h. rw (cell_at cs more rest i h) (omega (arith, short_at i h));
        };
        short = omega (arith, total cs more rest);
      }
