-- Cells that stand one after the other in an index list, with their offsets: a listing that goes by the offsets writes the line of each of them.
use Rattle.std.specs.Prelude.{◌≡◌, length, get_or, take, drop}
use Rattle.std.proofs.Math.Path.{refl, subst}
use Rattle.std.proofs.Common.{ap, add-zero, length-append}
use mathlib.Core.List.{List, [], ◌∷◌, ◌++◌}
use Prim.Native.Nat.{ℕ, suc, ◌+◌, ◌≤◌, ◌<◌}
use native.Mathlib.Omega.{arith}
use Rattle.cell_memory.specs.layout.Regions.{joined, offsets_from}
use Rattle.cell_memory.specs.layout.laws.Compacted.{offsets_length}
use Rattle.cells.specs.listing.Listing.{cell_line, cell_lines}
use Rattle.form.specs.Limits.{most_sites}
use Rattle.printing.specs.Rooms.{index_room}
use Rattle.printing.specs.parts.Listed.{listed_cell}
use Rattle.cells.specs.Printed.{lines_of}
use Rattle.cells.specs.answer_text.Shown.{Laid}
use Rattle.printing.specs.laws.CellsInIndexes.{joined_split, offset_at, next_at, cell_at, total}

-- the offsets and the index list may go on after the cells
module _ (cs : List (List ℕ)) (more rest : List ℕ) where
  abbrev off : List ℕ
  off = offsets_from 0 cs ++ more

  abbrev ix : List ℕ
  ix = joined cs ++ rest

  lines_by : (ds : List (List ℕ)) (i : ℕ) → ((k : ℕ) → k < length ds → listed_cell off ix (i + k) ≡ get_or ds k []) → cell_lines off ix i (length ds) ≡ lines_of i ds
  unfolding cell_lines lines_of
  lines_by [] i h = refl
  lines_by (d ∷ ds) i h =
      let q : listed_cell off ix i ≡ d = subst (λ (j : ℕ). listed_cell off ix j ≡ d) (add-zero i) (h 0 (omega arith)) in
      rw q (ap (λ (l : List ℕ). cell_line i d ++ l) (lines_by ds (suc i) (λ k l. let e : suc i + k ≡ i + suc k = omega arith in rw e (h (suc k) (omega arith)))))

  pub lines_are : cell_lines off ix 0 (length cs) ≡ lines_of 0 cs
  lines_are = lines_by cs 0 (λ k h. let e : 0 + k ≡ k = omega arith in rw e (cell_at cs more rest k h))

  -- within the form's limits there is room for their listing
  pub laid : (space : ℕ) → length cs ≤ most_sites → length ix ≤ index_room → 65536 ≤ space → Laid (length cs) off ix space
  laid space few short room =
      let all : length ix ≡ length (joined cs) + length rest = length-append (joined cs) rest in
      record {
        few = few;
        layout = record {
          long = omega (arith, length-append (offsets_from 0 cs) more, offsets_length 0 cs);
          few = omega arith;
          rise = λ i h. omega (arith, offset_at cs more rest i (omega arith), next_at cs more rest i h);
          within = λ i h. omega (
            arith,
            next_at cs more rest i h,
            ap length (joined_split cs i h),
            length-append (joined (take i cs) ++ get_or cs i [])
                (joined (drop (suc i) cs)),
            length-append (joined (take i cs)) (get_or cs i []),
          );
        };
        short = omega (arith, total cs more rest);
        room = room;
      }
