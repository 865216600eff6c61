-- Theorem: the query for a cell, lent the offsets and the index list that a build leaves, hands back the definition's cell.
use Rattle.std.specs.Prelude.{◌≡◌, refl, List, [], ◌∷◌, ◌++◌, ℕ, zero, suc, ◌+◌, ◌-◌, ◌≤◌, ◌<◌, length, get_or}
use Rattle.std.proofs.Common.{◌∙◌, append_assoc, arith, length-append, take_at, drop_at, eq-eqb}
use Rattle.cell_memory.specs.layout.Regions.{joined, offsets_from}
use Rattle.cell_memory.specs.layout.laws.Compacted.{offsets_length}
use Rattle.walks.specs.shared.Cells.{Cells, cell_of}
use Rattle.base.specs.common.laws.Refusals.{keeps, nothing}
use Rattle.cell_query.specs.Cells.{CellAnswer}
use Rattle.cell_query.specs.laws.Cells.{cell_number}
use Rattle.cell_query.specs.laws.Offsets.{first_offset, shift, bounds, climbs}

-- cells that stand after `before`, whose offsets count from its length
pub read_from : (before rest : List ℕ) (cells : List (List ℕ)) (s : ℕ) → s < length cells → cell_of (offsets_from (length before) cells) (before ++ joined cells ++ rest) s ≡ get_or cells s []
unfolding offsets_from joined cell_of
read_from before rest [] s h = absurd (omega arith)
read_from before rest (c ∷ cells) zero h =
    let n : get_or (offsets_from (length before + length c) cells) 0 0 - length before ≡ length c = rw (first_offset (length before + length c) cells) (omega arith) in
    rw (
      n,
      append_assoc before (c ++ joined cells) rest,
      drop_at before ((c ++ joined cells) ++ rest) (length before) refl,
      append_assoc c
          (joined cells) rest,
    ) (take_at c (joined cells ++ rest) (length c) refl)
read_from before rest (c ∷ cells) (suc s) h =
    shift (length before) (offsets_from (length before + length c) cells) (before ++ (c ++ joined cells) ++ rest) s
    ∙ rw (← append_assoc before c (joined cells), ← length-append before c) (read_from (before ++ c) rest cells s (omega arith))

pub cut : (cells : List (List ℕ)) (room : ℕ) → length (joined cells) ≤ room → Cells (offsets_from 0 cells) room
cut cells room h = record {
  some = omega (arith, offsets_length 0 cells);
  start = first_offset 0 cells;
  rising = climbs 0 cells;
  within = λ i l. omega (arith, (bounds 0 cells i l).1);
}

-- the offsets of some cells, and an index list that begins with them
pub read_back : (cells : List (List ℕ)) (spare : List ℕ) (s : ℕ) {part : List ℕ} {r : ℕ} → s < length cells
    → CellAnswer (offsets_from 0 cells) (joined cells ++ spare) s part r → (r ≡ 0) × (part ≡ get_or cells s [])
read_back cells spare s {part} {r} h a =
    let off = offsets_from 0 cells in
    let ix = joined cells ++ spare in
    let n : s < length off - 1 = omega (arith, offsets_length 0 cells) in
    let m : length off ≡ length off - 1 + 1 = omega (arith, offsets_length 0 cells) in
    let fits : length (joined cells) ≤ length ix = omega (arith, length-append (joined cells) spare) in
    let z : r ≡ 0 = cell_number off ix s a.number (record { found = keeps n (keeps (record { many = m; cut = cut cells (length ix) fits }) nothing) }) in
    (z, a.entries ∙ rw (eq-eqb r 0 z) (read_from [] spare cells s h))
