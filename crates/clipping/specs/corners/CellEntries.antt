-- What a function that puts entries into a cell does to the index list.
use Rattle.std.specs.Prelude.{ℕ, ◌+◌, ◌≤◌, ◌<◌, ◌≡◌, Bool, true, false, List, length}
use Rattle.std.proofs.lemmas.List.Edits.{sets}
use Rattle.base.specs.common.Count.{occ}
use Rattle.base.specs.numbers.Numbers.{EMPTY}
use Rattle.definition.specs.Cell.{unmarked, Ins, last_or}
use Rattle.clipping.specs.declared.corners.CellSoFar.{CellSoFar}

-- before place n there is room for `most` entries more, and for the corners that are still the site's
pub record EntryRoom (site most : ℕ) (cell : CellSoFar) (n : ℕ) : Type 0 where
  pub four : length cell.owners ≡ 4
  pub real : site < EMPTY
  pub room : cell.end + most + occ site cell.owners ≤ n

-- the definition's entries and owners i, written after the cell's; beside the site's corners they are `most` at most
pub record EntriesPut (site most : ℕ) (i : Ins) (cell : CellSoFar) (ix : List ℕ) (cell₁ : CellSoFar) (ix₁ : List ℕ) : Type 0 where
  pub slice : ix₁ ≡ sets ix cell.end (unmarked i.new)
  pub owners : cell₁.owners ≡ i.owners
  pub place : cell₁.end ≡ cell.end + length i.new
  pub last : cell₁.last ≡ last_or cell.last i.new
  pub four : length cell₁.owners ≡ 4
  pub fit : cell₁.end + occ site cell₁.owners ≤ cell.end + most + occ site cell.owners

-- the entries that an edge along the box puts in beside corners: its first vertex only where that is not the last entry already
abbrev pub places : Bool → ℕ
places true = 1
places false = 2
