-- What the steps to the lists owe each other. Definitions only.
use Rattle.std.specs.Prelude.{◌≡◌, false, List, ℕ, ◌+◌, ◌≤◌, ◌<◌, length}
use Rattle.std.proofs.lemmas.List.Edits.{sets}
use Rattle.base.specs.numbers.Numbers.{EMPTY}
use Rattle.mesh.specs.Mesh.{Paired}
use Rattle.queries.specs.clipped.Clippable.{Clippable}
use Rattle.cell_memory.specs.layout.Regions.{joined, offsets_from}
use Rattle.cell_memory.specs.layout.Cleared.{padded}
use Rattle.queries.specs.all_neighbours.Lists.{nothing_lent, list_of, lists_to}

-- the list of site s can be made: the pairing is right, and cells that are lent are cells of all sites
pub record Listable (tri he off ix : List ℕ) (s : ℕ) : Type 0 where
  pub paired : Paired tri he
  pub even : length he ≡ length tri
  pub clippable : nothing_lent (length off) (length ix) ≡ false → Clippable tri he off ix
  pub cell : nothing_lent (length off) (length ix) ≡ false → s + 1 < length off

-- the lists of all sites of the table can be made, and fit the slices
pub record ListsFit (tri he table off ix : List ℕ) (starts out : ℕ) : Type 0 where
  pub listable : (s : ℕ) → s < length table → Listable tri he off ix s
  pub room : length (joined (lists_to (list_of tri he table off ix) (length table))) ≤ out
  pub few : length (joined (lists_to (list_of tri he table off ix) (length table))) < EMPTY
  pub one_more : length table < starts
  pub few_sites : length table < EMPTY

-- a list written at place n; r is where it ends
pub record Appended (list out out' : List ℕ) (n r : ℕ) : Type 0 where
  pub end : r ≡ n + length list
  pub entries : out' ≡ sets out n list

-- all lists: where each begins and where the last ends, and the lists one after the other; r is where they end
pub record WrittenLists (lists : List (List ℕ)) (starts starts' out out' : List ℕ) (r : ℕ) : Type 0 where
  pub end : r ≡ length (joined lists)
  pub cuts : starts' ≡ sets starts 0 (offsets_from 0 lists)
  pub entries : out' ≡ sets out 0 (joined lists)

-- the same, and then EMPTY
pub record MadeLists (lists : List (List ℕ)) (starts starts' out out' : List ℕ) : Type 0 where
  pub cuts : starts' ≡ padded (length starts) EMPTY (offsets_from 0 lists)
  pub entries : out' ≡ padded (length out) EMPTY (joined lists)
