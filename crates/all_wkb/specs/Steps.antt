-- What the steps to the answer owe each other. Definitions only.
use Rattle.std.specs.Prelude.{List, ℕ, ◌/◌, ◌^◌, ◌≤◌, Float, length}
use Rattle.walks.specs.shared.Cells.{Cells, cell_of}
use Rattle.arguments.specs.entries.Named.{EntriesNamed}
use Rattle.cell_memory.specs.layout.Regions.{joined}
use Rattle.areas.specs.Promise.{entries_of_all}
use Rattle.wkb.specs.Polygon.{size}
use Rattle.all_wkb.specs.Promise.{images_of}

-- as many as rule 1 allows
abbrev pub FewEntries : ℕ → Type 0
FewEntries n = n ≤ 2 ^ 24

-- how many bytes the image of cell s has
abbrev pub size_at : List ℕ → List ℕ → ℕ → ℕ
size_at off ix s = size (length (cell_of off ix s))

-- what the rules before 18 ask
pub record ImagesNamed (off ix : List ℕ) : Type 0 where
  pub cut : Cells off (length ix)
  pub few : FewEntries (length ix)

-- all that the rules ask
pub record ImagesFit (v : List Float) (off ix : List ℕ) (starts out : ℕ) : Type 0 where
  pub cells : ImagesNamed off ix
  pub named : EntriesNamed (entries_of_all off ix) (length v / 2)
  pub one_more : length off ≤ starts
  pub room : length (joined (images_of v off ix)) ≤ out
