-- What the call for the neighbours of all sites promises: a number by rules in order, the lists one after the other and where each begins, then EMPTY. Definitions only.
use Rattle.std.specs.Prelude.{◌≡◌, false, List, [], ◌∷◌, ◌++◌, ℕ, ◌+◌, ◌≤◌, ◌<◌, eqb, length}
use Rattle.base.specs.common.Pick.{pick}
use Rattle.base.specs.common.Refusals.{Rule, once, Finds}
use Rattle.base.specs.numbers.Numbers.{EMPTY, refused_offsets}
use Rattle.mesh.specs.Rules.{call_rules}
use Rattle.mesh.specs.Accepted.{Mesh, site_count}
use Rattle.mesh_check.specs.whole.AtExit.{at_exit}
use Rattle.mesh_check.specs.whole.Answers.{work_after}
use Rattle.cell_memory.specs.layout.Regions.{joined, offsets_from}
use Rattle.cell_memory.specs.layout.Cleared.{padded}
use Rattle.arguments.specs.asking.Asks.{CellsOf}
use Rattle.queries.specs.all_neighbours.Lists.{nothing_lent, all_neighbours}

-- rule 2, by numbers: of n sites, `entries` triangle entries and h hull sites, in slices of so many entries
pub record ListsRoom (n entries h work starts out : ℕ) : Type 0 where
  pub table : n ≤ work
  pub cuts : n < starts
  pub lists : entries + h ≤ out

abbrev pub RoomFor : Mesh → ℕ → ℕ → ℕ → Type 0
RoomFor m = ListsRoom (site_count m.sites) (length m.triangles) (length m.hull)

-- rule 16: cells that are lent are those of n sites
pub record CellsLent (off ix : List ℕ) (n : ℕ) : Type 0 where
  pub cells : nothing_lent (length off) (length ix) ≡ false → CellsOf off ix n

abbrev pub lent_rules : List ℕ → List ℕ → ℕ → List (Rule ℕ)
lent_rules off ix n = once refused_offsets (CellsLent off ix n) ∷ []

-- a slice of `old` after the number r: what was made and then EMPTY; 16 leaves it as it was
unfoldable pub made_after : List ℕ → List ℕ → ℕ → List ℕ
made_after made old r = pick (eqb r refused_offsets) (λ _. old) (λ _. at_exit EMPTY (padded (length old) EMPTY made) old r)

-- w, st and o are the work slice, the starts and the output, w', st' and o' at exit
pub record AllNeighboursAnswer (m : Mesh) (off ix w w' st st' o o' : List ℕ) (r : ℕ) : Type 0 where
  pub number : Finds (call_rules m (RoomFor m (length w) (length st) (length o)) [] ++ lent_rules off ix (site_count m.sites)) 0 r
  pub work : w' ≡ work_after m w r
  pub starts : st' ≡ made_after (offsets_from 0 (all_neighbours m off ix)) st r
  pub out : o' ≡ made_after (joined (all_neighbours m off ix)) o r
