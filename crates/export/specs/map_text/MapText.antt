-- The lines that map tools read: a site's number and its polygon in hexadecimal digits, lower case. Definitions only.
use Rattle.std.specs.Prelude.{List, [], ◌++◌, ℕ, zero, suc, ◌≤◌, ◌<◌, length}
use Rattle.octets.specs.hex.Hex.{hex}
use Rattle.printing.specs.parts.Text.{ascii, decimal}
use Rattle.printing.specs.parts.Listed.{listed_cell, Layout}
use Rattle.arguments.specs.entries.Named.{EntriesNamed}
use Rattle.wkb.specs.Promise.{image}

unfoldable pub map_line : ℕ → List ℕ → List ℕ
map_line i bytes = decimal i ++ ascii "," ++ hex bytes ++ ascii "\n"

unfoldable pub heading : List ℕ
heading = ascii "site,geometry\n"

-- the lines of n cells from cell i on, by offsets and index list; v has the vertices' patterns
unfoldable pub map_lines : List ℕ → List ℕ → List ℕ → ℕ → ℕ → List ℕ
map_lines v off ix i zero = []
map_lines v off ix i (suc n) = map_line i (image v (listed_cell off ix i)) ++ map_lines v off ix (suc i) n

unfoldable pub map_text : List ℕ → List ℕ → List ℕ → ℕ → List ℕ
map_text v off ix n = heading ++ map_lines v off ix 0 n

-- n cells that can be drawn over so many vertices: offsets that a listing can go by, entries that name vertices, at most 3,076 to a cell
pub record Drawn (off ix : List ℕ) (n count : ℕ) : Type 0 where
  pub layout : Layout off ix n
  pub named : (i : ℕ) → i < n → EntriesNamed (listed_cell off ix i) count
  pub short : (i : ℕ) → i < n → length (listed_cell off ix i) ≤ 3076
