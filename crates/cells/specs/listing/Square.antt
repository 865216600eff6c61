-- Rows: the listing of "square" (docs/use/RULES.md), byte for byte, with an empty cell's line. By computation.
use Rattle.std.specs.Prelude.{◌≡◌, refl, List, [], ◌∷◌, ℕ}
use Rattle.printing.specs.parts.Text.{ascii, digits, decimal}
use Rattle.printing.specs.parts.Labelled.{entries, labelled}
use Rattle.cells.specs.listing.Listing.{counts, cell_line, cell_lines, counts_and_cells, corners, reused_line, listing}

abbrev pub offsets : List ℕ
offsets = 0 ∷ 5 ∷ 9 ∷ 14 ∷ 18 ∷ []

abbrev pub cells : List ℕ
cells = 1 ∷ 10 ∷ 2 ∷ 11 ∷ 0 ∷ 0 ∷ 11 ∷ 3 ∷ 12 ∷ 0 ∷ 12 ∷ 4 ∷ 13 ∷ 1 ∷ 1 ∷ 13 ∷ 5 ∷ 10 ∷ []

abbrev pub owners : List ℕ
owners = 0 ∷ 1 ∷ 2 ∷ 3 ∷ []

pub rows :
    (listing 4 2 14 offsets cells owners 0 0 4 0
    ≡ ascii "sites 4 triangles 2 vertices 14\ncell 0: 1 10 2 11 0\ncell 1: 0 11 3 12\ncell 2: 0 12 4 13 1\ncell 3: 1 13 5 10\ncorners 0 1 2 3 lost 0\nreused 0 4 0\n")
    × (cell_line 4 [] ≡ ascii "cell 4:\n")
unfolding digits decimal entries labelled counts cell_line cell_lines counts_and_cells corners reused_line listing
rows = (refl, refl)
