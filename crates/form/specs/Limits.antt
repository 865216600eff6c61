-- The limits of a form: how many records of each kind it has at most, how many numbers of each list these are, and how many bytes. Definitions only.
use Rattle.std.specs.Prelude.{ℕ, ◌+◌, ◌*◌}

abbrev pub most_sites : ℕ
most_sites = 96

abbrev pub most_triangles : ℕ
most_triangles = 192

abbrev pub most_hull : ℕ
most_hull = 96

abbrev pub most_coordinates : ℕ
most_coordinates = 2 * most_sites

-- of triangles, and of half-edges
abbrev pub most_links : ℕ
most_links = 3 * most_triangles

-- a first record, sites, triangles, hull sites, the end: 6,946
abbrev pub longest_form : ℕ
longest_form = 33 + 17 * most_sites + 25 * most_triangles + 5 * most_hull + 1

-- so many bytes of an input decide what it is
abbrev pub enough_bytes : ℕ
enough_bytes = longest_form + 1
