-- How long a program's slices are: so that the build of every form has room in them (rule 2). Definitions only.
use Rattle.std.specs.Prelude.{ℕ, ◌+◌, ◌*◌}
use Rattle.form.specs.Limits.{most_sites, most_triangles, most_hull}

-- two numbers to a vertex: 3,656
abbrev pub vertex_room : ℕ
vertex_room = 2 * (7 * most_triangles + 5 * most_hull + 4)

-- 3,076
abbrev pub index_room : ℕ
index_room = 12 * most_triangles + 8 * most_hull + 4

-- 97
abbrev pub offset_room : ℕ
offset_room = most_sites + 1
