-- How long the slices of `certify` are: so that the cutting of every form has room in them (rule 2), and the certificate of what it made. Definitions only.
use Rattle.std.specs.Prelude.{ℕ, ◌+◌, ◌*◌}
use Rattle.certifying.specs.rules.Rules.{certify_room}
use Rattle.form.specs.Limits.{most_triangles, most_hull, most_coordinates}

-- two numbers to a vertex: 3,080
abbrev pub cut_vertex_room : ℕ
cut_vertex_room = 2 * (7 * most_triangles + 2 * most_hull + 4)

-- 4,128
abbrev pub cut_index_room : ℕ
cut_index_room = 16 * most_triangles + 11 * most_hull

-- 12,640
abbrev pub certify_work : ℕ
certify_work = certify_room most_coordinates cut_index_room
