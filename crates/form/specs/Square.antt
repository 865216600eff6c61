-- Rows: the input "square" of docs/use/RULES.md: its 172 bytes, that they are the form of its mesh, and that they are read as that mesh; the same with its box by edges. By computation.
use Rattle.std.specs.Prelude.{◌≡◌, refl, false, List, [], ◌∷◌, ◌++◌, ℕ, Float, length, replicate, drop}
use Rattle.std.specs.Float.{binary64}
use Rattle.std.specs.Float.Ieee.{of_bits}
use Rattle.base.specs.numbers.Numbers.{EMPTY}
use Rattle.base.specs.common.Binary64.{zero, two}
use Rattle.form.specs.Form.{FormMesh, box, edges, form_of}
use Rattle.form.specs.step.Reader.{size_of, opens, room_left, follows, start, begun, tally, inside, outside, step, within, put_float, put_link, bounds_by, sites_by, triangles_by, halfedges_by}
use Rattle.form.specs.step.Reader.{hull_by, Reading, reading, take, takes, verdict, sound_of}

unfoldable pub square_bytes : List ℕ
square_bytes =
    1 ∷ 0 ∷ 0 ∷ 0 ∷ 0 ∷ 0 ∷ 0 ∷ 0 ∷ 0 ∷ 0 ∷ 0 ∷ 0 ∷ 0 ∷ 0 ∷ 0 ∷ 0 ∷ 0 ∷ 0 ∷ 0 ∷ 0 ∷ 0 ∷ 0 ∷ 0 ∷ 0 ∷ 64 ∷
    0 ∷ 0 ∷ 0 ∷ 0 ∷ 0 ∷ 0 ∷ 0 ∷ 64 ∷
    2 ∷ 0 ∷ 0 ∷ 0 ∷ 0 ∷ 0 ∷ 0 ∷ 224 ∷ 191 ∷ 0 ∷ 0 ∷ 0 ∷ 0 ∷ 0 ∷ 0 ∷ 224 ∷ 191 ∷
    2 ∷ 0 ∷ 0 ∷ 0 ∷ 0 ∷ 0 ∷ 0 ∷ 224 ∷ 191 ∷ 0 ∷ 0 ∷ 0 ∷ 0 ∷ 0 ∷ 0 ∷ 224 ∷ 63 ∷
    2 ∷ 0 ∷ 0 ∷ 0 ∷ 0 ∷ 0 ∷ 0 ∷ 224 ∷ 63 ∷ 0 ∷ 0 ∷ 0 ∷ 0 ∷ 0 ∷ 0 ∷ 224 ∷ 63 ∷
    2 ∷ 0 ∷ 0 ∷ 0 ∷ 0 ∷ 0 ∷ 0 ∷ 224 ∷ 63 ∷ 0 ∷ 0 ∷ 0 ∷ 0 ∷ 0 ∷ 0 ∷ 224 ∷ 191 ∷
    3 ∷ 0 ∷ 0 ∷ 0 ∷ 0 ∷ 1 ∷ 0 ∷ 0 ∷ 0 ∷ 2 ∷ 0 ∷ 0 ∷ 0 ∷ 255 ∷ 255 ∷ 255 ∷ 255 ∷ 255 ∷ 255 ∷ 255 ∷ 255 ∷ 3 ∷ 0 ∷ 0 ∷ 0 ∷
    3 ∷ 0 ∷ 0 ∷ 0 ∷ 0 ∷ 2 ∷ 0 ∷ 0 ∷ 0 ∷ 3 ∷ 0 ∷ 0 ∷ 0 ∷ 2 ∷ 0 ∷ 0 ∷ 0 ∷ 255 ∷ 255 ∷ 255 ∷ 255 ∷ 255 ∷ 255 ∷ 255 ∷ 255 ∷
    4 ∷ 0 ∷ 0 ∷ 0 ∷ 0 ∷
    4 ∷ 1 ∷ 0 ∷ 0 ∷ 0 ∷
    4 ∷ 2 ∷ 0 ∷ 0 ∷ 0 ∷
    4 ∷ 3 ∷ 0 ∷ 0 ∷ 0 ∷
    5 ∷
    []

-- the patterns of 2, 0.5 and -0.5, and the pair of a half-edge that has none
abbrev pub two_is : ℕ
two_is = 0x4000_0000_0000_0000

abbrev pub half_is : ℕ
half_is = 0x3fe0_0000_0000_0000

abbrev pub minus_half_is : ℕ
minus_half_is = 0xbfe0_0000_0000_0000

abbrev pub square : FormMesh
square =
    record {
      clip = box 0 0 two_is two_is;
      sites =
          record { x = minus_half_is; y = minus_half_is }
          ∷ record { x = minus_half_is; y = half_is }
          ∷ record { x = half_is; y = half_is }
          ∷ record { x = half_is; y = minus_half_is }
          ∷ [];
      triangles =
          record { a = 0; b = 1; c = 2; pair_a = EMPTY; pair_b = EMPTY; pair_c = 3 }
          ∷ record { a = 0; b = 2; c = 3; pair_a = 2; pair_b = EMPTY; pair_c = EMPTY }
          ∷ [];
      hull = 0 ∷ 1 ∷ 2 ∷ 3 ∷ [];
    }

abbrev pub half : Float
half = of_bits binary64 half_is

abbrev pub minus_half : Float
minus_half = of_bits binary64 minus_half_is

-- read into lists of exactly its numbers
abbrev pub read_square : Reading
read_square = takes (reading (start false) (replicate 4 zero) (replicate 8 zero) (replicate 6 0) (replicate 6 0) (replicate 4 0)) square_bytes

pub rows :
    (length square_bytes ≡ 172)
    × (form_of square ≡ square_bytes)
    × (verdict read_square.reader ≡ sound_of 4 2 4 1)
    × (read_square.bounds ≡ zero ∷ zero ∷ two ∷ two ∷ [])
    × (read_square.sites ≡ minus_half ∷ minus_half ∷ minus_half ∷ half ∷ half ∷ half ∷ half ∷ minus_half ∷ [])
    × (read_square.triangles ≡ 0 ∷ 1 ∷ 2 ∷ 0 ∷ 2 ∷ 3 ∷ [])
    × (read_square.halfedges ≡ EMPTY ∷ EMPTY ∷ 3 ∷ 2 ∷ EMPTY ∷ EMPTY ∷ [])
    × (read_square.hull ≡ 0 ∷ 1 ∷ 2 ∷ 3 ∷ [])
unfolding square_bytes form_of takes take step inside outside tally follows opens room_left begun size_of within put_float put_link bounds_by sites_by triangles_by halfedges_by hull_by verdict
rows = (refl, refl, refl, refl, refl, refl, refl, refl)

-- ---- the same with its box by edges, from -1 to 1

abbrev pub one_is : ℕ
one_is = 0x3ff0_0000_0000_0000

abbrev pub minus_one_is : ℕ
minus_one_is = 0xbff0_0000_0000_0000

abbrev pub edges_square : FormMesh
edges_square =
    record {
      clip = edges minus_one_is minus_one_is one_is one_is;
      sites = square.sites;
      triangles = square.triangles;
      hull = square.hull;
    }

abbrev pub edges_bytes : List ℕ
edges_bytes =
    (7 ∷ 0 ∷ 0 ∷ 0 ∷ 0 ∷ 0 ∷ 0 ∷ 240 ∷ 191 ∷ 0 ∷ 0 ∷ 0 ∷ 0 ∷ 0 ∷ 0 ∷ 240 ∷ 191 ∷
    0 ∷ 0 ∷ 0 ∷ 0 ∷ 0 ∷ 0 ∷ 240 ∷ 63 ∷ 0 ∷ 0 ∷ 0 ∷ 0 ∷ 0 ∷ 0 ∷ 240 ∷ 63 ∷ []) ++ drop 33 square_bytes

abbrev read_edges : Reading
read_edges = takes (reading (start false) (replicate 4 zero) (replicate 8 zero) (replicate 6 0) (replicate 6 0) (replicate 4 0)) edges_bytes

pub rows_by_edges :
    (form_of edges_square ≡ edges_bytes)
    × (verdict read_edges.reader ≡ sound_of 4 2 4 7)
    × (read_edges.bounds ≡ of_bits binary64 minus_one_is ∷ of_bits binary64 minus_one_is ∷ of_bits binary64 one_is ∷ of_bits binary64 one_is ∷ [])
    × (read_edges.hull ≡ 0 ∷ 1 ∷ 2 ∷ 3 ∷ [])
unfolding square_bytes form_of takes take step inside outside tally follows opens room_left begun size_of within put_float put_link bounds_by sites_by triangles_by halfedges_by hull_by verdict
rows_by_edges = (refl, refl, refl, refl)
