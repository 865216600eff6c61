-- The numbers that have a name, as in src/lib.rt: the index that is none, the refusals in the order in which they are tried, the limits on floats.
use Rattle.std.specs.Prelude.{ℕ, Float}
use Rattle.std.specs.Float.{binary64}
use Rattle.std.specs.Float.Ieee.{of_bits}

abbrev pub EMPTY : ℕ
EMPTY = 4294967295

abbrev pub refused_count : ℕ
refused_count = 1

abbrev pub refused_room : ℕ
refused_room = 2

abbrev pub refused_box : ℕ
refused_box = 3

abbrev pub refused_site : ℕ
refused_site = 4

abbrev pub refused_destination : ℕ
refused_destination = 5

abbrev pub refused_coordinate : ℕ
refused_coordinate = 6

abbrev pub refused_triangle : ℕ
refused_triangle = 7

abbrev pub refused_pairing : ℕ
refused_pairing = 8

abbrev pub refused_hull : ℕ
refused_hull = 9

abbrev pub refused_fan : ℕ
refused_fan = 10

abbrev pub refused_circumcenter : ℕ
refused_circumcenter = 11

abbrev pub refused_extension : ℕ
refused_extension = 12

abbrev pub refused_no_crossing : ℕ
refused_no_crossing = 13

abbrev pub refused_one_crossing : ℕ
refused_one_crossing = 14

abbrev pub refused_offsets : ℕ
refused_offsets = 16

abbrev pub refused_form : ℕ
refused_form = 17

abbrev pub refused_entry : ℕ
refused_entry = 18

abbrev pub refused_twice : ℕ
refused_twice = 19

abbrev pub refused_unclipped : ℕ
refused_unclipped = 20

abbrev pub refused_points : ℕ
refused_points = 21

abbrev pub refused_grid : ℕ
refused_grid = 22

abbrev pub refused_flip : ℕ
refused_flip = 23

abbrev pub refused_corner : ℕ
refused_corner = 24

-- the tolerance, 2^-50
abbrev pub tolerance : Float
tolerance = of_bits binary64 0x3cd0_0000_0000_0000

-- the limit of a coordinate, 2^100, of an edge that is given itself, 2^101, and of a circumcenter's, 2^400
abbrev pub large : Float
large = of_bits binary64 0x4630_0000_0000_0000

abbrev pub edge : Float
edge = of_bits binary64 0x4640_0000_0000_0000

abbrev pub huge : Float
huge = of_bits binary64 0x58f0_0000_0000_0000
