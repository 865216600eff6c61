-- Rows: boxes by their edges, each claim by computation: what rule 3 takes and refuses, and two neighbours that meet at .3.
use Rattle.std.specs.Prelude.{◌≡◌, refl, true, false, Float}
use Rattle.std.specs.Float.{nan, inf, binary64}
use Rattle.std.specs.Float.Ieee.{of_bits, neg, add, sub, mul, div, lt, le}
use Rattle.base.specs.common.Binary64.{zero, one, minus_one, two}
use Rattle.base.specs.numbers.Numbers.{edge}
use Rattle.plane.specs.points.Plane.{at}
use Rattle.plane.specs.boxes.Box.{made_of}
use Rattle.plane.specs.given.Given.{edges_of, ok_span, ok_edges}

-- the float after 2^101
abbrev over : Float
over = of_bits binary64 0x4640_0000_0000_0001

-- .3, and the float below it
abbrev there : Float
there = of_bits binary64 0x3fd3_3333_3333_3333

abbrev left_of_there : Float
left_of_there = of_bits binary64 0x3fd3_3333_3333_3332

-- .44999999999999996
abbrev middle : Float
middle = of_bits binary64 0x3fdc_cccc_cccc_cccc

pub record EdgeRows : Type 0 where
  pub widest : ok_edges (neg edge) (neg edge) edge edge ≡ true
  pub no_width : ok_edges one zero one one ≡ false
  pub out_of_order : ok_edges one zero minus_one one ≡ false
  pub over_limit : ok_edges zero zero over one ≡ false
  pub infinite : ok_edges zero zero (inf false) one ≡ false
  pub no_number : ok_edges zero nan one one ≡ false
  pub both_zeros : ok_edges (neg zero) zero zero one ≡ false
  -- by its edges the box of "square" is the same record
  pub square : edges_of minus_one minus_one one one ≡ made_of (at zero zero) two two
  -- from .3 to .6: by center and size it starts a bit to the left of the box that ends at .3, by its edges there
  pub by_size_lem : (made_of (at middle middle) there there).left ≡ left_of_there
  pub by_edges_lem : (edges_of there there (add binary64 there there) (add binary64 there there)).left ≡ there

pub rows : EdgeRows
unfolding made_of edges_of ok_span ok_edges of_bits neg add sub mul div lt le
rows =
    record {
      widest = refl;
      no_width = refl;
      out_of_order = refl;
      over_limit = refl;
      infinite = refl;
      no_number = refl;
      both_zeros = refl;
      square = refl;
      by_size_lem = refl;
      by_edges_lem = refl;
    }
