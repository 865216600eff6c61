-- What the stores ask: that each number which is followed is in range. `ready` of flipping::call says that it is so on an accepted mesh.
use Rattle.std.specs.Prelude.{◌≡◌, List, ◌≢◌, ℕ, ◌%◌, ◌<◌, length, get_or}
use Rattle.base.specs.numbers.Numbers.{EMPTY}
use Rattle.mesh.specs.Mesh.{pair_of}
use Rattle.flipping.specs.Flip.{before_of, flipped_triangles, flipped_pairs}
use Rattle.flipping.specs.Entries.{Four, flip_corners, entries_of, stored_four}

-- four places in a list
pub record InFour (s : Four) (n : ℕ) : Type 0 where
  pub first : s.0 < n
  pub second : s.1 < n
  pub third : s.2 < n
  pub fourth : s.3 < n

-- the four half-edges, and the outer pairs that are there
pub record Linked (he : List ℕ) (a b r l : ℕ) : Type 0 where
  pub small : length he < EMPTY
  pub a_in : a < length he
  pub b_in : b < length he
  pub r_in : r < length he
  pub l_in : l < length he
  pub outer_l : pair_of he l ≢ EMPTY → pair_of he l < length he
  pub outer_r : pair_of he r ≢ EMPTY → pair_of he r < length he

-- the four sites in the table, and the entries of the two that gain a half-edge
pub record Tabled (he work : List ℕ) (s : Four) (r l : ℕ) : Type 0 where
  pub threes : length he % 3 ≡ 0
  pub r_in : r < length he
  pub l_in : l < length he
  pub places : InFour s (length work)
  pub third : get_or work s.2 0 < length he
  pub fourth : get_or work s.3 0 < length he

pub record FlipReady (tri he table work : List ℕ) (a b r l : ℕ) : Type 0 where
  pub same : length he ≡ length tri
  pub linked : Linked he a b r l
  pub tabled : Tabled he work (flip_corners tri a b r l) r l
  pub places : InFour (flip_corners tri a b r l) (length table)

-- a list with the entries of the four sites brought up to date, by the table that the work slice holds
abbrev pub Retabled : List ℕ → List ℕ → List ℕ → List ℕ → List ℕ → ℕ → ℕ → ℕ → ℕ → Type 0
Retabled tri he work old new a b r l = new ≡ stored_four old (flip_corners tri a b r l) (entries_of he work (flip_corners tri a b r l) a b r l)

-- all four lists after the change
pub record FlipChanged (tri he table work : List ℕ) (a : ℕ) (tri' he' table' work' : List ℕ) : Type 0 where
  pub triangles : tri' ≡ flipped_triangles tri he a
  pub pairs : he' ≡ flipped_pairs he a
  pub in_table : Retabled tri he work table table' a (pair_of he a) (before_of a) (before_of (pair_of he a))
  pub in_work : Retabled tri he work work work' a (pair_of he a) (before_of a) (before_of (pair_of he a))
