-- The part of a cell in the index list: its two bounds, and its length.
use Rattle.std.specs.Prelude.{◌≡◌, List, ℕ, suc, ◌+◌, ◌-◌, ◌≤◌, ◌<◌, length, get_or, take, drop}
use Rattle.std.proofs.Common.{arith, add-one, length-drop, length-take-le}
use Rattle.printing.specs.parts.Listed.{listed_cell, Layout}

-- the part of cell i, between its two offsets
module _ {os cs : List ℕ} {n : ℕ} (lay : Layout os cs n) {i f t : ℕ} (h : i < n) (from : f ≡ get_or os i 0) (to : t ≡ get_or os (i + 1) 0) where
  pub part_bounds : (f ≤ t) × (t ≤ length cs)
  part_bounds = rw (from, to, add-one i) (lay.rise i h, lay.within i h)

  pub part_is : take (t - f) (drop f cs) ≡ listed_cell os cs i
  part_is = rw (from, to, add-one i)

module _ (os cs : List ℕ) (n : ℕ) (lay : Layout os cs n) where
  pub cell_length : (i : ℕ) → i < n → length (listed_cell os cs i) ≡ get_or os (suc i) 0 - get_or os i 0
  cell_length i h =
      length-take-le (get_or os (suc i) 0 - get_or os i 0) (drop (get_or os i 0) cs) (omega (arith, length-drop (get_or os i 0) cs, lay.rise i h, lay.within i h))
