-- A ring all of whose vertices are inside, and its cell.
use Rattle.std.specs.Prelude.{◌≡◌, true, List, ◌∷◌, ℕ, ◌+◌, ◌<◌, length, get_or, take}
use Rattle.plane.specs.declared.points.Point.{Point}
use Rattle.plane.specs.declared.boxes.BoundingBox.{BoundingBox}
use Rattle.definition.specs.Cell.{in_box, turned}

-- of the len vertices that stand in ix from place ring on
abbrev pub AllInside : BoundingBox → ℕ → List Point → List ℕ → ℕ → ℕ → Type 0
AllInside b nc vs ix ring len = (j : ℕ) → j < len → in_box b nc vs (get_or ix (ring + j) 0) ≡ true

-- the vertices in the order walked: the first, then round and back towards it
abbrev pub inside_cell : List ℕ → List ℕ
inside_cell ring = take (length ring) (get_or ring 0 0 ∷ turned 0 ring)
