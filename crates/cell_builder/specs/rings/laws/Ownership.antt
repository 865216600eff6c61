-- Four paths, each begun where the one before ended, are the definition's owners.
use Rattle.std.specs.Prelude.{◌≡◌, List, [], ◌∷◌, ℕ, Float, get_or}
use Rattle.std.specs.Float.{nan}
use Rattle.plane.specs.points.Plane.{at}
use Rattle.plane.specs.boxes.Box.{corners_of}
use Rattle.plane.specs.declared.boxes.BoundingBox.{BoundingBox}
use Rattle.walks.specs.paths.Path.{path_end}
use Rattle.definition.specs.Build.{owners_from}

module _ (sites : List Float) (tri he table : List ℕ) (n : ℕ) (b : BoundingBox) where
  pub four_owners :
      (s r₀ r₁ r₂ r₃ : ℕ)
      → r₀ ≡ path_end sites tri he table (get_or (corners_of b) 0 (at nan nan)) n s
      → r₁ ≡ path_end sites tri he table (get_or (corners_of b) 1 (at nan nan)) n r₀
      → r₂ ≡ path_end sites tri he table (get_or (corners_of b) 2 (at nan nan)) n r₁
      → r₃ ≡ path_end sites tri he table (get_or (corners_of b) 3 (at nan nan)) n r₂
      → r₀ ∷ r₁ ∷ r₂ ∷ r₃ ∷ [] ≡ owners_from sites tri he table n s (corners_of b)
  unfolding owners_from corners_of
  four_owners s r₀ r₁ r₂ r₃ e f g h = rw (← e, ← f, ← g, ← h)
