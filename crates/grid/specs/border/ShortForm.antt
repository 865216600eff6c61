-- What is asked of the hull of a mesh on the grid, in as many tests as it has edges: no corner turns right inside a run of edges that go up or of edges that
-- go down, and there is one place with an edge up after an edge down. Straight corners are allowed. That such a hull is convex and runs round once, where the
-- triangles turn as they must, is a theorem of crate nearest_laws.
use Rattle.std.specs.Prelude.{◌≡◌, Bool, true, false, List, [], ◌∷◌, ℕ, ◌-◌, ◌<◌, eqb, ℤ, length, get_or, ⊤, Result, Err}
use Rattle.base.specs.common.Pick.{pick}
use Rattle.base.specs.common.Refusals.{Rule, each}
use Rattle.mesh.specs.Hull.{next_place}
use Rattle.grid.specs.Plane.{GridPoint, place_at, goes_up, turns_right}
use Rattle.grid.specs.declared.border.HullFault.{HullFault}

-- the place before place i, cyclically
unfoldable pub prior_place : ℕ → ℕ → ℕ
prior_place h i = pick (eqb i 0) (λ _. h - 1) (λ _. i - 1)

-- the site at place i of the hull, on the plane
abbrev pub hull_point : List ℤ → List ℕ → ℕ → GridPoint
hull_point grid hull i = place_at grid (get_or hull i 0)

-- the edge that ends at place i goes up, and the one that starts there
abbrev pub up_before : List ℤ → List ℕ → ℕ → Bool
up_before grid hull i = goes_up (hull_point grid hull (prior_place (length hull) i)) (hull_point grid hull i)

abbrev pub up_after : List ℤ → List ℕ → ℕ → Bool
up_after grid hull i = goes_up (hull_point grid hull i) (hull_point grid hull (next_place (length hull) i))

-- inside a run place i does not turn right
abbrev pub CornerAt : List ℤ → List ℕ → ℕ → Type 0
CornerAt grid hull i =
    up_before grid hull i ≡ up_after grid hull i
    → turns_right (hull_point grid hull (prior_place (length hull) i)) (hull_point grid hull i) (hull_point grid hull (next_place (length hull) i)) ≡ false

-- an edge up after an edge down
abbrev pub StartAt : List ℤ → List ℕ → ℕ → Type 0
StartAt grid hull i = (up_before grid hull i ≡ false) × (up_after grid hull i ≡ true)

-- not the second such place
abbrev pub LoneAt : List ℤ → List ℕ → ℕ → Type 0
LoneAt grid hull i = StartAt grid hull i → (j : ℕ) → j < i → StartAt grid hull j → ⊥

-- that the short form holds, or the place where it fails
abbrev pub HullVerdict : Type 0
HullVerdict = Result ⊤ HullFault

abbrev pub fails_at : ℕ → HullVerdict
fails_at i = Err (record { place = i })

-- corners first
abbrev pub short_rules : List ℤ → List ℕ → List (Rule HullVerdict)
short_rules grid hull = each fails_at (length hull) (CornerAt grid hull) ∷ each fails_at (length hull) (LoneAt grid hull) ∷ []
