-- The test as the code makes it.
use Rattle.std.specs.Prelude.{◌≡◌, Bool, List, ℕ, Float}
use Rattle.std.proofs.Common.{ap, ◌∙◌}
use Rattle.plane.specs.points.Flat.{point_at}
use Rattle.plane.specs.declared.points.Point.{Point}
use Rattle.auditing.specs.places.Places.{same_of, twin_at}

pub twin_is : (sites : List Float) (s j : ℕ) {t : Bool} {p q : Point} → p ≡ point_at sites s → q ≡ point_at sites j → t ≡ same_of p q → t ≡ twin_at sites s j
unfolding twin_at
twin_is sites s j {q = q} x y e = e ∙ ap (λ (r : Point). same_of r q) x ∙ ap (same_of (point_at sites s)) y
