-- The circumcenter's answer from the answers of the calls, which are the arguments: so no proof looks for them among all that it knows.
use Rattle.std.specs.Prelude.{◌≡◌, Bool, true, false, ◌&&◌, Ok, Err}
use Rattle.base.specs.declared.refusal.Refusal.TheVariants.{Coordinate, Circumcenter}
use Rattle.plane.specs.points.Rules.{ok_site}
use Rattle.plane.specs.declared.points.Point.{Point}
use Rattle.plane.specs.centers.Circumcenter.{center_of, ok_center, center_if, center_answer}

module _ (a b c : Point) {s s₁ s₂ : Bool} (e₁ : s ≡ ok_site a) (e₂ : s₁ ≡ ok_site b) (e₃ : s₂ ≡ ok_site c) where
  pub site_refused : (s && s₁ && s₂) ≡ false → center_answer a b c ≡ Err Coordinate
  unfolding center_answer center_if
  site_refused h = rw (← e₁, ← e₂, ← e₃, h)

  module _ {p : Point} {t : Bool} (h : (s && s₁ && s₂) ≡ true) (e₄ : p ≡ center_of a b c) (e₅ : t ≡ ok_center p) where
    pub center_refused : t ≡ false → center_answer a b c ≡ Err Circumcenter
    unfolding center_answer center_if
    center_refused g = rw (← e₁, ← e₂, ← e₃, h, ← e₄, ← e₅, g)

    pub center_answered : t ≡ true → center_answer a b c ≡ Ok p
    unfolding center_answer center_if
    center_answered g = rw (← e₁, ← e₂, ← e₃, h, ← e₄, ← e₅, g)
