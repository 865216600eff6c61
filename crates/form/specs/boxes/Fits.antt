-- Theorem: whichever box a form gives, it fits.
use Rattle.std.specs.Prelude.{Bool, true, false, List, ℕ, eqb, Float, get_or}
use Rattle.std.specs.Float.{nan}
use Rattle.base.specs.common.Pick.{pick}
use Rattle.plane.specs.points.Plane.{at}
use Rattle.plane.specs.given.Given.{by_size, by_edges}
use Rattle.plane.specs.given.Finite.{Fits, size_fits, edges_fit}
use Rattle.form.specs.boxes.FormBox.{box_by}

pub box_fits : (kind : ℕ) (l : List Float) → Fits (box_by kind l)
box_fits kind l = go (eqb kind 7)
  where
    go : (edges : Bool) → Fits (pick edges
        (λ _. by_edges (get_or l 0 nan) (get_or l 1 nan) (get_or l 2 nan) (get_or l 3 nan))
        (λ _. by_size (at (get_or l 0 nan) (get_or l 1 nan)) (get_or l 2 nan) (get_or l 3 nan)))
    go true = edges_fit _ _ _ _
    go false = size_fits _ _ _
