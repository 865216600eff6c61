-- `clipping::ring::in_box` meets its contract: below the circumcenters' number it asks the box, else it says no.
use mathlib.Core.Path.{sym, ap, ◌∙◌}
use Rattle.plane.specs.points.Flat.{points}
use Rattle.plane.specs.sides.Sides.{inside_of}
use Rattle.clipping.specs.laws.EdgeCases.{in_center, in_none}
use borrow.Author.Rules.{rules}
use Rattle.clipping.proofs.ring.in_box.Statement.{statement}
use Rattle.clipping.proofs.ring.in_box.Tie as tie

returns : tie.Need-returns-then-at-centers
returns c =
    let a = c.args in
    c.is_inside.ensures
    ∙ ap (inside_of a.bounds) c.vertex.ensures
    ∙ sym (in_center a.bounds a.centers (points a.count a.vertices.now) a.i c.if-at-centers.true)

returns-2 : tie.Need-returns
returns-2 c =
    let a = c.args in
    sym (in_none a.bounds a.centers (points a.count a.vertices.now) a.i c.if-at-centers.false)

pub in_box_spec : {M : Type 1} → statement M
in_box_spec = tie.close (tie.spec (λ c κs. search rules) (λ c κs. search rules) returns returns-2)
