-- `certifying::windows::is_edge` meets its contract: rule 6 on a point with this coordinate twice.
use mathlib.Core.Path.{◌≡◌, refl, sym, ◌∙◌, subst}
use mathlib.Core.Bool.{true}
use Prim.{tt}
use lib.Dec.{T, lit≤}
use lib.Ieee.{Float}
use Rattle.plane.specs.points.Finite.{point_weaken, site_bounded}
use Rattle.plane.specs.points.Plane.{at}
use Rattle.plane.specs.points.Rules.{ok_coord, ok_site}
use borrow.Author.Rules.{rules}
use Rattle.certifying.proofs.windows.is_edge.Statement.{statement}
use Rattle.certifying.proofs.windows.is_edge.Tie as tie

twice : (x : Float) → ok_coord x ≡ true → ok_site (at x x) ≡ true
unfolding ok_site
twice x e = rw e refl

returns : tie.Need-returns
returns c =
    let s = c in
    λ e. record {
      held = subst T (sym s.well_formed.0.1) tt;
      bounded = (point_weaken {j = 400} (lit≤ tt) (site_bounded (at s.args.x s.args.x) (twice s.args.x (sym c.coordinate_ok.ensures ∙ e)))).x;
    }

pub is_edge_spec : {M : Type 1} → statement M
is_edge_spec =
    tie.close (tie.spec (λ c κs. search rules) returns)
