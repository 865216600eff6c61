-- `wkb::put_point` meets its contract: the two coordinates, one after the other.
use mathlib.Core.Path.{ap}
use mathlib.Core.List.{◌++◌}
use Prim.Native.Nat.{ℕ, ◌*◌}
use Rattle.wkb.specs.Polygon.{patterns}
use Rattle.wkb.specs.laws.Points.{point_wrote}
use borrow.Author.Rules.{rules}
use Rattle.wkb.proofs.put_point.Statement.{statement}
use Rattle.wkb.proofs.put_point.Tie as tie

returns : tie.Need-returns
returns c =
    let at-put-le = c in
    let at-coordinate = at-put-le in
    let a = at-coordinate.args in
    point_wrote (patterns a.floats.now ++ a.bits.now) a.entry _ (ap (λ (n : ℕ). 2 * n) at-coordinate.wide-k.ensures)
    at-coordinate.coordinate-x.ensures at-put-le.coordinate-y.ensures at-put-le.put_le-middle.ensures c.put_le.ensures

pub put_point_spec : {M : Type 1} → statement M
put_point_spec =
    tie.close
    (tie.spec (λ c κs. search rules) (λ c. search rules) (λ c κs. search rules) (λ c. search rules)
    (λ c κs. search rules) (λ c κs. search rules) (λ c κs. search rules) (λ c. search rules) returns)
