-- Eight stores, in the order of the corners.
use native.Mathlib.Omega.{arith}
use lib.ListN.{length-set}
use Rattle.plane.specs.points.Flat.{flat, pour}
use Rattle.plane.specs.boxes.Box.{corners_of}
use borrow.Author.Rules.{rules}
use Rattle.plane_calls.specs.laws.Plane.{eight}
use Rattle.plane_calls.proofs.put_corners.Statement.{statement}
use Rattle.plane_calls.proofs.put_corners.Tie as tie

returns : tie.Need-returns
unfolding pour flat corners_of
returns c = eight c.args.out.now _ _ _ _ _ _ _ _ c.requires

pub put_corners_spec : {M : Type 1} → statement M
put_corners_spec = tie.close (tie.spec (λ c. search rules) (λ c. simp length-set (omega arith)) (λ c. simp length-set (omega arith))
    (λ c. simp length-set (omega arith)) (λ c. simp length-set (omega arith)) (λ c. simp length-set (omega arith))
    (λ c. simp length-set (omega arith)) (λ c. simp length-set (omega arith)) (λ c. simp length-set) returns)
