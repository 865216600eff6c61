-- `cutting_writer::sites::put_corners`: one after the other.
use Prim.Native.Nat.{◌+◌}
use Rattle.cutting_writer.specs.sites.Pieces.{put_at, cornered}
use Rattle.plane.specs.points.Plane.{at}
use borrow.Author.Rules.{rules}
use mathlib.Core.Path.{ap, ◌∙◌}
use Rattle.cutting_writer.proofs.sites.put_corners.Statement.{statement}
use Rattle.cutting_writer.proofs.sites.put_corners.Tie as tie

abbrev Put2 : tie.After-slice_known-5-1 → tie.After-put-2
Put2 c = c.before.before.before.before.before.before.before.before.before.before

returns : tie.Need-returns
unfolding cornered
returns c =
    let a = (Put2 c).args in
    c.put-4.ensures ∙ ap (put_at (a.centers + 3) (at a.b.right a.b.top)) (c.put-3.ensures ∙ ap
    (put_at (a.centers + 2) (at a.b.right a.b.bottom))
    ((Put2 c).put-2.ensures ∙ ap (put_at (a.centers + 1) (at a.b.left a.b.bottom)) (Put2 c).put.ensures))

pub put_corners_spec : {M : Type 1} → statement M
put_corners_spec =
    tie.close
    (tie.spec (λ c κs. search rules) (λ c. search rules) (λ c κs. search rules) (λ c. search rules) (λ c κs. search rules) (λ c. search rules) (λ c κs. search rules)
    (λ c. search rules) returns)
