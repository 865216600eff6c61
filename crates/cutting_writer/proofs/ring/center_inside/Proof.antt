-- `cutting_writer::ring::center_inside`: the test on the circumcenter that is read.
use Rattle.plane.specs.sides.Sides.{inside_of}
use borrow.Author.Rules.{rules}
use mathlib.Core.Path.{ap, ◌∙◌}
use Rattle.cutting_writer.proofs.ring.center_inside.Statement.{statement}
use Rattle.cutting_writer.proofs.ring.center_inside.Tie as tie

returns : tie.Need-returns
returns c = c.is_inside.ensures ∙ ap (inside_of _) c.site_at.ensures

pub center_inside_spec : {M : Type 1} → statement M
center_inside_spec = tie.close (tie.spec (λ c κs. search rules) (λ c κs. search rules) returns)
