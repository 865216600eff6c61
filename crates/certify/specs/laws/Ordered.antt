-- Whichever box a form gives, it is in order where it keeps rule 3.
use Rattle.std.proofs.Common.{sym, subst}
use Rattle.plane.specs.declared.given.Given.{Given}
use Rattle.form.specs.Form.{Outline, box, unclipped, edges}
use Rattle.form.specs.mesh.Read.{BoxOf}
use Rattle.cutting_calls.specs.call.Steps.{InOrder}
use Rattle.cutting_calls.specs.call.laws.Order.{size_ordered, edges_ordered}

pub box_ordered : (c : Outline) (g : Given) → BoxOf c g → InOrder g
box_ordered (box x y w h) g b = subst InOrder (sym b) (size_ordered _ _ _)
box_ordered unclipped g b = absurd b
box_ordered (edges x y u v) g b = subst InOrder (sym b) (edges_ordered _ _ _ _)
