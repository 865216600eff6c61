-- A turn of `Unmarking`, by `unmarking_step`.
use borrow.Author.Rules.{rules}
use Rattle.mesh_check.specs.border.laws.Loops.{unmarking_step}
use Rattle.mesh_check.proofs.border.unmark_edge.Statement.{statement}
use Rattle.mesh_check.proofs.border.unmark_edge.Tie as tie

returns : tie.Need-returns
returns c =
    let at-unmark-one = c in
    let u = at-unmark-one.unmark_one-sound in
    λ t g. unmarking_step _ _ _ t _ _ _ _ g at-unmark-one.requires.2 u.auto.work u.ensures.0 _ _ u.ensures.1 c.lowest.ensures

pub unmark_edge_spec : {M : Type 1} → statement M
unmark_edge_spec = tie.close (tie.spec (λ c κs. search rules) (λ c κs. search rules) (λ c. search rules) returns)
