-- `clipping::edges::clip_once` meets its contract: the crossing is added as the store adds a point.
use Rattle.clipping.specs.edges.laws.EdgeClip.{clips_once}
use borrow.Author.Rules.{rules}
use Rattle.clipping.proofs.edges.clip_once.Statement.{statement}
use Rattle.clipping.proofs.edges.clip_once.Tie as tie

returns : tie.Need-returns
returns c =
    let at-add-at = c in
    let at_start = at-add-at in
    let a = at_start.args in
    let g = at-add-at.add_at-a.ensures in
    clips_once a.env.centers a.env.limit a.count a.x a.y a.vertices.now a.indexes.now _ _ _ g.0 g.1 at_start.requires.1.0 _ c.if_old.ensures

pub clip_once_spec : {M : Type 1} → statement M
clip_once_spec =
    tie.close
    (tie.spec (λ c κs. search rules) (λ c. search rules) (λ c κs. search rules) (λ c. search rules) (λ c. search rules)
    returns)
