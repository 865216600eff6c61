-- `cell_builder::turned::loops::clip_due` meets its contract: what closes outside changes nothing, and is else tried as the definition does.
use mathlib.Core.Path.{ap}
use mathlib.Core.Bool.{not}
use borrow.Author.Rules.{rules}
use Rattle.base.specs.common.laws.Decide.{granted}
use Rattle.cell_builder.specs.tried.SlicesInvariant.{plan, edge_try}
use Rattle.cell_builder.specs.turned.laws.Retrying.{retries, stands, retry_kept}
use Rattle.cell_builder.proofs.turned.loops.clip_due.Statement.{statement}
use Rattle.cell_builder.proofs.turned.loops.clip_due.Tie as tie

closes_outside-requires : tie.Need-closes_outside-requires
closes_outside-requires c κs = let s = c in retries s.requires.2.amid s.requires.0

returns : tie.Need-returns-then-closes_outside
returns c =
    let o = c in
    λ hull g s a. (λ _. (s, a), λ known. retry_kept a o.requires.0 known (granted o.closes_outside.result (ap not c.if-closes_outside.true) o.closes_outside.ensures))

returns-2 : tie.Need-returns
returns-2 c =
    let t = c in
    let i = t.args in
    λ hull g s a.
    let d = t.clip_at_edge.ensures hull i.table.now g s a in
    (stands (edge_try (plan i.triangles.now i.halfedges.now hull i.table.now i.f i.offsets.now) i.e s) d, λ known. d)

pub clip_due_spec : {M : Type 1} → statement M
clip_due_spec =
    tie.close
    (tie.spec closes_outside-requires (λ c. search rules) (λ c. search rules) returns (λ c κs. search rules) (λ c. search rules) (λ c. search rules) returns-2)
