-- `cell_builder::placed::step_on` meets its contract: the pair of the half-edge after e.
use mathlib.Core.Path.{ap, ◌∙◌}
use native.Mathlib.Omega.{arith}
use borrow.Author.Rules.{rules}
use Rattle.mesh.specs.Mesh.{pair_of}
use Rattle.mesh.specs.laws.Next.{next_sum}
use Rattle.cell_builder.proofs.placed.step_on.Statement.{statement}
use Rattle.cell_builder.proofs.placed.step_on.Tie as tie

next_halfedge-requires : tie.Need-next_halfedge-requires
next_halfedge-requires c κs = omega (arith, next_sum c.args.e, c.requires)

returns : tie.Need-returns
returns c =
    let n = c in
    c.wide.ensures ∙ ap (pair_of n.args.halfedges.now) n.next_halfedge.ensures

pub step_on_spec : {M : Type 1} → statement M
step_on_spec =
    tie.close
    (tie.spec next_halfedge-requires (λ c. search rules) (λ c. search rules) (λ c κs. search rules) returns)
