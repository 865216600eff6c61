-- Two steps on in a triangle are one step back.
use mathlib.Core.Path.{ap, ◌∙◌}
use native.Mathlib.Omega.{arith}
use borrow.Author.Rules.{rules}
use Rattle.mesh.specs.Mesh.{next_of}
use Rattle.mesh.specs.laws.Next.{next_sum}
use Rattle.flipping.proofs.before.Statement.{statement}
use Rattle.flipping.proofs.before.Tie as tie

next_halfedge-requires-2 : tie.Need-next_halfedge-requires
next_halfedge-requires-2 c κs = omega (arith, c.next_halfedge-o.ensures, next_sum c.args.e)

returns : tie.Need-returns
returns c = c.next_halfedge.ensures ∙ ap next_of c.next_halfedge-o.ensures

pub before_spec : {M : Type 1} → statement M
before_spec = tie.close (tie.spec (λ c κs. search rules) next_halfedge-requires-2 returns)
