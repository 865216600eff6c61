-- The half-edge before e starts at the site opposite e.
use mathlib.Core.Path.{ap}
use lib.ListN.{get_or}
use native.Mathlib.Omega.{arith}
use borrow.Author.Rules.{rules}
use Rattle.mesh.specs.laws.Next.{next_lt}
use Rattle.flipping.proofs.rule.opposite.Statement.{statement}
use Rattle.flipping.proofs.rule.opposite.Tie as tie

mul-result : tie.Need-offset_bounds-triangles-o
mul-result c =
    let s = c in
    record { fits = omega (arith, c.before-o.ensures, next_lt s.requires.0 (next_lt s.requires.0 s.requires.2), s.requires.1) }

shared_slice_read-result : tie.Need-bounds-triangles-o
shared_slice_read-result c =
    let s = c in
    omega (arith, c.before-o.ensures, next_lt s.requires.0 (next_lt s.requires.0 s.requires.2))

returns : tie.Need-returns
returns c = ap (λ k. get_or c.args.triangles.now k 0) c.before-o.ensures

pub opposite_spec : {M : Type 1} → statement M
opposite_spec = tie.close (tie.spec (λ c κs. search rules) mul-result shared_slice_read-result returns)
