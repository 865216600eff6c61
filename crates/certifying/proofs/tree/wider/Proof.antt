-- `certifying::tree::wider` meets its contract.
use Rattle.ring_area.specs.lowest.laws.Loops.{named_twice}
use borrow.Author.Rules.{rules}
use native.Mathlib.Omega.{arith}
use Rattle.certifying.proofs.tree.wider.Statement.{statement}
use Rattle.certifying.proofs.tree.wider.Tie as tie

extremes_from-requires : tie.Need-extremes_from-e-requires
extremes_from-requires c κs = c.requires

point_at-requires : tie.Need-point_at-left-requires
point_at-requires c κs = rw c.wide.ensures (named_twice _ _ c.extremes_from-e.ensures.named.left)

point_at-requires-2 : tie.Need-point_at-top-requires
point_at-requires-2 c κs = rw c.wide-2.ensures (named_twice _ _ c.extremes_from-e.ensures.named.top)

point_at-requires-3 : tie.Need-point_at-right-requires
point_at-requires-3 c κs = rw c.wide-3.ensures (named_twice _ _ c.extremes_from-e.ensures.named.right)

point_at-requires-4 : tie.Need-point_at-bottom-requires
point_at-requires-4 c κs = rw c.wide-4.ensures (named_twice _ _ c.extremes_from-e.ensures.named.bottom)

pub wider_spec : {M : Type 1} → statement M
wider_spec =
    tie.close (tie.spec extremes_from-requires (λ c κs. search rules) point_at-requires (λ c κs. search rules)
    point_at-requires-2 (λ c κs. search rules) point_at-requires-3 (λ c κs. search rules) point_at-requires-4 (λ c. omega arith)
    (λ c. omega arith))
