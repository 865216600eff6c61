-- `ring_area::rounding::widen_corner` meets its contract: x, then y.
use borrow.Author.Rules.{rules}
use Rattle.ring_area.specs.rounding.laws.Reaches.{widened_then, reached_still}
use Rattle.ring_area.proofs.rounding.widen_corner.Statement.{statement}
use Rattle.ring_area.proofs.rounding.widen_corner.Tie as tie

returns : tie.Need-returns
returns c =
    let first = c in (
      widened_then first.widen.ensures.0 c.widen-2.ensures.0,
      record { x = reached_still c.widen-2.ensures.0 first.widen.ensures.1; y = c.widen-2.ensures.1 },
    )

pub widen_corner_spec : {M : Type 1} → statement M
widen_corner_spec = tie.close (tie.spec (λ c κs. search rules) (λ c κs. search rules) returns)
