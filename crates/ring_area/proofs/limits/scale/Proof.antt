-- `ring_area::limits::scale` meets its contract: half of the power, then the rest.
use native.Mathlib.Omega.{arith}
use borrow.Author.Rules.{rules}
use Rattle.ring_area.specs.limits.laws.Divisions.{power_good, scaled}
use Rattle.ring_area.proofs.limits.scale.Statement.{statement}
use Rattle.ring_area.proofs.limits.scale.Tie as tie

divide-requires : tie.Need-divide-requires
divide-requires c κs =
    let s = c in
    let g = power_good _ _ c.power.ensures (omega (arith, s.requires.0)) in
    (g.0, g.1, s.requires.1)

divide-requires-2 : tie.Need-divide-requires-2
divide-requires-2 c κs =
    let first = c in
    let s = first in
    let g = power_good _ _ c.power-2.ensures (omega (arith, s.requires.0)) in
    (g.0, g.1, first.divide.ensures.settled)

returns : tie.Need-returns
returns c =
    let at_second = c in
    let first = at_second in
    scaled _ _ _ first.power.ensures at_second.power-2.ensures first.divide.ensures at_second.divide-2.ensures

pub scale_spec : {M : Type 1} → statement M
scale_spec =
    tie.close
    (tie.spec (λ c κs. search rules) divide-requires (λ c. search rules) (λ c κs. search rules) divide-requires-2 (λ c. search rules) returns)
