-- `ring_area::rounding::area_in` meets its contract: two sums from nothing, and their difference.
use mathlib.Core.Path.{◌∙◌}
use native.Mathlib.Omega.{arith}
use borrow.Author.Rules.{rules}
use Rattle.ring_area.specs.rounding.laws.Rings.{ring_is}
use Rattle.ring_area.specs.rounding.laws.Reaches.{placed_as}
use Rattle.ring_area.specs.rounding.laws.Differences.{ready_zeros, few_puts, sum_long, sum_fits, sums_are}
use Rattle.ring_area.proofs.rounding.area_in.Statement.{statement}
use Rattle.ring_area.proofs.rounding.area_in.Tie as tie

abbrev Start : tie.After-sides_from → tie.Start
Start c = c.before.before.before.before.before.before.before.before

sides_from-requires : tie.Need-sides_from-requires
sides_from-requires c κs =
    let p = c.requires in
    (p.0, placed_as p.3.long p.1, p.2, ready_zeros _ p.3 p.4 (few_puts _ p.0.few))

settle-requires : tie.Need-settle-requires
settle-requires c κs =
    let at-sides = c in
    let p = (Start at-sides.before.before.before.before.before.before.before).requires in
    let r = at-sides.sides_from.ensures in
    let few = few_puts _ p.0.few in
    (sum_long _ p.3 _ r.added, sum_long _ p.4 _ r.taken, sum_fits _ p.3 _ r.added few, sum_fits _ p.4 _ r.taken few, p.5)

returns : tie.Need-returns
returns c =
    let summed = c in
    let at-sides = summed in
    let s = Start at-sides.before.before.before.before.before.before.before.before.before.before.before.before.before.before in
    let p = s.requires in
    c.settle.ensures
    ∙ sums_are _ p.3 p.4 _ _ at-sides.sides_from.ensures
    ∙ ring_is s.args.vertices.now s.args.entries.now (λ e. omega (arith, e, p.2))

pub area_in_spec : {M : Type 1} → statement M
area_in_spec =
    tie.close
    (tie.spec sides_from-requires settle-requires (λ c. search rules) (λ c. search rules) (λ c. search rules) returns)
