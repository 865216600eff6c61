-- `ring_area::sides` meets its contract: from limb 0 on, and 94 limbs hold every ring's products.
use borrow.Author.Rules.{rules}
use Rattle.ring_area.specs.laws.Rings.{ring_whole}
use Rattle.ring_area.specs.laws.Spans.{placed_whole, ready_whole}
use Rattle.ring_area.proofs.sides.Statement.{statement}
use Rattle.ring_area.proofs.sides.Tie as tie

sides_from-requires : tie.Need-sides_from-requires
sides_from-requires c κs =
    let p = c.requires in
    (p.0, placed_whole p.2 p.0, p.1, ready_whole p.2 p.3)

returns : tie.Need-returns
returns c = ring_whole c.sides_from.ensures

pub sides_spec : {M : Type 1} → statement M
sides_spec =
    tie.close
    (tie.spec sides_from-requires (λ c. search rules) (λ c. search rules) returns)
