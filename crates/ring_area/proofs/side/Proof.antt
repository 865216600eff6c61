-- `ring_area::side` meets its contract: its two products, the second with the two sums exchanged.
use mathlib.Core.Path.{◌∙◌}
use borrow.Author.Rules.{rules}
use Rattle.ring_area.specs.long.laws.Lifted.{lifted_same}
use Rattle.ring_area.specs.laws.Products.{ready_fewer, ready_after, ready_turned, side_in}
use Rattle.ring_area.proofs.side.Statement.{statement}
use Rattle.ring_area.proofs.side.Tie as tie

add_product-requires : tie.Need-add_product-requires
add_product-requires c κs =
    let p = c.requires in
    (p.0.bounded.y, p.1.bounded.x, ready_fewer 8 8 p.2, p.0.y, p.1.x)

add_product-requires-2 : tie.Need-add_product-requires-2
add_product-requires-2 c κs =
    let first = c in
    let p = first.requires in
    let r = ready_after 8 first.add_product.ensures.added first.add_product.ensures.taken p.2 in
    let e = lifted_same _ _ _ first.add_product.ensures.taken.long ∙ p.2.same in
    (p.0.bounded.x, p.1.bounded.y, ready_turned r, rw e p.0.x, rw e p.1.y)

returns : tie.Need-returns
returns c =
    let second = c in
    let first = second in
    side_in first.add_product.ensures second.add_product-2.ensures

pub side_spec : {M : Type 1} → statement M
side_spec =
    tie.close
    (tie.spec add_product-requires add_product-requires-2 (λ c. search rules) (λ c. search rules) returns)
