-- `ring_area::long::put_product` meets its contract: the lower half of x at limb k, the upper at the next.
use native.Mathlib.Omega.{arith}
use borrow.Author.Rules.{rules}
use Rattle.ring_area.specs.long.laws.Puts.{added_then, added_as, roomy_after, roomy_fewer, two_rows}
use Rattle.ring_area.proofs.long.put_product.Statement.{statement}
use Rattle.ring_area.proofs.long.put_product.Tie as tie

put_row-requires : tie.Need-put_row-requires
put_row-requires c κs =
    let s = c in
    (omega arith, omega arith, s.requires.1, roomy_fewer 4 4 s.requires.2)

put_row-requires-2 : tie.Need-put_row-requires-2
put_row-requires-2 c κs =
    let at-put = c in
    let s = at-put in
    (omega (arith, at-put.put_row.ensures.long), omega arith, s.requires.1, roomy_after at-put.put_row.ensures 4 s.requires.2)

returns : tie.Need-returns
returns c =
    let at-put2 = c in
    let at-put = at-put2 in
    let s = at-put in
    added_as (added_then at-put.put_row.ensures at-put2.put_row-2.ensures) _ (two_rows s.args.x s.args.y s.args.power s.args.k)

pub put_product_spec : {M : Type 1} → statement M
put_product_spec =
    tie.close
    (tie.spec put_row-requires (λ c. search rules) put_row-requires-2 (λ c. search rules) returns)
