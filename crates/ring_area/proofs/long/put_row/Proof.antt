-- `ring_area::long::put_row` meets its contract: the lower half of y at limb k, the upper at the next.
use Prim.Native.Nat.{◌%◌, ◌/◌}
use native.Mathlib.Omega.{arith}
use borrow.Author.Rules.{rules}
use Rattle.ring_area.specs.long.Amount.{base}
use Rattle.ring_area.specs.long.laws.Puts.{product_small, added_then, added_as, roomy_after, roomy_fewer, two_columns}
use Rattle.ring_area.proofs.long.put_row.Statement.{statement}
use Rattle.ring_area.proofs.long.put_row.Tie as tie

mul-put_halves : tie.Need-overflow_mul-x
mul-put_halves c =
    let s = c in
    omega (arith, product_small s.args.x (s.args.y % base) s.requires.1 (omega arith))

put_halves-requires : tie.Need-put_halves-requires
put_halves-requires c κs =
    let s = c in
    (omega arith, s.requires.2, roomy_fewer 2 2 s.requires.3)

mul-put_halves-2 : tie.Need-overflow_mul-x-2
mul-put_halves-2 c =
    let s = c in
    omega (arith, product_small s.args.x (s.args.y / base) s.requires.1 (omega arith))

put_halves-requires-2 : tie.Need-put_halves-requires-2
put_halves-requires-2 c κs =
    let at-put = c in
    let s = at-put in
    (omega (arith, at-put.put_halves.ensures.long), s.requires.2, roomy_after at-put.put_halves.ensures 2 s.requires.3)

returns : tie.Need-returns
returns c =
    let at-put2 = c in
    let at-put = at-put2 in
    let s = at-put in
    added_as (added_then at-put.put_halves.ensures at-put2.put_halves-2.ensures) _ (two_columns s.args.x s.args.y s.args.power s.args.k)

pub put_row_spec : {M : Type 1} → statement M
put_row_spec =
    tie.close
    (tie.spec mul-put_halves put_halves-requires (λ c. search rules) mul-put_halves-2 put_halves-requires-2 (λ c. search rules) returns)
