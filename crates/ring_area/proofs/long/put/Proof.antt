-- `ring_area::long::put` meets its contract: the product has 64 bits, its two halves find room.
use Prim.Native.Nat.{◌+◌, ◌*◌, ◌%◌}
use native.Mathlib.Omega.{arith}
use lib.ListN.{get_or, length-set}
use borrow.Author.Rules.{rules}
use Rattle.ring_area.specs.long.Amount.{base}
use Rattle.ring_area.specs.long.laws.Puts.{product_small, put_added}
use Rattle.ring_area.proofs.long.put.Statement.{statement}
use Rattle.ring_area.proofs.long.put.Tie as tie

mul-x : tie.Need-overflow_mul-x
mul-x c = omega (arith, product_small c.args.n c.args.power c.requires.1 c.requires.2)

add-limbs : tie.Need-overflow_add-limbs
add-limbs c =
    let s = c in
    omega (arith, s.requires.3.each s.args.k)

add-limbs-2 : tie.Need-overflow_add-limbs-2
add-limbs-2 c =
    let s = c in
    omega (arith, s.requires.3.each (s.args.k + 1), product_small s.args.n s.args.power s.requires.1 s.requires.2)

slice_write-limbs-2 : tie.Need-bounds-limbs-k-4
slice_write-limbs-2 c =
    let s = c in
    let l = s.args.limbs.now in
    omega (arith, s.requires.0, length-set l s.args.k (get_or l s.args.k 0 + s.args.n * s.args.power % base))

returns : tie.Need-returns
returns c =
    let s = c in
    put_added _ _ _ s.requires.0 (product_small s.args.n s.args.power s.requires.1 s.requires.2)

pub put_spec : {M : Type 1} → statement M
put_spec =
    tie.close
    (tie.spec mul-x (λ c. search rules) (λ c. search rules) (λ c. search rules) (λ c. search rules) (λ c. search rules) add-limbs
    (λ c. search rules) (λ c. search rules) add-limbs-2 (λ c. search rules) (λ c. search rules) slice_write-limbs-2
    (λ c. search rules) returns)
