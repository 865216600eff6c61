-- `ring_area::put_units` meets its contract: five limbs take the product, and 0 takes none.
use mathlib.Core.Path.{sym, subst}
use Prim.Native.Nat.{ℕ, ◌<◌}
use native.Mathlib.Omega.{arith}
use lib.Pow.{pow-lt}
use borrow.Author.Rules.{rules}
use Rattle.ring_area.specs.long.Amount.{base}
use Rattle.ring_area.specs.long.laws.Lifted.{lifted_room}
use Rattle.ring_area.specs.laws.Products.{none_left, none_right, begins, ends, product_placed}
use Rattle.ring_area.proofs.put_units.Statement.{statement}
use Rattle.ring_area.proofs.put_units.Tie as tie

returns : tie.Need-returns-then-a-eq0
returns c = none_left c.split-a.ensures c.if-a-eq0.true _ _

returns-2 : tie.Need-returns-then-b-eq0
returns-2 c = none_right c.split-b.ensures c.if-b-eq0.true _ _

sub-put_product : tie.Need-overflow_sub-e
sub-put_product c =
    let test2 = c in
    let at-split2 = test2 in
    let test = at-split2 in
    let at_split = test in
    let s = at_split in
    begins at_split.split-a.ensures at-split2.split-b.ensures s.requires.2 s.requires.3 test.if-a-eq0.false test2.if-b-eq0.false

put_product-requires : tie.Need-put_product-requires
put_product-requires c κs =
    let test2 = c in
    let at-split2 = test2 in
    let test = at-split2 in
    let at_split = test in
    let s = at_split in (
      ends at_split.split-a.ensures at-split2.split-b.ensures s.requires.2 s.requires.3 test.if-a-eq0.false test2.if-b-eq0.false,
      subst (λ (x : ℕ). x < base) (sym c.power.ensures) (pow-lt {j = 32} (omega arith)),
      lifted_room _ s.requires.4,
    )

returns-3 : tie.Need-returns
returns-3 c =
    let at-put = c in
    let at-power = at-put in
    let test2 = at-power in
    let at-split2 = test2 in
    let test = at-split2 in
    let at_split = test in
    let s = at_split in
    product_placed at_split.split-a.ensures at-split2.split-b.ensures s.requires.2 s.requires.3 test.if-a-eq0.false test2.if-b-eq0.false at-power.power.ensures at-put.put_product.ensures

pub put_units_spec : {M : Type 1} → statement M
put_units_spec =
    tie.close
    (tie.spec (λ c κs. search rules) returns (λ c κs. search rules) returns-2 (λ c. search rules) sub-put_product
    (λ c κs. search rules) put_product-requires (λ c. search rules) returns-3)
