-- `ring_area::add_product` meets its contract: like signs add, unlike ones take off.
use mathlib.Core.Path.{◌≡◌, sym, ap, ◌∙◌, subst}
use Prim.Native.Nat.{◌*◌}
use borrow.Author.Rules.{rules}
use lib.Dec.{T}
use lib.Ieee.{Float, binary64, fits, to_bits, of_bits}
use lib.Ieee.Bits.{of_bits-to_bits}
use Rattle.ring_area.specs.long.laws.Puts.{added_as}
use Rattle.root.specs.Root.{units}
use Rattle.root.specs.laws.Bounds.{bounded_finite, finite_no_nan}
use Rattle.ring_area.specs.laws.Splits.{pattern_low}
use Rattle.ring_area.specs.laws.Products.{product_plus, product_minus}
use Rattle.ring_area.proofs.add_product.Statement.{statement}
use Rattle.ring_area.proofs.add_product.Tie as tie

held_x : (s : tie.Start) → T (fits binary64 s.args.x)
held_x s = subst T (sym s.well_formed.1.1.1.0.1) tt

held-y : (s : tie.Start) → T (fits binary64 s.args.y)
held-y s = subst T (sym s.well_formed.1.1.1.1.0.1) tt

-- the product of the patterns' values is that of the values
same : (s : tie.Start) → units (of_bits binary64 (to_bits binary64 s.args.x)) * units (of_bits binary64 (to_bits binary64 s.args.y)) ≡ units s.args.x * units s.args.y
same s =
    ap (λ (v : Float). units v * units (of_bits binary64 (to_bits binary64 s.args.y))) (of_bits-to_bits binary64 s.args.x (held_x s))
    ∙ ap (λ (v : Float). units s.args.x * units v) (of_bits-to_bits binary64 s.args.y (held-y s))

float_to_bits-a : tie.Need-float_to_bits-a
float_to_bits-a c = let s = c in finite_no_nan s.args.x (bounded_finite s.args.x 400 s.requires.0)

float_to_bits-b : tie.Need-float_to_bits-b
float_to_bits-b c = let s = c in finite_no_nan s.args.y (bounded_finite s.args.y 400 s.requires.1)

put_units-requires : tie.Need-put_units-requires
put_units-requires c κs =
    let s = c in
    ((pattern_low s.args.x s.requires.0).low, (pattern_low s.args.y s.requires.1).low, s.requires.3, s.requires.4, s.requires.2.plus)

put_units-requires-2 : tie.Need-put_units-requires-else-a-b
put_units-requires-2 c κs =
    let s = c in
    ((pattern_low s.args.x s.requires.0).low, (pattern_low s.args.y s.requires.1).low, rw s.requires.2.same s.requires.3, rw s.requires.2.same s.requires.4, s.requires.2.minus)

returns : tie.Need-returns-then-a-b
returns c =
    let at-put = c in
    let test = at-put in
    let s = test in
    product_plus s.args.x s.args.y _ _ (pattern_low s.args.x s.requires.0).sign (pattern_low s.args.y s.requires.1).sign _ test.if-a-b.true
    (added_as at-put.put_units.ensures _ (same s.before.before.before.before.before.before.before))

returns-2 : tie.Need-returns-else-a-b
returns-2 c =
    let at-put = c in
    let test = at-put in
    let s = test in
    product_minus s.args.x s.args.y _ _ (pattern_low s.args.x s.requires.0).sign (pattern_low s.args.y s.requires.1).sign _ test.if-a-b.false
    (added_as at-put.put_units-else-a-b.ensures _ (same s.before.before.before.before.before.before.before))

pub add_product_spec : {M : Type 1} → statement M
add_product_spec =
    tie.close
    (tie.spec float_to_bits-a float_to_bits-b put_units-requires put_units-requires-2 (λ c. search rules) returns
    (λ c. search rules) returns-2)
