-- `ring_area::rounded::leading` meets its contract: three limbs hold what is left, and the lowest of them its last bits.
use mathlib.Core.Path.{sym, subst}
use Prim.Native.Nat.{ℕ, ◌<◌}
use native.Mathlib.Omega.{arith}
use lib.Pow.{pow_pos}
use borrow.Author.Rules.{rules}
use Rattle.ring_area.specs.long.Amount.{lifted}
use Rattle.ring_area.specs.rounded.laws.Limbs.{LimbParts, leading_small, leading_bits}
use Rattle.ring_area.proofs.rounded.leading.Statement.{statement}
use Rattle.ring_area.proofs.rounded.leading.Tie as tie

-- the parts, as the calls gave them
parts : (c : tie.After-none_below-clear)
    → LimbParts (lifted c.args.from c.args.limbs.now)
    c.args.t c.limb-low.result c.power-down.result c.pair-above.result
parts c = record { first = c.limb-low.ensures; power = c.power-down.ensures; next = c.pair-above.ensures }

some : (c : tie.After-none_below-clear) → 0 < c.power-down.result
some c = subst (λ (x : ℕ). 0 < x) (sym c.power-down.ensures) (pow_pos _)

mul-t12 : tie.Need-overflow_mul-result
mul-t12 c = let s = c in omega (arith, leading_small s.requires.0 s.requires.1 (parts c))

add-t13 : tie.Need-overflow_add-result
add-t13 c = let s = c in omega (arith, leading_small s.requires.0 s.requires.1 (parts c))

returns : tie.Need-returns
returns c = let s = c in leading_bits s.requires.0 s.requires.1 (parts c) c.none_below-clear.result c.none_below-clear.ensures

pub leading_spec : {M : Type 1} → statement M
leading_spec =
    tie.close
    (tie.spec (λ c κs. search rules) (λ c κs. search rules) (λ c. search rules) (λ c κs. search rules) (λ c κs. search rules)
    some some mul-t12 add-t13 some returns)
