-- `ring_area::rounded::rounded` meets its contract: the pattern with its sign.
use mathlib.Core.Path.{◌≡◌, ap}
use mathlib.Core.Bool.{Bool, true, false, cond}
use Prim.Native.Nat.{ℕ, ◌+◌, ◌^◌}
use native.Mathlib.Omega.{arith}
use borrow.Author.Rules.{rules}
use Rattle.ring_area.specs.long.Amount.{amount, lifted}
use Rattle.ring_area.specs.rounded.Rounded.{rounded_pattern}
use Rattle.ring_area.specs.rounded.laws.Limbs.{amount_under}
use Rattle.ring_area.specs.rounded.laws.Patterns.{pattern_rounds, no_nan}
use Rattle.ring_area.proofs.rounded.rounded.Statement.{statement}
use Rattle.ring_area.proofs.rounded.rounded.Tie as tie

float_from_bits-result : tie.Need-float_from_bits-result
float_from_bits-result c = no_nan _ c.pattern-b.result (omega (arith, c.pattern-b.ensures.1)) c.pattern-b.ensures.1

returns : tie.Need-returns-then-minus
returns c =
    let s = c in
    pattern_rounds (amount (lifted s.args.from s.args.limbs.now)) (amount_under (lifted s.args.from s.args.limbs.now) s.requires.0 s.requires.1) s.args.minus _
    (signed s.args.minus c.pattern-b.result (rounded_pattern (amount (lifted s.args.from s.args.limbs.now))) c.if-minus.true c.pattern-b.ensures.0)
  where
    signed : (s : Bool) (r p : ℕ) → s ≡ true → r ≡ p → 2 ^ 63 + r ≡ cond s (2 ^ 63) 0 + p
    signed s r p e h = rw e (ap (λ (x : ℕ). 2 ^ 63 + x) h)

float_from_bits-result-2 : tie.Need-float_from_bits-result-2
float_from_bits-result-2 c = no_nan _ c.pattern-b.result (omega (arith, c.pattern-b.ensures.1)) c.pattern-b.ensures.1

returns-2 : tie.Need-returns
returns-2 c =
    let s = c in
    pattern_rounds (amount (lifted s.args.from s.args.limbs.now)) (amount_under (lifted s.args.from s.args.limbs.now) s.requires.0 s.requires.1) s.args.minus _
    (plain s.args.minus c.pattern-b.result (rounded_pattern (amount (lifted s.args.from s.args.limbs.now))) c.if-minus.false c.pattern-b.ensures.0)
  where
    plain : (s : Bool) (r p : ℕ) → s ≡ false → r ≡ p → r ≡ cond s (2 ^ 63) 0 + p
    plain s r p e h = rw e (omega arith)

pub rounded_spec : {M : Type 1} → statement M
rounded_spec =
    tie.close
    (tie.spec (λ c κs. search rules) (λ c. search rules) float_from_bits-result returns float_from_bits-result-2 returns-2)
