-- `ring_area::rounded::pattern` meets its contract: the bits that are dropped, and what is kept of the number.
use mathlib.Core.Path.{◌≡◌, sym, ap, ◌∙◌, subst}
use Prim.Native.Nat.{ℕ, ◌-◌, ◌*◌, ◌+◌, ◌^◌, ◌≤◌, ◌<◌}
use native.Mathlib.Omega.{arith}
use lib.Ieee.{size}
use borrow.Author.Rules.{rules}
use Rattle.ring_area.specs.long.Amount.{amount, lifted}
use Rattle.ring_area.specs.rounded.Rounded.{rounded_pattern}
use Rattle.ring_area.specs.rounded.laws.Limbs.{amount_under}
use Rattle.ring_area.specs.rounded.laws.Patterns.{pattern_small, room_for, few, pattern_is}
use Rattle.ring_area.proofs.rounded.pattern.Statement.{statement}
use Rattle.ring_area.proofs.rounded.pattern.Tie as tie

-- the number that the limbs are
abbrev number : tie.Start → ℕ
number s = amount (lifted s.args.from s.args.limbs.now)

-- the bits dropped
dropped : (c : tie.After-over-dropped) → c.over-dropped.result ≡ size (number c.before.before.before) - 1128
dropped c = c.over-dropped.ensures ∙ ap (λ (z : ℕ). z - 1128) c.bits.ensures

under : (s : tie.Start) → number s < 2 ^ 3008
under s = amount_under (lifted s.args.from s.args.limbs.now) s.requires.0 s.requires.1

most : (c : tie.After-over-dropped) → c.over-dropped.result ≤ 1880
most c = few (number c.before.before.before) c.over-dropped.result (dropped c) (under c.before.before.before)

leading-requires : tie.Need-leading-cut-requires
leading-requires c κs =
    (c.requires.0, room_for (number c.before.before.before) c.over-dropped.result (dropped c), omega (arith, most c))

mul-result : tie.Need-overflow_mul-result
mul-result c = omega (arith, most c.before)

is : (c : tie.After-halved) → c.over-dropped.result * 2 ^ 52 + c.halved.result ≡ rounded_pattern (number c.before.before.before.before.before)
is c =
    pattern_is (number c.before.before.before.before.before) c.over-dropped.result _ c.halved.result _
    (dropped c.before.before) c.leading-cut.ensures c.halved.ensures

add-result : tie.Need-overflow_add-result
add-result c = omega (arith, is c, pattern_small (number c.before.before.before.before.before) (under c.before.before.before.before.before))

returns : tie.Need-returns
returns c = (
  is c,
  subst (λ (x : ℕ). x < 0x7FF0_0000_0000_0000) (sym (is c))
      (pattern_small (number c.before.before.before.before.before) (under c.before.before.before.before.before)),
)

pub pattern_spec : {M : Type 1} → statement M
pattern_spec =
    tie.close
    (tie.spec (λ c κs. search rules) (λ c κs. search rules) (λ c. search rules) leading-requires mul-result (λ c κs. search rules)
    add-result returns)
