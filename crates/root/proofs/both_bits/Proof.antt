-- `root::both_bits` meets its contract: two patterns of finite values above 0 by `positive_roots`, any others each by `root_bits`.
use mathlib.Core.Path.{◌≡◌, sym, ◌∙◌}
use mathlib.Core.Bool.{Bool, true, ◌&&◌}
use Prim.Native.Nat.{ℕ, ◌<◌}
use lib.Dec.{ltb}
use borrow.Author.Rules.{rules}
use borrow.Author.Tests.{ltb-true}
use Rattle.base.specs.common.laws.And.{and_left, and_right}
use Rattle.root.proofs.both_bits.Statement.{statement}
use Rattle.root.proofs.both_bits.Tie as tie

between : (b : ℕ) (t : Bool) → t ≡ (ltb 0 b && ltb b 0x7FF0_0000_0000_0000) → t ≡ true → (0 < b) × (b < 0x7FF0_0000_0000_0000)
between b t e h = let both = sym e ∙ h in (ltb-true _ _ (and_left (ltb 0 b) (ltb b 0x7FF0_0000_0000_0000) both), ltb-true _ _ (and_right (ltb 0 b) (ltb b 0x7FF0_0000_0000_0000) both))

positive_roots-requires : tie.Need-positive_roots-requires
positive_roots-requires c κs = (
  between _ _ c.before.before.is_positive.ensures (and_left c.before.before.is_positive.result c.before.is_positive-2.result c.if-is_positive.true),
  between _ _ c.before.is_positive-2.ensures (and_right c.before.before.is_positive.result c.before.is_positive-2.result c.if-is_positive.true),
)

pub both_bits_spec : {M : Type 1} → statement M
both_bits_spec =
    tie.close
    (tie.spec (λ c κs. search rules) (λ c κs. search rules) positive_roots-requires (λ c. search rules) (λ c κs. search rules)
    (λ c κs. search rules) (λ c. search rules))
