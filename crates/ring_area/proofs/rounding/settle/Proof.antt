-- `ring_area::rounding::settle` meets its contract: the carries leave both sums as they are.
use mathlib.Core.Path.{ap, ◌∙◌}
use Prim.Native.Nat.{ℕ}
use borrow.Author.Rules.{rules}
use Rattle.ring_area.specs.long.Amount.{amount, lifted}
use Rattle.ring_area.specs.Area.{rounded_half}
use Rattle.ring_area.specs.rounding.laws.Differences.{settled_same}
use Rattle.ring_area.proofs.rounding.settle.Statement.{statement}
use Rattle.ring_area.proofs.rounding.settle.Tie as tie

rounded_from-requires : tie.Need-rounded_from-requires
rounded_from-requires c κs =
    let at-carry2 = c in
    let at-carry = at-carry2 in
    let s = at-carry in
    (at-carry.carry.ensures.long ∙ s.requires.0, at-carry2.carry-2.ensures.long ∙ s.requires.1, at-carry.carry.ensures.settled, at-carry2.carry-2.ensures.settled, s.requires.4)

returns : tie.Need-returns
returns c =
    let at-rounded = c in
    let at-carry2 = at-rounded in
    let at-carry = at-carry2 in
    let s = at-carry in
    at-rounded.rounded_from.ensures
    ∙ ap (λ (x : ℕ). rounded_half x (amount (lifted s.args.from at-carry2.carry-2.new.limbs))) (settled_same s.args.from s.requires.2 at-carry.carry.ensures)
    ∙ ap (λ (x : ℕ). rounded_half (amount (lifted s.args.from s.args.plus.now)) x) (settled_same s.args.from s.requires.3 at-carry2.carry-2.ensures)

pub settle_spec : {M : Type 1} → statement M
settle_spec =
    tie.close
    (tie.spec (λ c κs. search rules) (λ c κs. search rules) rounded_from-requires (λ c. search rules) (λ c. search rules)
    (λ c. search rules) returns)
