-- `ring_area::rounding::rounded_from` meets its contract: where nothing was borrowed the first is no less; else it is the other way round.
use mathlib.Core.Path.{◌∙◌}
use native.Mathlib.Omega.{arith}
use borrow.Author.Rules.{rules}
use Rattle.ring_area.specs.long.laws.Lifted.{lifted_differs}
use Rattle.ring_area.specs.rounding.laws.Differences.{differ_plus, differ_minus, differ_roundable}
use Rattle.ring_area.proofs.rounding.rounded_from.Statement.{statement}
use Rattle.ring_area.proofs.rounding.rounded_from.Tie as tie

rounded-requires : tie.Need-rounded-requires
rounded-requires c κs =
    let test = c in
    let at-difference = test in
    let s = at-difference in
    differ_roundable _ at-difference.difference.ensures s.requires.4

returns : tie.Need-returns-then-difference-eq0
returns c =
    let test = c in
    c.rounded.ensures ∙ differ_plus (lifted_differs _ test.difference.ensures) test.if-difference-eq0.true

rounded-requires-2 : tie.Need-rounded-requires-2
rounded-requires-2 c κs =
    let at_second = c in
    let at-difference = at_second in
    let s = at-difference in
    differ_roundable _ at_second.difference-2.ensures (omega (arith, s.requires.4, at-difference.difference.ensures.long))

returns-2 : tie.Need-returns
returns-2 c =
    let at_second = c in
    let test = at_second in
    c.rounded-2.ensures ∙ differ_minus (lifted_differs _ test.difference.ensures) test.if-difference-eq0.false (lifted_differs _ at_second.difference-2.ensures)

pub rounded_from_spec : {M : Type 1} → statement M
rounded_from_spec =
    tie.close
    (tie.spec (λ c κs. search rules) rounded-requires (λ c. search rules) returns (λ c κs. search rules) rounded-requires-2
    (λ c. search rules) returns-2)
