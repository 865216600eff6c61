-- `clipping::corners::owns` meets its contract: the corner is one of four, so what stands for none does not matter.
use native.Mathlib.Omega.{arith}
use mathlib.Core.Path.{ap}
use lib.Dec.{eqb}
use Rattle.base.specs.numbers.Numbers.{EMPTY}
use Rattle.clipping.specs.corners.laws.CornerWrap.{owner_same}
use borrow.Author.Rules.{rules}
use Rattle.clipping.proofs.corners.owns.Statement.{statement}
use Rattle.clipping.proofs.corners.owns.Tie as tie

returns : tie.Need-returns
returns c =
    let a = c.args in
    ap (λ o. eqb o a.site) (owner_same a.owners a.c 0 EMPTY (omega arith))

pub owns_spec : {M : Type 1} → statement M
owns_spec = tie.close (tie.spec (λ c. search rules) (λ c. search rules) returns)
