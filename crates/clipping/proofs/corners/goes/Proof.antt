-- `clipping::corners::goes` meets its contract: it asks the definition's two questions in their order.
use borrow.Author.Rules.{rules}
use mathlib.Core.Path.{sym}
use Rattle.clipping.specs.corners.laws.CornerWrap.{goes_stop, goes_on}
use Rattle.clipping.proofs.corners.goes.Statement.{statement}
use Rattle.clipping.proofs.corners.goes.Tie as tie

returns : tie.Need-returns-then-c-stop
returns c =
    let a = c.args in
    sym (goes_stop a.site a.stop a.c a.owners c.if-c-stop.true)

returns-2 : tie.Need-returns
returns-2 c =
    let a = c.args in
    sym (goes_on a.site a.stop a.c a.owners c.if-c-stop.false)

pub goes_spec : {M : Type 1} → statement M
goes_spec = tie.close (tie.spec returns (λ c. search rules) (λ c. search rules) returns-2)
