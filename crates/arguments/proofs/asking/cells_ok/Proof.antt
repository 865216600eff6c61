-- There is an offset more than sites, and the others are checked.
use Rattle.arguments.specs.asking.laws.Asks.{cells_says}
use native.Mathlib.Omega.{arith}
use borrow.Author.Rules.{rules}
use Rattle.arguments.proofs.asking.cells_ok.Statement.{statement}
use Rattle.arguments.proofs.asking.cells_ok.Tie as tie

returns : tie.Need-returns-then-offsets-eq0
returns c = λ x. omega (arith, x.many)

returns-2 : tie.Need-returns-then-offsets-sites
returns-2 c = λ x. c.if-offsets-sites.true (omega (arith, x.many))

returns-3 : tie.Need-returns
returns-3 c =
    let at_start = c in
    let a = at_start.args in cells_says a.offsets.now a.indexes.now _ c.check_cells.result c.if-offsets-eq0.false c.if-offsets-sites.false c.check_cells.ensures

pub cells_ok_spec : {M : Type 1} → statement M
cells_ok_spec = tie.close (tie.spec returns (λ c. search rules) returns-2 (λ c κs. search rules) returns-3)
