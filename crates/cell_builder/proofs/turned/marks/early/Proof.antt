-- `cell_builder::turned::marks::early` meets its contract: it asks what an early site is, one thing after the other.
use borrow.Author.Rules.{rules}
use mathlib.Core.Path.{refl}
use Rattle.cell_builder.specs.turned.laws.Marking.{early_not, early_says}
use Rattle.cell_builder.proofs.turned.marks.early.Statement.{statement}
use Rattle.cell_builder.proofs.turned.marks.early.Tie as tie

returns-2 : tie.Need-returns-then-marks-t-ne0
returns-2 c =
    let w = c in
    early_not _ _ _ _ _ w.wide-t.ensures (λ l n z. c.if-marks-t-ne0.true z)

returns-3 : tie.Need-returns
returns-3 c =
    let second = c in
    let first = second in
    let w = first in
    let a = w.args in
    early_says a.halfedges.now a.table.now a.marks.now a.s w.wide-t.result w.wide-t.ensures first.if-t-halfedges.false second.if-marks-t-ne0.false _ refl

pub early_spec : {M : Type 1} → statement M
early_spec =
    tie.close
    (tie.spec (λ c. search rules) (λ c. search rules) (λ c κs. search rules) (λ c. search rules) (λ c. search rules)
    returns-2 (λ c. search rules) (λ c. search rules) returns-3)
