-- `cell_builder::finish::lost_corner` meets its contract: struck out, or found by the search, it is not lost.
use mathlib.Core.Path.{sym, ◌∙◌}
use borrow.Author.Rules.{rules}
use Rattle.cell_builder.specs.finish.laws.LostLeft.{not_struck, not_held, lost_one}
use Rattle.cell_builder.proofs.finish.lost_corner.Statement.{statement}
use Rattle.cell_builder.proofs.finish.lost_corner.Tie as tie

returns : tie.Need-returns-then-owner-eq-EMPTY
returns c = let a = c.args in not_struck a.v a.owner a.entries.now c.if-owner-eq-EMPTY.true

returns-2 : tie.Need-returns-then-holds
returns-2 c =
    let a = c.args in
    not_held a.v a.owner a.entries.now c.if-owner-eq-EMPTY.false (sym c.holds.ensures ∙ c.if-holds.true)

returns-3 : tie.Need-returns
returns-3 c =
    let a = c.args in
    lost_one a.v a.owner a.entries.now c.if-owner-eq-EMPTY.false (sym c.holds.ensures ∙ c.if-holds.false)

pub lost_corner_spec : {M : Type 1} → statement M
lost_corner_spec = tie.close (tie.spec returns (λ c κs. search rules) returns-2 returns-3)
