-- `certifying::tree::higher` meets its contract.
use Rattle.certifying.specs.tree.laws.Nodes.{higher_second, higher_first}
use borrow.Author.Rules.{rules}
use Rattle.certifying.proofs.tree.higher.Statement.{statement}
use Rattle.certifying.proofs.tree.higher.Tie as tie

returns : tie.Need-returns-then-sites-wide
returns c =
    let at-wide2 = c in let at_wide = at-wide2 in let s = at_wide in
    higher_second s.requires at_wide.wide.ensures at-wide2.wide-2.ensures c.if-sites-wide.true

returns-2 : tie.Need-returns
returns-2 c =
    let at-wide2 = c in let at_wide = at-wide2 in let s = at_wide in
    higher_first s.requires at_wide.wide.ensures at-wide2.wide-2.ensures c.if-sites-wide.false

pub higher_spec : {M : Type 1} → statement M
higher_spec =
    tie.close (tie.spec (λ c κs. search rules) (λ c. search rules) (λ c. search rules) (λ c. search rules) (λ c. search rules)
    (λ c κs. search rules) (λ c. search rules) (λ c. search rules) (λ c. search rules) (λ c. search rules) returns
    returns-2)
