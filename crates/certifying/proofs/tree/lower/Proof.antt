-- `certifying::tree::lower` meets its contract.
use Rattle.certifying.specs.tree.laws.Nodes.{lower_second, lower_first}
use borrow.Author.Rules.{rules}
use Rattle.certifying.proofs.tree.lower.Statement.{statement}
use Rattle.certifying.proofs.tree.lower.Tie as tie

returns : tie.Need-returns-then-sites-wide
returns c =
    let at-wide2 = c in let at_wide = at-wide2 in let s = at_wide in
    lower_second s.requires at-wide2.wide-2.ensures at_wide.wide.ensures c.if-sites-wide.true

returns-2 : tie.Need-returns
returns-2 c =
    let at-wide2 = c in let at_wide = at-wide2 in let s = at_wide in
    lower_first s.requires at-wide2.wide-2.ensures at_wide.wide.ensures c.if-sites-wide.false

pub lower_spec : {M : Type 1} → statement M
lower_spec =
    tie.close (tie.spec (λ c κs. search rules) (λ c. search rules) (λ c. search rules) (λ c. search rules) (λ c. search rules)
    (λ c κs. search rules) (λ c. search rules) (λ c. search rules) (λ c. search rules) (λ c. search rules) returns
    returns-2)
