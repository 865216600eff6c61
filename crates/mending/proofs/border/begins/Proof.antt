-- The three answers are the cases of `loop_begin`; a site that is none leads nowhere.
use mathlib.Core.Path.{sym, ◌∙◌}
use Rattle.mending.specs.border.laws.Leads.{begins_first, begins_lowest, none_there, none_here, some_here}
use borrow.Author.Rules.{rules}
use Rattle.mending.proofs.border.begins.Statement.{statement}
use Rattle.mending.proofs.border.begins.Tie as tie

returns : tie.Need-returns-then-work-s
returns c =
    let at_start = c in
    c.lowest.ensures ∙ sym (begins_lowest _ _ (none_there at_start.args.work.now at_start.args.first c.wide-s.result c.wide-s.ensures c.if-work-s.true))

returns-2 : tie.Need-returns-then-work-s-2
returns-2 c =
    let at-if1 = c in
    let at_wide = at-if1 in
    c.lowest-then-work-s-2.ensures ∙ sym (begins_lowest _ _ (none_here at_wide.args.work.now at_wide.args.first at_wide.wide-s.result at_wide.wide-s.ensures at-if1.if-work-s.false c.if-work-s-2.true))

returns-3 : tie.Need-returns
returns-3 c =
    let at_wide = c in
    sym (begins_first _ _ (some_here at_wide.args.work.now at_wide.args.first at_wide.wide-s.result at_wide.wide-s.ensures c.if-work-s.false c.if-work-s-2.false))

pub begins_spec : {M : Type 1} → statement M
begins_spec =
    tie.close
    (tie.spec (λ c κs. search rules) (λ c κs. search rules) returns (λ c. search rules) (λ c. search rules)
    (λ c κs. search rules) returns-2 returns-3)
