-- Its three answers are the three laws of a half-edge: paired, no mark to take off, or one taken off.
use mathlib.Core.Bool.{not}
use mathlib.Core.Path.{ap}
use Rattle.mesh_check.specs.border.laws.Marks.{unmark_paired, unmark_stray, unmark_taken}
use borrow.Author.Rules.{rules}
use Rattle.mesh_check.proofs.border.unmark_one.Statement.{statement}
use Rattle.mesh_check.proofs.border.unmark_one.Tie as tie

returns : tie.Need-returns-then-p
returns c = unmark_paired _ _ _ _ _ c.if-p.true

returns-2 : tie.Need-returns-then-not-leads
returns-2 c =
    let k = c in
    unmark_stray _ _ _ _ _ _ _ _ _ k.if-p.false k.wide-a.ensures
    k.wide-m.ensures k.end_site-b.ensures k.leads.ensures (ap not c.if-not-leads.true)

returns-3 : tie.Need-returns
returns-3 c =
    let k = c in
    unmark_taken _ _ _ _ _ _ _ _ _ k.if-p.false k.wide-a.ensures
    k.wide-m.ensures k.end_site-b.ensures k.leads.ensures (ap not c.if-not-leads.false)

pub unmark_one_spec : {M : Type 1} → statement M
unmark_one_spec =
    tie.close
    (tie.spec (λ c. search rules) (λ c. search rules) returns (λ c. search rules) (λ c. search rules)
    (λ c κs. search rules) (λ c. search rules) (λ c. search rules) (λ c κs. search rules) (λ c κs. search rules)
    (λ c κs. search rules) returns-2 (λ c. search rules) (λ c. search rules) (λ c. search rules) returns-3)
