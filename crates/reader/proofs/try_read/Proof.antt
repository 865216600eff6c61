-- `reader::try_read` meets its contract: the rooms are tried first.
use mathlib.Core.Path.{sym, ap, ◌∙◌}
use Rattle.reader.specs.Calls.{form_lists, read_form}
use Rattle.reader.specs.laws.Calls.{read_close, read_wide}
use Rattle.reader.specs.laws.Lengths.{roomy_told}
use Rattle.reader.specs.declared.answers.Report.{Report}
use borrow.Author.Rules.{rules}
use Rattle.reader.proofs.try_read.Statement.{statement}
use Rattle.reader.proofs.try_read.Tie as tie

abbrev Start : tie.After-roomy → tie.Start
Start c = c.before.before.before.before.before.before.before

abbrev ReadAll : tie.After-slice_known-then-roomy-5-1 → tie.After-read_all
ReadAll c = c.before.before.before.before.before.before.before.before.before.before

read_all-requires : tie.Need-read_all-requires
read_all-requires c κs =
    let r = c in
    let a = (Start r.before.before.before.before.before.before).args in
    roomy_told (form_lists a.bounds.now a.sites.now a.triangles.now a.halfedges.now a.hull.now)
    (sym r.roomy.ensures ∙ c.if-roomy.true)

returns : tie.Need-returns-then-roomy
returns c =
    let t = ReadAll c in
    let a = (Start t.before.before.before.before.before.before.before).args in
    (ReadAll c).read_all.ensures
    ∙ sym (read_wide (form_lists a.bounds.now a.sites.now a.triangles.now a.halfedges.now a.hull.now) a.form.now
    (sym t.roomy.ensures ∙ t.if-roomy.true))

returns-2 : tie.Need-returns
returns-2 c =
    let r = c in
    let a = (Start r.before.before).args in
    ap (λ (x : Report). read_form x (form_lists a.bounds.now a.sites.now a.triangles.now a.halfedges.now a.hull.now)) c.no_report.ensures
    ∙ sym (read_close (form_lists a.bounds.now a.sites.now a.triangles.now a.halfedges.now a.hull.now) a.form.now (sym r.roomy.ensures ∙ c.if-roomy.false))

pub try_read_spec : {M : Type 1} → statement M
try_read_spec =
    tie.close
    (tie.spec (λ c κs. search rules) read_all-requires (λ c. search rules) (λ c. search rules) (λ c. search rules) (λ c. search rules)
    (λ c. search rules) returns (λ c κs. search rules) (λ c. search rules) (λ c. search rules) (λ c. search rules) (λ c. search rules)
    (λ c. search rules) returns-2)
