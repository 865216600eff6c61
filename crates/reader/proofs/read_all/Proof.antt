-- `reader::read_all` meets its contract: the start takes the bytes, and is finished and told.
use mathlib.Core.Bool.{false}
use mathlib.Core.Path.{ap, ◌∙◌}
use Rattle.form.specs.step.Reader.{reading, takes}
use Rattle.form.specs.step.laws.Standing.{ok_start, ok_finished}
use Rattle.form.specs.declared.step.Reader.{Reader}
use Rattle.reader.specs.Calls.{read_by}
use borrow.Author.Rules.{rules}
use Rattle.reader.proofs.read_all.Statement.{statement}
use Rattle.reader.proofs.read_all.Tie as tie

abbrev Fed : tie.After-finished → tie.After-feed-n
Fed c = c.before.before.before.before.before.before.before.before.before.before.before

feed-requires : tie.Need-feed-n-requires
feed-requires c κs = let s = c in (rw s.start.ensures (ok_start false), s.requires)

reported-requires : tie.Need-reported-requires
reported-requires c κs = rw c.finished.ensures (ok_finished _ (Fed c).feed-n.ensures.1)

returns : tie.Need-returns
returns c =
    let f = Fed c.before in
    let s = f in
    let a = s.args in
    rw (c.reported.ensures, c.finished.ensures)
    (ap read_by
    (f.feed-n.ensures.0
    ∙ ap (λ (r : Reader). takes (reading r a.bounds.now a.sites.now a.triangles.now a.halfedges.now a.hull.now) a.form.now)
    s.start.ensures))

pub read_all_spec : {M : Type 1} → statement M
read_all_spec =
    tie.close
    (tie.spec (λ c κs. search rules) feed-requires (λ c κs. search rules) reported-requires (λ c. search rules) (λ c. search rules) (λ c. search rules)
    (λ c. search rules) (λ c. search rules) returns)
