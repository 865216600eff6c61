-- `reader::feed_all` meets its contract: the state that the words say takes the bytes, and is stored.
use mathlib.Core.Path.{ap, ◌∙◌}
use Rattle.form.specs.step.Reader.{reading, takes}
use Rattle.form.specs.declared.step.Reader.{Reader}
use Rattle.reader.specs.Calls.{fed_by}
use borrow.Author.Rules.{rules}
use Rattle.reader.proofs.feed_all.Statement.{statement}
use Rattle.reader.proofs.feed_all.Tie as tie

abbrev Fed : tie.After-store-arg-1 → tie.After-feed-n
Fed c = c.before.before.before.before.before.before.before.before.before.before.before

abbrev Start : tie.After-feed-n → tie.Start
Start c = c.before.before.before.before.before.before.before.before.before.before.before.before.before.before

store-requires : tie.Need-store-requires
store-requires c κs = (Start (Fed c)).requires.0

returns : tie.Need-returns
returns c =
    let f = Fed c.before.before.before.before in
    let a = (Start f).args in
    rw (c.answered.ensures, c.store.ensures)
    (ap (fed_by a.state.now)
    (f.feed-n.ensures.0
    ∙ ap (λ (r : Reader). takes (reading r a.bounds.now a.sites.now a.triangles.now a.halfedges.now a.hull.now) a.block.now)
    f.load.ensures.0))

pub feed_all_spec : {M : Type 1} → statement M
feed_all_spec =
    tie.close
    (tie.spec (λ c κs. search rules) (λ c κs. search rules) store-requires (λ c κs. search rules) (λ c. search rules) (λ c. search rules)
    (λ c. search rules) (λ c. search rules) (λ c. search rules) (λ c. search rules) returns)
