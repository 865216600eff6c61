-- `reader::try_feed` meets its contract: the rooms are tried first.
use mathlib.Core.Path.{sym, ap, ◌∙◌}
use borrow.Author.Tests.{lt-ltb, le-ltb}
use Rattle.reader.specs.Calls.{form_lists, fed, feed_call}
use Rattle.reader.specs.laws.Calls.{feed_close, feed_wide}
use Rattle.reader.specs.laws.Lengths.{roomy_told}
use Rattle.reader.specs.declared.answers.Answer.{Answer}
use borrow.Author.Rules.{rules}
use Rattle.reader.proofs.try_feed.Statement.{statement}
use Rattle.reader.proofs.try_feed.Tie as tie

abbrev Wide : tie.After-roomy → tie.Else-state-lt-STATE_WORDS
Wide c = c.before

abbrev Start : tie.Else-state-lt-STATE_WORDS → tie.Start
Start c = c.before.before.before.before.before.before.before.before

abbrev FedAll : tie.After-slice_known-then-roomy-6-1 → tie.After-feed_all
FedAll c = c.before.before.before.before.before.before.before.before.before.before.before.before

returns : tie.Need-returns-then-state-lt-STATE_WORDS
unfolding feed_call
returns c = rw (lt-ltb _ _ c.if-state-lt-STATE_WORDS.true, c.no_room.ensures)

feed_all-requires : tie.Need-feed_all-requires
feed_all-requires c κs =
    let r = c in
    let a = (Start (Wide r.before.before.before.before.before.before.before)).args in (
      (Wide r.before.before.before.before.before.before.before).if-state-lt-STATE_WORDS.false,
      roomy_told (form_lists a.bounds.now a.sites.now a.triangles.now a.halfedges.now a.hull.now)
          (sym r.roomy.ensures ∙ c.if-roomy.true),
    )

returns-2 : tie.Need-returns-then-roomy
returns-2 c =
    let t = FedAll c in
    let r = t in
    let a = (Start (Wide r.before.before.before.before.before.before.before.before)).args in
    (FedAll c).feed_all.ensures
    ∙ sym (feed_wide a.state.now (form_lists a.bounds.now a.sites.now a.triangles.now a.halfedges.now a.hull.now) a.block.now
    (le-ltb _ _ (Wide r.before.before.before.before.before.before.before.before).if-state-lt-STATE_WORDS.false) (sym r.roomy.ensures ∙ t.if-roomy.true))

returns-3 : tie.Need-returns
returns-3 c =
    let r = c in
    let a = (Start (Wide r.before.before)).args in
    ap (λ (x : Answer). fed x a.state.now (form_lists a.bounds.now a.sites.now a.triangles.now a.halfedges.now a.hull.now)) c.no_room-2.ensures
    ∙ sym (feed_close a.state.now (form_lists a.bounds.now a.sites.now a.triangles.now a.halfedges.now a.hull.now) a.block.now
    (le-ltb _ _ (Wide r.before.before).if-state-lt-STATE_WORDS.false) (sym r.roomy.ensures ∙ c.if-roomy.false))

pub try_feed_spec : {M : Type 1} → statement M
try_feed_spec =
    tie.close
    (tie.spec (λ c κs. search rules) returns (λ c κs. search rules) feed_all-requires (λ c. search rules) (λ c. search rules) (λ c. search rules)
    (λ c. search rules) (λ c. search rules) (λ c. search rules) returns-2 (λ c κs. search rules) (λ c. search rules) (λ c. search rules)
    (λ c. search rules) (λ c. search rules) (λ c. search rules) returns-3)
