-- `form::read` meets its contract: it is `feed` from the start, and `finish`.
use Rattle.form.specs.step.laws.Standing.{ok_start}
use Rattle.form.specs.laws.Feed.{reads_all}
use borrow.Author.Rules.{rules}
use Rattle.form.proofs.read.Statement.{statement}
use Rattle.form.proofs.read.Tie as tie

abbrev Fed : tie.After-finish → tie.After-feed-r
Fed c = c.before.before.before.before.before.before.before.before.before.before.before

feed-requires : tie.Need-feed-r-requires
feed-requires c κs = let b = c in
    let s = b in
    (rw b.start.ensures (ok_start s.args.old), s.requires)

returns : tie.Need-returns
returns c = let f = Fed c in
    let b = f in
    let a = b.args in
    reads_all a.old a.bytes.now b.start.result f.feed-r.result a.bounds.now a.sites.now a.triangles.now a.halfedges.now a.hull.now _ _ _ _ _ c.finish.result
    b.start.ensures f.feed-r.ensures.0 f.feed-r.ensures.1 c.finish.ensures

pub read_spec : {M : Type 1} → statement M
read_spec =
    tie.close
    (tie.spec (λ c κs. search rules) feed-requires (λ c κs. search rules) (λ c. search rules) (λ c. search rules)
    (λ c. search rules) (λ c. search rules) (λ c. search rules) returns)
