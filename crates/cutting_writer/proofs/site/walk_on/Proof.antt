-- `cutting_writer::site::walk_on`: the circumcenter is fed, and the walk goes on.
use Rattle.cutting_writer.specs.site.laws.Walk.{one_asks, one_made}
use Rattle.cutting_writer.specs.stream.Stages.{left_of}
use borrow.Author.Rules.{rules}
use mathlib.Core.Path.{refl}
use Rattle.cutting_writer.proofs.site.walk_on.Statement.{statement}
use Rattle.cutting_writer.proofs.site.walk_on.Tie as tie

abbrev Start : tie.After-feed_left-arg-2-1 → tie.Start
Start c = c.before.before.before.before.before.before.before.before.before

abbrev Fed-left : tie.After-turn_from → tie.After-feed_left
Fed-left c = c.before.before.before.before.before

feed_left-requires : tie.Need-feed_left-requires
feed_left-requires c κs = let a = (Start c).args in one_asks a.b a.sites.now a.centers (left_of a.w.stage a.vertices.now a.indexes.now) _ refl
    c.out_spot-v.ensures (Start c).requires.1

returns : tie.Need-returns
returns c =
    let a = (Start (Fed-left c).before).args in
    record {
      stage = one_made a.b a.sites.now a.centers (left_of a.w.stage a.vertices.now a.indexes.now) _ refl (Fed-left c).out_spot-v.ensures
          (Fed-left c).feed_left.ensures;
      next = c.turn_from.ensures;
      last = refl;
    }

pub walk_on_spec : {M : Type 1} → statement M
walk_on_spec = tie.close (tie.spec (λ c κs. search rules) feed_left-requires (λ c κs. search rules) (λ c. search rules) (λ c. search rules) returns)
