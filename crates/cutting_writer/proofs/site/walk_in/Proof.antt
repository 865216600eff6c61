-- `cutting_writer::site::walk_in`: the beginning, then the walk.
use Rattle.cutting.specs.cuts.Stream.{feed_all}
use Rattle.cutting.specs.pen.Room.{Ready}
use Rattle.cutting_writer.specs.site.Ring.{ray_of}
use Rattle.cutting_writer.specs.site.Walked.{page_of}
use Rattle.cutting_writer.specs.site.laws.Ringed.{begun_enter, begun_walk, begun_walked}
use Rattle.cutting_writer.specs.stream.Stages.{LeftStage, left_of, opened, feed_left}
use borrow.Author.Rules.{rules}
use mathlib.Core.Path.{sym, ap, subst, ◌∙◌}
use Rattle.cutting_writer.proofs.site.walk_in.Statement.{statement}
use Rattle.cutting_writer.proofs.site.walk_in.Tie as tie

abbrev Start : tie.After-open → tie.Start
Start c = c.before.before.before.before.before.before

abbrev Opened : tie.After-walk_whole-arg-2-1 → tie.After-open
Opened c = c.before.before.before.before.before.before.before.before.before

abbrev Entered : tie.After-slice_known-6-1 → tie.After-enter-s
Entered c = c.before.before.before.before.before.before.before.before.before.before.before

enter-requires : tie.Need-enter-s-requires
enter-requires c κs =
    let a = (Start c.before.before).args in
    subst (λ (s : LeftStage). Ready a.centers (page_of (left_of s a.vertices.now a.indexes.now)) (page_of (feed_all (feed_left a.b a.sites.now a.centers)
    (left_of s a.vertices.now a.indexes.now) (ray_of a.sites.now a.triangles.now a.halfedges.now a.vertices.now a.t))))
    (sym c.before.before.«open».ensures) (begun_enter a.b a.sites.now a.triangles.now a.halfedges.now a.centers a.t
    (left_of (opened a.pen) a.vertices.now a.indexes.now) (Start c.before.before).requires)

walk_whole-requires : tie.Need-walk_whole-requires
walk_whole-requires c κs =
    let a = (Start (Opened c)).args in
    begun_walk a.b a.sites.now a.triangles.now a.halfedges.now a.centers a.t (left_of (opened a.pen) a.vertices.now a.indexes.now)
    (Start (Opened c)).requires _ (c.enter-s.ensures ∙ ap (λ (s : LeftStage). feed_all (feed_left a.b a.sites.now a.centers)
    (left_of s a.vertices.now a.indexes.now) (ray_of a.sites.now a.triangles.now a.halfedges.now a.vertices.now a.t)) (Opened c).«open».ensures)

returns : tie.Need-returns
returns c =
    let a = (Start (Entered c).before.before.before).args in
    let w = c.walk_whole.ensures in (
      begun_walked a.b a.sites.now a.triangles.now a.halfedges.now a.centers a.t (left_of (opened a.pen) a.vertices.now a.indexes.now)
          (Start (Entered c).before.before.before).requires _ ((Entered c).enter-s.ensures ∙ ap (λ (s : LeftStage). feed_all (feed_left a.b a.sites.now a.centers)
          (left_of s a.vertices.now a.indexes.now) (ray_of a.sites.now a.triangles.now a.halfedges.now a.vertices.now a.t))
          (Entered c).before.before.before.«open».ensures) _ w.stage,
      w.last,
    )

pub walk_in_spec : {M : Type 1} → statement M
walk_in_spec = tie.close (tie.spec (λ c κs. search rules) enter-requires walk_whole-requires (λ c. search rules) (λ c. search rules) returns)
