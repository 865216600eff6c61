-- What the walk of a ring asks and leaves, step by step.
use Rattle.std.specs.Prelude.{◌≡◌, List, ◌++◌, map, ℕ, ◌*◌, ◌≤◌, ◌<◌, Float, length}
use Rattle.base.specs.numbers.Numbers.{EMPTY}
use Rattle.plane.specs.declared.boxes.BoundingBox.{BoundingBox}
use Rattle.mesh.specs.Mesh.{turn_of, whole_of}
use Rattle.cutting.specs.cuts.Stream.{feed_all}
use Rattle.cutting.specs.pen.Pen.{Page}
use Rattle.cutting.specs.pen.Room.{Ready}
use Rattle.cutting_writer.specs.stream.Stages.{Stages, left_of, feed_left}
use Rattle.cutting_writer.specs.declared.site.Walk.{Walk}
use Rattle.cutting_writer.specs.site.Ring.{out_at, ray_of, last_or}

-- the page at the end of the stream
abbrev pub page_of : Stages → Page
page_of t = t.next.next.next.next

-- one half-edge more
pub record OneMore (b : BoundingBox) (sites : List Float) (tri he : List ℕ) (centers t : ℕ) (w : Walk) (v : List Float) (ix : List ℕ) (r : Walk) (v₁ : List Float) (ix₁ : List ℕ) : Type 0 where
  pub stage : left_of r.stage v₁ ix₁ ≡ feed_left b sites centers (left_of w.stage v ix) (out_at tri v w.e)
  pub next : r.e ≡ turn_of he t w.e
  pub last : r.last ≡ w.e

-- a mesh whose circumcenters stand before all that is written, and room for the walk
pub record Walkable (b : BoundingBox) (sites : List Float) (tri he : List ℕ) (centers t : ℕ) (S : Stages) (v : List Float) : Type 0 where
  pub thirds : length he ≤ 3 * centers
  pub small : length he < EMPTY
  pub ready : Ready centers (page_of S) (page_of (feed_all (feed_left b sites centers) S (map (out_at tri v) (whole_of he t))))

pub record WalkedAll (b : BoundingBox) (sites : List Float) (tri he : List ℕ) (centers t : ℕ) (S : Stages) (v : List Float) (r : Walk) (v₁ : List Float) (ix₁ : List ℕ) : Type 0 where
  pub stage : left_of r.stage v₁ ix₁ ≡ feed_all (feed_left b sites centers) S (map (out_at tri v) (whole_of he t))
  pub last : r.last ≡ last_or t (whole_of he t)

-- before the ring, with room for all of it
pub record Begun (b : BoundingBox) (sites : List Float) (tri he : List ℕ) (centers t : ℕ) (g : Page) (S : Stages) : Type 0 where
  pub thirds : length he ≤ 3 * centers
  pub small : length he < EMPTY
  pub ready : Ready centers g (page_of (feed_all (feed_left b sites centers) S (ray_of sites tri he g.vertices t ++ map (out_at tri g.vertices) (whole_of he t))))
