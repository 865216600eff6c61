-- The pieces of all sites: each ring cut by the four sides, written and closed, one after the other, and what the slices hold then. Definitions only.
use Rattle.std.specs.Prelude.{◌≡◌, None, List, [], ◌∷◌, ℕ, suc, ◌+◌, ◌*◌, ◌/◌, ◌≤◌, ◌<◌, Float, length, set}
use Rattle.base.specs.common.Binary64.{zero}
use Rattle.base.specs.numbers.Numbers.{EMPTY}
use Rattle.plane.specs.points.Plane.{at}
use Rattle.plane.specs.declared.points.Point.{Point}
use Rattle.plane.specs.declared.boxes.BoundingBox.{BoundingBox}
use Rattle.cell_memory.specs.layout.Cleared.{cleared_from}
use Rattle.cutting.specs.cuts.Stream.{feed_all}
use Rattle.cutting.specs.declared.pen.Pen.{Pen}
use Rattle.cutting.specs.pen.Pen.{Page, page}
use Rattle.cutting.specs.pen.Room.{Roomy}
use Rattle.cutting_writer.specs.stream.Stages.{ink_at, cut_four}
use Rattle.cutting_writer.specs.end.Ended.{ended}
use Rattle.cutting_writer.specs.site.Ring.{site_ring}

-- ---- one site: its ring, cut and written from where the pen is, then closed. The vertices begin with the circumcenters, `centers` of them
unfoldable pub site_ink : BoundingBox → List Float → List ℕ → List ℕ → ℕ → Page → ℕ → Page
site_ink b sites tri he centers g t = feed_all (ink_at b centers) g (cut_four b sites (site_ring sites tri he g.vertices t))

unfoldable pub site_cut : BoundingBox → List Float → List ℕ → List ℕ → ℕ → Page → ℕ → Page
site_cut b sites tri he centers g t = ended g.pen.at (site_ink b sites tri he centers g t)

-- ---- all sites, from site s on: `table` has the half-edge where each walk begins; at its site each piece's beginning, and after the last the end of all
pub record Sheet : Type 0 where
  pub page : Page
  pub offsets : List ℕ

unfoldable pub sheet_from : BoundingBox → List Float → List ℕ → List ℕ → ℕ → ℕ → List ℕ → Sheet → Sheet
sheet_from b sites tri he centers s [] sh = record { page = sh.page; offsets = set sh.offsets s sh.page.pen.at }
sheet_from b sites tri he centers s (t ∷ table) sh =
    sheet_from b sites tri he centers (suc s) table
    (record { page = site_cut b sites tri he centers sh.page t; offsets = set sh.offsets s sh.page.pen.at })

-- ---- the beginning: the box's corners after the circumcenters
abbrev pub put_at : ℕ → Point → List Float → List Float
put_at i p v = set (set v (2 * i) p.x) (2 * i + 1) p.y

unfoldable pub cornered : BoundingBox → ℕ → List Float → List Float
cornered b centers v =
    put_at (centers + 3) (at b.right b.top) (put_at (centers + 2) (at b.right b.bottom) (put_at (centers + 1) (at b.left b.bottom) (put_at centers (at b.left b.top) v)))

abbrev pub start_pen : ℕ → Pen
start_pen centers = record { at = 0; count = centers + 4; ends = None }

abbrev pub start_sheet : BoundingBox → ℕ → List Float → List ℕ → List ℕ → Sheet
start_sheet b centers v ix off = record { page = page (start_pen centers) (cornered b centers v) ix; offsets = off }

-- ---- all of it, and what is left over cleared
unfoldable pub cut_sheet : BoundingBox → List Float → List ℕ → List ℕ → List ℕ → List Float → List ℕ → List ℕ → Sheet
cut_sheet b sites tri he table v ix off = sheet_from b sites tri he (length tri / 3) 0 table (start_sheet b (length tri / 3) v ix off)

pub record CutInto (n : ℕ) (sh : Sheet) (r : ℕ) (v₁ : List Float) (ix₁ off₁ : List ℕ) : Type 0 where
  pub count : r ≡ sh.page.pen.count
  pub small : r ≤ EMPTY
  pub vertices : v₁ ≡ cleared_from (2 * sh.page.pen.count) zero sh.page.vertices
  pub indexes : ix₁ ≡ cleared_from sh.page.pen.at EMPTY sh.page.indexes
  pub offsets : off₁ ≡ cleared_from (n + 1) EMPTY sh.offsets

-- ---- room: for each ring whole, before it is closed
unfoldable pub RoomyFrom : BoundingBox → List Float → List ℕ → List ℕ → ℕ → Page → List ℕ → Type 0
RoomyFrom b sites tri he centers g [] = Roomy g × (g.pen.at ≤ EMPTY)
RoomyFrom b sites tri he centers g (t ∷ table) =
    Roomy (site_ink b sites tri he centers g t) × (g.pen.at ≤ EMPTY) × RoomyFrom b sites tri he centers (site_cut b sites tri he centers g t) table

-- what cutting all sites asks: as many half-edges as circumcenters have, offsets for all, and room
pub record Cuttable (b : BoundingBox) (sites : List Float) (tri he table : List ℕ) (v : List Float) (ix off : List ℕ) : Type 0 where
  pub thirds : length he ≤ 3 * (length tri / 3)
  pub small : length he < EMPTY
  pub few : length table < EMPTY
  pub corners : 2 * (length tri / 3 + 4) ≤ length v
  pub one_more : length table < length off
  pub room : RoomyFrom b sites tri he (length tri / 3) (start_sheet b (length tri / 3) v ix off).page table
