-- A ring that lies wholly in the box and has no place twice in a row: what the pen makes of it in one go. Definitions only.
use Rattle.std.specs.Prelude.{◌≡◌, true, false, Some, None, List, ℕ, zero, suc, ◌+◌, ◌-◌, ◌*◌, ◌/◌, ◌%◌, ◌≤◌, ◌<◌, Float, length, get_or, set}
use Rattle.base.specs.numbers.Numbers.{EMPTY}
use Rattle.plane.specs.points.Flat.{point_at}
use Rattle.plane.specs.sides.Sides.{inside_of}
use Rattle.plane.specs.declared.points.Point.{Point}
use Rattle.plane.specs.declared.boxes.BoundingBox.{BoundingBox}
use Rattle.mesh.specs.Mesh.{around, whole_of}
use Rattle.cutting.specs.cuts.Stream.{feed_all}
use Rattle.cutting.specs.rings.Names.{on_hull}
use Rattle.cutting.specs.declared.pen.Pen.{Pen}
use Rattle.cutting.specs.pen.Pen.{same_place, Page, page}
use Rattle.cutting_writer.specs.end.Ended.{ended}
use Rattle.cutting_writer.specs.ring.Inside.{RingInside, out_on}

-- the first n entries of the stage, one by one, from place `at` on
unfoldable pub laid_to : List ℕ → ℕ → ℕ → List ℕ → List ℕ
laid_to stage at zero ix = ix
laid_to stage at (suc i) ix = set (laid_to stage at i ix) (at + i) (get_or stage i 0)

-- the pen after n places, the first of them and the last
abbrev pub pen_in : Pen → ℕ → Point → Point → Pen
pen_in pen n first last = record { at = pen.at + n; count = pen.count; ends = Some (record { first = first; last = last }) }

-- what a step asks: whole triangles, each with a circumcenter
pub record Steppable (he : List ℕ) (centers : List Float) : Type 0 where
  pub small : length he < EMPTY
  pub thirds : length he % 3 ≡ 0
  pub room : 2 * (length he / 3) ≤ length centers

module _ (b : BoundingBox) (he : List ℕ) (centers : List Float) (t : ℕ) where
  -- half-edge a of the walk from t, and its place
  pub record LapCorner (a : ℕ) (p : Point) : Type 0 where
    pub other : a ≡ t → ⊥
    pub there : a < length he
    pub here : p ≡ point_at centers (a / 3)
    pub inside : inside_of b p ≡ true

-- the step from e leads to f, and to another place
pub record JoinedTo (he : List ℕ) (e : ℕ) (p : Point) (f : ℕ) (q : Point) : Type 0 where
  pub step : f ≡ around he e
  pub apart : same_place p q ≡ false

module _ (b : BoundingBox) (he : List ℕ) (centers : List Float) (t : ℕ) where
  -- on from e to a, and back from f to g
  pub record BothStepped (e : ℕ) (last : Point) (f : ℕ) (next : Point) (a : ℕ) (p : Point) (g : ℕ) (q : Point) : Type 0 where
    pub on : LapCorner b he centers t a p
    pub from : JoinedTo he e last a p
    pub back : LapCorner b he centers t g q
    pub to : JoinedTo he g q f next

  -- one triangle between two ends, its entry in the stage
  pub record OneBetween (i e : ℕ) (last : Point) (f : ℕ) (next : Point) (old new : List ℕ) : Type 0 where
    pub a : ℕ
    pub p : Point
    pub laid : new ≡ set old i (a / 3)
    pub on : LapCorner b he centers t a p
    pub from : JoinedTo he e last a p
    pub to : JoinedTo he a p f next

  -- two ends that meet, with none between them or one
  pub record EndsMeet (i j e : ℕ) (last : Point) (f : ℕ) (next : Point) (old new : List ℕ) : Type 0 where
    pub none : i ≡ j → (new ≡ old) × JoinedTo he e last f next
    pub one : (i ≡ j → ⊥) → OneBetween i e last f next old new

-- the walk from t lies inside, and of its n circumcenters the pen takes the numbers in the stage as they are
pub record Lapped (b : BoundingBox) (he : List ℕ) (centers : List Float) (t n : ℕ) (stage : List ℕ) (first last : Point) : Type 0 where
  pub inside : RingInside b he centers t
  pub apart : same_place first last ≡ false
  pub many : 3 ≤ n
  pub inked : (pen : Pen) (ix : List ℕ) → pen.ends ≡ None
      → page (pen_in pen n first last) centers (laid_to stage pen.at n ix) ≡ feed_all out_on (page pen centers ix) (whole_of he t)

module _ (b : BoundingBox) (he : List ℕ) (centers : List Float) (t n : ℕ) (first : Point) (stage : List ℕ) where
  -- what a walk of n from t asks, whose first place is `first`
  pub record Begun : Type 0 where
    pub steps : Steppable he centers
    pub many : 3 ≤ n
    pub few : n ≤ length he
    pub room : n ≤ length stage
    pub there : t < length he
    pub begins : on_hull he t ≡ false
    pub here : first ≡ point_at centers (t / 3)
    pub inside : inside_of b first ≡ true

  -- it lies in the stage and is a lap, where its last place is not its first
  pub record LapLaid : Type 0 where
    pub end : get_or stage (n - 1) 0 < length he / 3
    pub lap : (last : Point) → last ≡ point_at centers (get_or stage (n - 1) 0) → same_place first last ≡ false → Lapped b he centers t n stage first last

-- the same with some first place and some last
pub record Laps (b : BoundingBox) (he : List ℕ) (centers : List Float) (t n : ℕ) (stage : List ℕ) : Type 0 where
  pub first : Point
  pub last : Point
  pub lap : Lapped b he centers t n stage first last

-- page h is page g with the piece of the walk from t
pub record CopiedInto (b : BoundingBox) (he : List ℕ) (t : ℕ) (g h : Page) : Type 0 where
  pub inside : RingInside b he g.vertices t
  pub made : h ≡ ended g.pen.at (feed_all out_on g (whole_of he t))
