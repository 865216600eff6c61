-- The promises of the calls on points and the box: the number by rules in their order, and each lent number at exit, 0 where a call refuses (a side: EMPTY).
-- A box is given by its size or by its edges (plane::given).
use Rattle.std.specs.Prelude.{◌≡◌, Bool, true, ◌&&◌, List, [], ◌∷◌, ◌++◌, ℕ, ◌-◌, ◌/◌, ◌≤◌, eqb, length, replicate, Float}
use Rattle.base.specs.common.Binary64.{zero}
use Rattle.base.specs.common.Pick.{pick}
use Rattle.base.specs.common.Refusals.{Rule, once, Finds}
use Rattle.base.specs.numbers.Numbers.{EMPTY, refused_count, refused_room, refused_box, refused_coordinate, refused_circumcenter}
use Rattle.plane.specs.points.Plane.{dist2_of}
use Rattle.plane.specs.points.Flat.{flat}
use Rattle.plane.specs.points.Rules.{ok_site}
use Rattle.plane.specs.points.Sites.{ok_sites}
use Rattle.plane.specs.declared.points.Point.{Point}
use Rattle.plane.specs.centers.Circumcenter.{center_of, ok_center}
use Rattle.plane.specs.centers.Centroid.{ok_count, mean_of}
use Rattle.plane.specs.boxes.Box.{width_of, height_of, corners_of}
use Rattle.plane.specs.sides.Sides.{inside_of, exclusive_of, which_of}
use Rattle.plane.specs.declared.boxes.BoundingBox.{BoundingBox}
use Rattle.plane.specs.declared.given.Given.{Given}
use Rattle.plane.specs.declared.lines.Crossing.{Crossing}
use Rattle.plane.specs.rays.Rules.{count_of, values_of}

-- yes or no as a number
unfoldable pub bit : Bool → ℕ
bit b = pick b (λ _. 1) (λ _. 0)

-- a call's number r, by its rules, and the lent numbers that it writes: `made` where r is 0, else as many blanks
pub record Answered {A : Type 0} (rules : List (Rule ℕ)) (blank : A) (made : List A) (r : ℕ) (out : List A) : Type 0 where
  pub number : Finds rules 0 r
  pub values : out ≡ pick (eqb r 0) (λ _. made) (λ _. replicate (length made) blank)

-- 3 for the box, then 6 for the points
abbrev pub plane_rules : Given → Bool → List (Rule ℕ)
plane_rules g points = once refused_box (g.sound ≡ true) ∷ once refused_coordinate (points ≡ true) ∷ []

-- ---- points
abbrev pub Dist2 : Point → Point → ℕ → Float → Type 0
Dist2 a b r d = Answered (once refused_coordinate ((ok_site a && ok_site b) ≡ true) ∷ []) zero (dist2_of a b ∷ []) r (d ∷ [])

abbrev pub Circumcenter : Point → Point → Point → ℕ → Float → Float → Type 0
Circumcenter a b c r x y =
    Answered (once refused_coordinate ((ok_site a && ok_site b && ok_site c) ≡ true) ∷ once refused_circumcenter (ok_center (center_of a b c) ≡ true) ∷ []) zero
    ((center_of a b c).x ∷ (center_of a b c).y ∷ []) r (x ∷ y ∷ [])

abbrev pub Centroid : List Float → ℕ → Float → Float → Type 0
Centroid l r x y =
    Answered (once refused_count (ok_count l ≡ true) ∷ once refused_coordinate (ok_sites (length l / 2) l ≡ true) ∷ []) zero
    ((mean_of l (length l / 2)).x ∷ (mean_of l (length l / 2)).y ∷ []) r (x ∷ y ∷ [])

-- ---- the box
-- its edges, and width and height recomputed from them
abbrev pub Edges : Given → ℕ → Float → Float → Float → Float → Float → Float → Type 0
Edges g r left top right bottom across down =
    Answered (once refused_box (g.sound ≡ true) ∷ []) zero
    (g.bounds.left ∷ g.bounds.top ∷ g.bounds.right ∷ g.bounds.bottom ∷ width_of g.bounds ∷ height_of g.bounds ∷ []) r (left ∷ top ∷ right ∷ bottom ∷ across ∷ down ∷ [])

-- its center, and the same two
abbrev pub Centered : Given → ℕ → Float → Float → Float → Float → Type 0
Centered g r x y across down =
    Answered (once refused_box (g.sound ≡ true) ∷ []) zero
    (g.bounds.center.x ∷ g.bounds.center.y ∷ width_of g.bounds ∷ height_of g.bounds ∷ []) r (x ∷ y ∷ across ∷ down ∷ [])

-- the corners, and zeros up to the slice's end: 2 for room, then 3
pub record Corners (g : Given) (before : List Float) (r : ℕ) (after : List Float) : Type 0 where
  pub number : Finds (once refused_room (8 ≤ length before) ∷ once refused_box (g.sound ≡ true) ∷ []) 0 r
  pub slice : after ≡ pick (eqb r 0) (λ _. flat (corners_of g.bounds) ++ replicate (length before - 8) zero) (λ _. before)

abbrev pub Inside : Given → Point → ℕ → ℕ → Type 0
Inside g p r answer = Answered (plane_rules g (ok_site p)) 0 (bit (inside_of g.bounds p) ∷ []) r (answer ∷ [])

abbrev pub ExclusivelyInside : Given → Point → ℕ → ℕ → Type 0
ExclusivelyInside g p r answer = Answered (plane_rules g (ok_site p)) 0 (bit (exclusive_of g.bounds p) ∷ []) r (answer ∷ [])

-- no side, 4 in the definition, is EMPTY
abbrev pub WhichEdge : Given → Point → ℕ → ℕ → Type 0
WhichEdge g p r side = Answered (plane_rules g (ok_site p)) EMPTY (pick (eqb (which_of g.bounds p) 4) (λ _. EMPTY) (λ _. which_of g.bounds p) ∷ []) r (side ∷ [])

-- what meets the box, `line_of` or `ray_of` of two points: how many points, and their coordinates, 0 where there is none
abbrev pub Meets : (BoundingBox → Point → Point → Crossing) → Given → Point → Point → ℕ → ℕ → Float → Float → Float → Float → Type 0
Meets crossing g p q r count x y u v =
    Answered (plane_rules g (ok_site p && ok_site q)) 0 (count_of (crossing g.bounds p q) ∷ []) r (count ∷ [])
    × Answered (plane_rules g (ok_site p && ok_site q)) zero (values_of (crossing g.bounds p q)) r (x ∷ y ∷ u ∷ v ∷ [])
