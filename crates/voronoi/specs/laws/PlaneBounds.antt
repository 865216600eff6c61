-- What the calls on points and the box answer beside 0 is finite: each number is at most a power of 2. From the limits of docs/use/RULES.md, by the bounds of the crates below.
use Rattle.std.specs.Prelude.{◌≡◌, refl, Bool, true, ◌&&◌, List, [], ◌∷◌, ◌++◌, ◌≢◌, ℕ, zero, suc, ◌-◌, ◌*◌, ◌/◌, ◌<◌, eqb, leb, ltb, Float, length, get_or, replicate}
use Rattle.std.proofs.Common.{ap, arith, rules, lit≤, ltb-true, leb-true}
use Prim.{tt}
use Rattle.std.specs.Float.{nan}
use Rattle.std.specs.Float.Ieee.{of_bits}
use Rattle.std.proofs.lemmas.List.{get_or-replicate, length-replicate}
use Rattle.base.specs.common.Refusals.{once, Finds}
use Rattle.base.specs.common.laws.Refusals.{finds_keep}
use Rattle.base.specs.common.laws.And.{and_left, and_right}
use Rattle.base.specs.common.Binary64 as R
use Rattle.root.specs.Bounded.{Bounded}
use Rattle.plane.specs.points.Flat.{flat}
use Rattle.plane.specs.points.Rules.{ok_site}
use Rattle.plane.specs.points.Finite.{site_dist2}
use Rattle.plane.specs.declared.points.Point.{Point}
use Rattle.plane.specs.centers.Circumcenter.{center_of}
use Rattle.plane.specs.centers.Centroid.{ok_count}
use Rattle.plane.specs.centers.Finite.{center_bounded, mean_bounded}
use Rattle.plane.specs.boxes.Box.{corners_of}
use Rattle.plane.specs.boxes.Finite.{BoundedBox, width_bounded, height_bounded}
use Rattle.plane.specs.declared.boxes.BoundingBox.{BoundingBox}
use Rattle.plane.specs.given.Given.{by_edges}
use Rattle.plane.specs.given.Finite as given
use Rattle.plane.specs.given.Finite.{Fits, edges_bounded}
use Rattle.plane.specs.declared.given.Given.{Given}
use Rattle.plane.specs.rays.Ray.{ray_of}
use Rattle.plane.specs.rays.Rules.{values_of}
use Rattle.plane.specs.lines.Line.{line_of}
use Rattle.plane.specs.rays.Finite.{ray_bounded}
use Rattle.plane.specs.lines.Finite.{BoundedCrossing, line_bounded}
use Rattle.plane.specs.declared.lines.Crossing.{Crossing}
use Rattle.plane.specs.declared.lines.Crossing.TheVariants.{None, One, Two}
use Rattle.voronoi.specs.Bounds.{BoundedEdges, BoundedCenter, BoundedMeeting}
use Rattle.voronoi.specs.Plane.{Dist2, Circumcenter, Centroid, Edges, Centered, Corners, Meets}

zero_bounded : (k : ℕ) → Bounded k R.zero
unfolding of_bits
zero_bounded k = omega arith

-- 0 beside one test or two: they hold
one_kept : {n : ℕ} {t : Bool} → n ≢ 0 → Finds (once n (t ≡ true) ∷ []) 0 0 → t ≡ true
one_kept k x = (finds_keep (λ r. r ≡ 0) (λ _. k, tt) refl x).0

two_kept : {n m : ℕ} {t u : Bool} → n ≢ 0 → m ≢ 0 → Finds (once n (t ≡ true) ∷ once m (u ≡ true) ∷ []) 0 0 → (t ≡ true) × (u ≡ true)
two_kept k l x = let y = finds_keep (λ r. r ≡ 0) (λ _. k, (λ _. l, tt)) refl x in (y.0, y.1.0)

nth : (i : ℕ) {l k : List Float} → l ≡ k → get_or l i nan ≡ get_or k i nan
nth i = ap (λ l. get_or l i nan)

one : ◌≢◌ {A = ℕ} 1 0
one q = omega arith

three : ◌≢◌ {A = ℕ} 3 0
three q = omega arith

six : ◌≢◌ {A = ℕ} 6 0
six q = omega arith

pub dist2_answer : (a b : Point) {d : Float} → Dist2 a b 0 d → Bounded 203 d
dist2_answer a b p =
    let h = one_kept six p.number in
    rw (nth 0 p.values) (site_dist2 a b (and_left (ok_site a) (ok_site b) h) (and_right (ok_site a) (ok_site b) h))

-- ---- a point
pub circumcenter_answer : (a b c : Point) {x y : Float} → Circumcenter a b c 0 x y → Bounded 400 x × Bounded 400 y
circumcenter_answer a b c r =
    let p = center_bounded (center_of a b c) (two_kept six (λ q. omega arith) r.number).1 in
    (rw (nth 0 r.values) p.x, rw (nth 1 r.values) p.y)

pub centroid_answer_lem : (l : List Float) {x y : Float} → Centroid l 0 x y → Bounded 100 x × Bounded 100 y
unfolding ok_count
centroid_answer_lem l r =
    let n = length l / 2 in
    let k = two_kept one six r.number in
    let b = and_right (eqb (length l) (2 * n)) (ltb 0 n && leb n 65536) k.0 in
    let p = mean_bounded l n (ltb-true 0 n (and_left (ltb 0 n) (leb n 65536) b)) (leb-true n 65536 (and_right (ltb 0 n) (leb n 65536) b)) k.1 in
    (rw (nth 0 r.values) p.x, rw (nth 1 r.values) p.y)

-- ---- the box
pub box_answer : (g : Given) → Fits g → {l t r b a d : Float} → Edges g 0 l t r b a d → BoundedEdges l t r b a d
box_answer g fits e =
    let s = fits.bounded (one_kept three e.number) in
    record {
      left_edge = rw (nth 0 e.values) s.left;
      top_edge = rw (nth 1 e.values) s.top;
      right_edge = rw (nth 2 e.values) s.right;
      bottom_edge = rw (nth 3 e.values) s.bottom;
      width = rw (nth 4 e.values) (width_bounded s (lit≤ tt));
      height = rw (nth 5 e.values) (height_bounded s (lit≤ tt));
    }

pub center_answer_lem : (l t r b : Float) {x y a d : Float} → Centered (by_edges l t r b) 0 x y a d → BoundedCenter x y a d
center_answer_lem l t r b e =
    let ok = one_kept three e.number in
    let s = edges_bounded l t r b ok in
    let c = given.center_bounded l t r b ok in
    record {
      center_x = rw (nth 0 e.values) c.x;
      center_y = rw (nth 1 e.values) c.y;
      width = rw (nth 2 e.values) (width_bounded s (lit≤ tt));
      height = rw (nth 3 e.values) (height_bounded s (lit≤ tt));
    }

tail_bounded : (m i : ℕ) → i < length (replicate m R.zero) → Bounded 101 (get_or (replicate m R.zero) i nan)
tail_bounded m i l = rw (get_or-replicate m i R.zero nan (omega (arith, length-replicate m R.zero))) (zero_bounded 101)

corner_numbers : (b : BoundingBox) → BoundedBox 101 b → (m i : ℕ) → i < length (flat (corners_of b) ++ replicate m R.zero)
    → Bounded 101 (get_or (flat (corners_of b) ++ replicate m R.zero) i nan)
unfolding corners_of flat
corner_numbers b s m zero l = s.left
corner_numbers b s m (suc zero) l = s.top
corner_numbers b s m (suc (suc zero)) l = s.left
corner_numbers b s m (suc (suc (suc zero))) l = s.bottom
corner_numbers b s m (suc (suc (suc (suc zero)))) l = s.right
corner_numbers b s m (suc (suc (suc (suc (suc zero))))) l = s.bottom
corner_numbers b s m (suc (suc (suc (suc (suc (suc zero)))))) l = s.right
corner_numbers b s m (suc (suc (suc (suc (suc (suc (suc zero))))))) l = s.top
corner_numbers b s m (suc (suc (suc (suc (suc (suc (suc (suc i)))))))) l = tail_bounded m i (omega arith)

pub corners_answer : {g : Given} → Fits g → {before after : List Float} → Corners g before 0 after → (i : ℕ) → i < length after → Bounded 101 (get_or after i nan)
corners_answer {g} fits {before} r i l =
    let k = finds_keep (λ n. n ≡ 0) (search rules) refl r.number in
    rw r.slice (corner_numbers g.bounds (fits.bounded k.1.0) (length before - 8) i (rw r.slice at l))

-- ---- crossings
values_bounded : (c : Crossing) → BoundedCrossing 101 c → BoundedMeeting (get_or (values_of c) 0 nan) (get_or (values_of c) 1 nan) (get_or (values_of c) 2 nan) (get_or (values_of c) 3 nan)
values_bounded None h = record { first_x = zero_bounded 101; first_y = zero_bounded 101; second_x = zero_bounded 101; second_y = zero_bounded 101 }
values_bounded (One x y) h = record { first_x = h.0; first_y = h.1; second_x = zero_bounded 101; second_y = zero_bounded 101 }
values_bounded (Two x y u v) h = record { first_x = h.0.0; first_y = h.0.1; second_x = h.1.0; second_y = h.1.1 }

meeting : (crossing : BoundingBox → Point → Point → Crossing) (g : Given) (p q : Point) {k : ℕ} {x y u v : Float} → Meets crossing g p q 0 k x y u v
    → (g.sound ≡ true → BoundedCrossing 101 (crossing g.bounds p q)) → BoundedMeeting x y u v
meeting crossing g p q m h =
    let b = values_bounded (crossing g.bounds p q) (h (two_kept three six m.0.number).0) in
    let e = m.1.values in
    record { first_x = rw (nth 0 e) b.first_x; first_y = rw (nth 1 e) b.first_y; second_x = rw (nth 2 e) b.second_x; second_y = rw (nth 3 e) b.second_y }

pub line_answer_lem : (g : Given) → Fits g → (p q : Point) {k : ℕ} {x y u v : Float} → Meets line_of g p q 0 k x y u v → BoundedMeeting x y u v
line_answer_lem g fits p q m = meeting line_of g p q m (λ e. line_bounded (fits.bounded e) p q)

pub ray_answer_lem : (g : Given) → Fits g → (p dir : Point) {k : ℕ} {x y u v : Float} → Meets ray_of g p dir 0 k x y u v → BoundedMeeting x y u v
ray_answer_lem g fits p dir m = meeting ray_of g p dir m (λ e. ray_bounded (fits.bounded e) p dir)
