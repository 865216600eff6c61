-- Where clipping an edge is refused, what is wrong with the edge; and vertices are only added by it, refused or not.
use Rattle.std.specs.Prelude.{◌≡◌, refl, Bool, List, ℕ, ◌≤◌, Float, length}
use Rattle.std.proofs.Math.Path.{sym}
use Rattle.std.proofs.Math.Bool.{true, false}
use Rattle.std.proofs.Common.{arith}
use Rattle.base.specs.numbers.Numbers.{refused_no_crossing, refused_one_crossing}
use Rattle.plane.specs.declared.points.Point.{Point}
use Rattle.plane.specs.declared.boxes.BoundingBox.{BoundingBox}
use Rattle.plane.specs.declared.lines.Crossing.{Crossing}
use Rattle.plane.specs.declared.lines.Crossing.TheVariants.{None, One, Two}
use Rattle.vertices.specs.Add.{Added}
use Rattle.definition.specs.Fault.{refused}
use Rattle.definition.specs.Cell.{vertex_at, edge_crossing, EdgeClip, missed, once, twice, clip_with, clip_edge, Change, leave, enter_at, enter, cross_at, cross, clip_step, in_box}
use Rattle.definition.specs.laws.Gives.{Gives}
use Rattle.build_laws.specs.Met.{EdgeBreaks, leaves_unmet, enters_unmet, crosses_once}
use Rattle.build_laws.specs.laws.Grown.{Grown, grown_none, grown_then, ClippedTo, clip_edge_lem}
use Rattle.build_laws.specs.laws.Runs.{refused_same, not_both}

-- ---- vertices are added

abbrev Grows : List Point → Change → Type 0
Grows vs d = (m : ℕ) × Grown vs m d.verts

module _ (b : BoundingBox) (nc site : ℕ) where
  leave_grows : (p : ℕ) (vs : List Point) (os : List ℕ) (k : EdgeClip) → ClippedTo nc vs k → Gives (Grows vs) (leave p os k)
  unfolding leave
  leave_grows p vs os missed c = tt
  leave_grows p vs os (once r) c = (_, c.grown)
  leave_grows p vs os (twice r t) c = (_, grown_then c.0.grown c.1.grown)

  enter_grows : (vs : List Point) (os : List ℕ) (last : ℕ) (k : EdgeClip) → ClippedTo nc vs k → Gives (Grows vs) (enter b nc site os last k)
  unfolding enter enter_at
  enter_grows vs os last missed c = tt
  enter_grows vs os last (once r) c = (_, c.grown)
  enter_grows vs os last (twice r t) c = (_, grown_then c.0.grown c.1.grown)

  cross_grows : (vs : List Point) (os : List ℕ) (opened : Bool) (last : ℕ) (k : EdgeClip) → ClippedTo nc vs k → Gives (Grows vs) (cross b nc site vs os opened last k)
  unfolding cross cross_at
  cross_grows vs os opened last missed c = (0, grown_none vs)
  cross_grows vs os opened last (once r) c = tt
  cross_grows vs os opened last (twice r t) c = (_, grown_then c.0.grown c.1.grown)

  pub step_grows : (p : ℕ) (p_in : Bool) (q : ℕ) (qIn : Bool) (vs : List Point) (os : List ℕ) (opened : Bool) (last : ℕ) → nc ≤ length vs
      → Gives (λ (d : Change). (m : ℕ) × Grown vs m d.verts) (clip_step b nc site p p_in q qIn vs os opened last)
  unfolding clip_step
  step_grows p true q true vs os opened last h = (0, grown_none vs)
  step_grows p true q false vs os opened last h = leave_grows p vs os _ (clip_edge_lem b nc vs p q h)
  step_grows p false q true vs os opened last h = enter_grows vs os last _ (clip_edge_lem b nc vs q p h)
  step_grows p false q false vs os opened last h = cross_grows vs os opened last _ (clip_edge_lem b nc vs p q h)

-- ---- refusals

module _ (b : BoundingBox) (nc site : ℕ) where
  enter_refused : (os : List ℕ) (last : ℕ) (k : EdgeClip) {n : ℕ} → enter b nc site os last k ≡ refused n → (k ≡ missed) × (n ≡ refused_no_crossing)
  unfolding enter
  enter_refused os last missed h = (refl, sym (refused_same h))
  enter_refused os last (once r) h = absurd (not_both h)
  enter_refused os last (twice r t) h = absurd (not_both h)

  cross_refused : (vs : List Point) (os : List ℕ) (opened : Bool) (last : ℕ) (k : EdgeClip) {n : ℕ} → cross b nc site vs os opened last k ≡ refused n
      → (n ≡ refused_one_crossing) × ((x : Added) × (k ≡ once x))
  unfolding cross
  cross_refused vs os opened last missed h = absurd (not_both h)
  cross_refused vs os opened last (once r) h = (sym (refused_same h), (r, refl))
  cross_refused vs os opened last (twice r t) h = absurd (not_both h)

  leave_refused : (p : ℕ) (os : List ℕ) (k : EdgeClip) {n : ℕ} → leave p os k ≡ refused n → (k ≡ missed) × (n ≡ refused_no_crossing)
  unfolding leave
  leave_refused p os missed h = (refl, sym (refused_same h))
  leave_refused p os (once r) h = absurd (not_both h)
  leave_refused p os (twice r t) h = absurd (not_both h)

-- no clipped vertex means no crossing, one means one
clip_missed : (nc : ℕ) (vs : List Point) (x : Crossing) → clip_with nc vs x ≡ missed → x ≡ None
unfolding clip_with
clip_missed nc vs None h = refl
clip_missed nc vs (One x y) h = let z : ◌≡◌ {A = ℕ} 0 1 = cc in absurd (omega arith)
clip_missed nc vs (Two x y u v) h = let z : ◌≡◌ {A = ℕ} 0 1 = cc in absurd (omega arith)

clip_once : (nc : ℕ) (vs : List Point) (c : Crossing) (r : Added) → clip_with nc vs c ≡ once r → (x : Float) × (y : Float) × (c ≡ One x y)
unfolding clip_with
clip_once nc vs None r h = let z : ◌≡◌ {A = ℕ} 0 1 = cc in absurd (omega arith)
clip_once nc vs (One x y) r h = (x, y, refl)
clip_once nc vs (Two x y u v) r h = let z : ◌≡◌ {A = ℕ} 0 1 = cc in absurd (omega arith)

edge_missed : (b : BoundingBox) (nc : ℕ) (vs : List Point) (p q : ℕ) → clip_edge b nc vs p q ≡ missed → edge_crossing b (vertex_at vs p) (vertex_at vs q) ≡ None
unfolding clip_edge
edge_missed b nc vs p q h = clip_missed nc vs _ h

edge_once : (b : BoundingBox) (nc : ℕ) (vs : List Point) (p q : ℕ) (r : Added) → clip_edge b nc vs p q ≡ once r
    → (x : Float) × (y : Float) × (edge_crossing b (vertex_at vs p) (vertex_at vs q) ≡ One x y)
unfolding clip_edge
edge_once b nc vs p q r h = clip_once nc vs _ r h

pub step_breaks : (b : BoundingBox) (nc site p : ℕ) (p_in : Bool) (q : ℕ) (qIn : Bool) (vs : List Point) (os : List ℕ) (opened : Bool) (last : ℕ) {n : ℕ}
    → in_box b nc vs p ≡ p_in → in_box b nc vs q ≡ qIn → clip_step b nc site p p_in q qIn vs os opened last ≡ refused n → EdgeBreaks b nc vs p q n
unfolding clip_step
step_breaks b nc site p true q true vs os opened last e g h = absurd (not_both h)
step_breaks b nc site p true q false vs os opened last e g h =
    let w = leave_refused b nc site p os (clip_edge b nc vs p q) h in
    leaves_unmet w.1 e g (edge_missed b nc vs p q w.0)
step_breaks b nc site p false q true vs os opened last e g h =
    let w = enter_refused b nc site os last (clip_edge b nc vs q p) h in
    enters_unmet w.1 e g (edge_missed b nc vs q p w.0)
step_breaks b nc site p false q false vs os opened last e g h =
    let w = cross_refused b nc site vs os opened last (clip_edge b nc vs p q) h in
    let x = edge_once b nc vs p q w.1.0 w.1.1 in
    crosses_once w.0 e g x.0 x.1 x.2
