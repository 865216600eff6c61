-- An edge along the box ends on a side, and so does every cell that is left open: a crossing lies on a side (laws/Sides), a corner does, and an open cell ends in one of these.
use Rattle.std.specs.Prelude.{◌≡◌, Bool, List, eqb, get_or}
use Rattle.std.proofs.Math.Path.{refl}
use Rattle.std.proofs.Common.{sym, subst, arith}
use Rattle.std.proofs.Math.Bool.{true, false}
use Prim.{tt}
use Prim.Native.Nat.{ℕ, zero, suc, ◌+◌, ◌%◌, ◌≤◌, ◌<◌}
use Rattle.std.proofs.Math.ListN.{length}
use Rattle.base.specs.numbers.Numbers.{EMPTY}
use Rattle.plane.specs.points.Plane.{at}
use Rattle.plane.specs.declared.points.Point.{Point}
use Rattle.plane.specs.sides.Sides.{which_of}
use Rattle.plane.specs.boxes.Finite.{BoundedBox}
use Rattle.plane.specs.declared.boxes.BoundingBox.{BoundingBox}
use Rattle.plane.specs.lines.OnBox.{OnBox}
use Rattle.plane.specs.declared.lines.Crossing.{Crossing}
use Rattle.plane.specs.declared.lines.Crossing.TheVariants.{None, One, Two}
use Rattle.plane.specs.rays.OnBox.{ray_own}
use Rattle.plane.specs.rays.Ray.{ray_of, order_of}
use Rattle.vertices.specs.Add.{Added, add_vertex}
use Rattle.definition.specs.Cell.{crossing, entry, last_or, Ins, goes, wraps, with_corners, led, vertex_at, insert_edge, first_is, on_edge, edge_crossing}
use Rattle.definition.specs.Cell.{EdgeClip, missed, once, twice, clip_with, clip_edge, Change, leave, enter_at, enter, cross_at, cross, clip_step}
use Rattle.definition.specs.Short.{link}
use Rattle.definition.specs.Sides.{Sided, SidedCorners}
use Rattle.definition.specs.laws.Gives.{Gives, picked}
use Rattle.definition.specs.laws.LastEntry.{last_snoc, last_append}
use Rattle.build_laws.specs.laws.Grown.{AddedTo, add_vertex_lem, ClippedTo, clip_edge_lem}
use Rattle.build_laws.specs.laws.Runs.{true_false}
use Rattle.build_laws.specs.laws.Sides.{add_sided, sided_kept, corners_kept}

module _ (P : ℕ → Type 0) (nc site : ℕ) (corner : (c : ℕ) → c < 4 → P (nc + c)) where
  wraps_last : (k stop c : ℕ) (os : List ℕ) (l : ℕ) → c < 4 → P l → P (last_or l (wraps k nc site stop c os).new)
  unfolding wraps
  wraps_last zero stop c os l q p = p
  wraps_last (suc k) stop c os l q p =
      picked (λ (i : Ins). P (last_or l i.new)) (goes site stop c os) _ _
      (λ t. wraps_last k stop ((c + 1) % 4) _ (nc + c) (omega arith) (corner c q))
      (λ t. p)

  corners_last : (f s second : ℕ) (os : List ℕ) (l : ℕ) → s < 4 → P second → P (last_or l (with_corners nc site f s second os).new)
  unfolding with_corners
  corners_last f s second os l q p =
      picked (λ (i : Ins). P (last_or l i.new)) (eqb (get_or os f EMPTY) site) _ _
      (λ t. rw (last_snoc l (wraps 4 nc site s f os).new (entry crossing second)) p)
      (λ t. picked (λ (i : Ins). P (last_or l i.new)) (eqb (get_or os s EMPTY) site) _ _
      (λ u. wraps_last 4 f s os second q p)
      (λ u. p))

module _ (b : BoundingBox) (nc site : ℕ) where
  -- an edge along the box, from wherever it comes to a vertex on a side
  pub insert_ends : (vs : List Point) (os : List ℕ) (last first second : ℕ) → SidedCorners b nc vs → Sided b vs second
      → Sided b vs (last_or last (insert_edge b nc site vs os last first second).new)
  unfolding insert_edge
  insert_ends vs os last first second k s = by (eqb last first)
    where
      by : (t : Bool) → Sided b vs (last_or last (led t first (with_corners nc site (which_of b (vertex_at vs first)) (which_of b (vertex_at vs second)) second os)).new)
      by true = corners_last (Sided b vs) nc site k.corner _ _ second os last s s
      by false = corners_last (Sided b vs) nc site k.corner _ _ second os first s s

  -- ---- crossings

  -- the clipped vertices of an edge are on sides
  abbrev pub ClipSided : EdgeClip → Type 0
  ClipSided missed = Unit {0}
  ClipSided (once r) = Sided b r.verts r.at
  ClipSided (twice r t) = Sided b t.verts r.at × Sided b t.verts t.at

  on_edge_lem : (p q d : Point) (c : Crossing) → OnBox b c → OnBox b (on_edge p q d c)
  on_edge_lem p q d None h = tt
  on_edge_lem p q d (One x y) h = h
  on_edge_lem p q d (Two x y u v) h = picked (OnBox b) (first_is (order_of p d (Two q.x q.y x y)) x y) _ _ (λ t. h) (λ t. tt)

  with_sided : BoundedBox 101 b → (vs : List Point) (x : Crossing) → nc ≤ length vs → OnBox b x → ClipSided (clip_with nc vs x)
  unfolding clip_with
  with_sided box vs None h o = tt
  with_sided box vs (One x y) h o = add_sided b box nc vs x y h o
  with_sided box vs (Two x y u v) h o =
      let r = add_vertex_lem nc vs (at x y) h in
      let m : nc ≤ length (add_vertex nc vs (at x y)).verts = omega (arith, r.grown.longer) in
      let t = add_vertex_lem nc (add_vertex nc vs (at x y)).verts (at u v) m in
      (subst (λ (z : Point). which_of b z < 4) (sym (t.grown.kept _ r.below)) (add_sided b box nc vs x y h o.0), add_sided b box nc (add_vertex nc vs (at x y)).verts u v m o.1)

  pub clip_sided : BoundedBox 101 b → (vs : List Point) (p q : ℕ) → nc ≤ length vs → ClipSided (clip_edge b nc vs p q)
  unfolding clip_edge edge_crossing
  clip_sided box vs p q h = with_sided box vs _ h (on_edge_lem _ _ _ (ray_of b _ _) (ray_own b _ _))

  -- ---- what an edge finds after its crossings are added: corners and last entry are where they were

  module _ (vs : List Point) (room : nc + 4 ≤ length vs) (k : SidedCorners b nc vs) (last : ℕ) where
    abbrev pub StillSided : List Point → Type 0
    StillSided ws = SidedCorners b nc ws × (last < length vs → Sided b vs last → Sided b ws last)

    pub after_one : (r : Added) → AddedTo nc vs r → StillSided r.verts
    after_one r g = (corners_kept b nc vs r.verts _ g.grown room k, λ l h. sided_kept b vs r.verts _ last g.grown l h)

    pub after_two : (r t : Added) → AddedTo nc vs r → AddedTo nc r.verts t → StillSided t.verts
    after_two r t g f =
        let o = after_one r g in
        let m : nc + 4 ≤ length r.verts = omega (arith, g.grown.longer) in
        (corners_kept b nc r.verts t.verts _ f.grown m o.0, λ l h. sided_kept b r.verts t.verts _ last f.grown (omega (arith, g.grown.longer)) (o.1 l h))

  -- ---- one edge

  -- an open cell ends on a side
  abbrev pub EndsOnSide : ℕ → Change → Type 0
  EndsOnSide last d = d.opened ≡ true → Sided b d.verts (last_or last d.new)

  leave_ends : (p : ℕ) (os : List ℕ) (last : ℕ) (k : EdgeClip) → ClipSided k → Gives (EndsOnSide last) (leave p os k)
  unfolding leave
  leave_ends p os last missed h = tt
  leave_ends p os last (once r) h = λ e. h
  leave_ends p os last (twice r t) h = λ e. h.0

  enter_ends : (os : List ℕ) (last : ℕ) (c : EdgeClip) → Gives (EndsOnSide last) (enter b nc site os last c)
  unfolding enter enter_at
  enter_ends os last missed = tt
  enter_ends os last (once r) = λ e. absurd (true_false e refl)
  enter_ends os last (twice r t) = λ e. absurd (true_false e refl)

  cross_ends : (vs : List Point) → nc + 4 ≤ length vs → SidedCorners b nc vs → (os : List ℕ) (last : ℕ) (opened : Bool) (c : EdgeClip)
      → ClippedTo nc vs c → ClipSided c → (opened ≡ true → Sided b vs last) → Gives (EndsOnSide last) (cross b nc site vs os opened last c)
  unfolding cross cross_at
  cross_ends vs room k os last opened missed g h s = s
  cross_ends vs room k os last opened (once r) g h s = tt
  cross_ends vs room k os last opened (twice r t) g h s = λ e.
      let i = link b nc site t.verts os opened last r.at in
      rw (last_append last i.new (insert_edge b nc site t.verts i.owners (last_or last i.new) r.at t.at).new)
      (insert_ends t.verts i.owners (last_or last i.new) r.at t.at (after_two vs room k last r t g.0 g.1).0 h.1)

  -- where the cell was shut if the edge began inside
  pub step_ends : (vs : List Point) → nc + 4 ≤ length vs → SidedCorners b nc vs → (os : List ℕ) (last p : ℕ) (p_in : Bool) (q : ℕ) (qIn opened : Bool)
      → (opened ≡ true → Sided b vs last) → (p_in ≡ true → opened ≡ false) → Gives (EndsOnSide last) (clip_step b nc site p p_in q qIn vs os opened last)
  unfolding clip_step
  step_ends vs room k os last p true q true opened s shut = λ e. absurd (true_false e (shut refl))
  step_ends vs room k os last p true q false opened s shut = leave_ends p os last _ (clip_sided k.box vs p q (omega arith))
  step_ends vs room k os last p false q true opened s shut = enter_ends os last _
  step_ends vs room k os last p false q false opened s shut =
      cross_ends vs room k os last opened _ (clip_edge_lem b nc vs p q (omega arith)) (clip_sided k.box vs p q (omega arith)) s

  -- an edge that ends inside shuts the cell
  abbrev pub Shut : Change → Type 0
  Shut d = d.opened ≡ false

  enter_shuts : (os : List ℕ) (last : ℕ) (k : EdgeClip) → Gives Shut (enter b nc site os last k)
  unfolding enter enter_at
  enter_shuts os last missed = tt
  enter_shuts os last (once r) = refl
  enter_shuts os last (twice r t) = refl

  pub step_shuts : (p : ℕ) (p_in : Bool) (q : ℕ) (qIn : Bool) (vs : List Point) (os : List ℕ) (opened : Bool) (last : ℕ) → qIn ≡ true
      → (p_in ≡ true → opened ≡ false) → Gives Shut (clip_step b nc site p p_in q qIn vs os opened last)
  unfolding clip_step
  step_shuts p true q true vs os opened last e h = h refl
  step_shuts p p_in q false vs os opened last e h = absurd (true_false e refl)
  step_shuts p false q true vs os opened last e h = enter_shuts os last _
