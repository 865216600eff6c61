-- A try that puts nothing into its cell: no vertex of its ring is inside, and no edge of it crosses the box. It adds no vertex, strikes out no corner and takes no step,
-- so it leaves everything as it was.
use Rattle.std.specs.Prelude.{◌≡◌, Bool, ℕ, ◌≤◌, ◌<◌, eqb, ltb, length, get_or}
use Rattle.std.proofs.Math.Path.{refl}
use Rattle.std.proofs.Common.{ap, arith, length-append, le-ltb}
use Rattle.std.proofs.Math.Bool.{true, false}
use mathlib.Core.List.{List, [], ◌∷◌, ◌++◌, reverse}
use Prim.{tt}
use Rattle.base.specs.numbers.Numbers.{EMPTY}
use Rattle.plane.specs.declared.points.Point.{Point}
use Rattle.plane.specs.sides.Sides.{which_of}
use Rattle.plane.specs.declared.boxes.BoundingBox.{BoundingBox}
use Rattle.plane.specs.declared.lines.Crossing.{Crossing}
use Rattle.plane.specs.declared.lines.Crossing.TheVariants.{None, One, Two}
use Rattle.definition.specs.Fault.{ok, and_then, at_edge}
use Rattle.vertices.specs.Add.{add_vertex}
use Rattle.plane.specs.points.Plane.{at}
use Rattle.definition.specs.Cell.{Entry, entry, crossing, last_or, Taken, Ins, wraps, with_corners, led, insert_edge, vertex_at, edge_crossing, EdgeClip, missed, once, twice, clip_with, clip_edge}
use Rattle.definition.specs.Cell.{Change, leave, enter_at, enter, cross_at, cross, clip_step, in_box, RingPart, step_to, steps_to, first_inside, turned, clip_from, clip_cell}
use Rattle.definition.specs.Short.{change, link, took_two, part, tip}
use Rattle.definition.specs.laws.Gives.{Gives, gives_ok, gives_given, gives_map, gives_next, gives_then, gives_at, picked}
use Rattle.build_laws.specs.laws.Ring.{turned_length}

-- ---- lists

not_cons : {A : Type 0} {x : A} {l : List A} → ◌≡◌ {A = List A} (x ∷ l) [] → ⊥
not_cons h = omega (arith, ap length h)

not_last : (l : List Entry) (x : Entry) → l ++ x ∷ [] ≡ [] → ⊥
not_last l x h = omega (arith, ap length h, length-append l (x ∷ []))

left_none : (k l : List Entry) → k ++ l ≡ [] → k ≡ []
left_none [] l h = refl
left_none (x ∷ k) l h = absurd (not_cons h)

right_none : (k l : List Entry) → k ++ l ≡ [] → l ≡ []
right_none [] l h = h
right_none (x ∷ k) l h = absurd (not_cons h)

-- ---- what an idle walk is

-- from vertex p along qs: each of them is outside, and no edge crosses the box
abbrev pub Idle : BoundingBox → ℕ → List Point → ℕ → List ℕ → Type 0
Idle b nc vs p [] = Unit {0}
Idle b nc vs p (q ∷ qs) = (in_box b nc vs q ≡ false) × (edge_crossing b (vertex_at vs p) (vertex_at vs q) ≡ None) × Idle b nc vs q qs

-- the vertex where it ends
abbrev pub idle_end : ℕ → List ℕ → ℕ
idle_end p [] = p
idle_end p (q ∷ qs) = idle_end q qs

module _ (b : BoundingBox) (nc site : ℕ) where
  -- ---- an edge along the box puts something

  with_some : (f s second : ℕ) (os : List ℕ) → (with_corners nc site f s second os).new ≡ [] → ⊥
  unfolding with_corners
  with_some f s second os =
      picked (λ (i : Ins). i.new ≡ [] → ⊥) (eqb (get_or os f EMPTY) site) _ _
      (λ t h. not_last (wraps 4 nc site s f os).new (entry crossing second) h)
      (λ t. picked (λ (i : Ins). i.new ≡ [] → ⊥) (eqb (get_or os s EMPTY) site) _ _ (λ u h. not_cons h) (λ u h. not_cons h))

  insert_some : (vs : List Point) (os : List ℕ) (last first second : ℕ) → (insert_edge b nc site vs os last first second).new ≡ [] → ⊥
  unfolding insert_edge
  insert_some vs os last first second =
      by (eqb last first) (with_corners nc site (which_of b (vertex_at vs first)) (which_of b (vertex_at vs second)) second os)
      (with_some (which_of b (vertex_at vs first)) (which_of b (vertex_at vs second)) second os)
    where
      by : (t : Bool) (i : Ins) → (i.new ≡ [] → ⊥) → (led t first i).new ≡ [] → ⊥
      by true i h e = h e
      by false i h e = not_cons e

  -- ---- one edge

  abbrev Some : Change → Type 0
  Some d = d.new ≡ [] → ⊥

  leave_some : (p : ℕ) (os : List ℕ) (k : EdgeClip) → Gives Some (leave p os k)
  unfolding leave
  leave_some p os missed = tt
  leave_some p os (once r) = λ h. not_cons h
  leave_some p os (twice r t) = λ h. not_cons h

  enter_some : (os : List ℕ) (last : ℕ) (k : EdgeClip) → Gives Some (enter b nc site os last k)
  unfolding enter enter_at
  enter_some os last missed = tt
  enter_some os last (once r) = λ h. insert_some r.verts os last last r.at h
  enter_some os last (twice r t) = λ h. insert_some t.verts os last last r.at h

  -- an edge outside that puts nothing does not cross the box, and changes nothing
  abbrev Quiet : List Point → List ℕ → Bool → ℕ → ℕ → Change → Type 0
  Quiet vs os opened p q d = d.new ≡ [] → (edge_crossing b (vertex_at vs p) (vertex_at vs q) ≡ None) × (d ≡ change vs os [] opened [])

  cross_some : (vs : List Point) (os : List ℕ) (opened : Bool) (last first second : ℕ) (ts : List Taken) → Some (cross_at b nc site vs os opened last first second ts)
  unfolding cross_at
  cross_some vs os opened last first second ts h =
      let i = link b nc site vs os opened last first in
      insert_some vs i.owners (last_or last i.new) first second
      (right_none i.new (insert_edge b nc site vs i.owners (last_or last i.new) first second).new h)

  cross_quiet : (vs : List Point) (os : List ℕ) (opened : Bool) (last p q : ℕ) → Gives (Quiet vs os opened p q) (cross b nc site vs os opened last (clip_edge b nc vs p q))
  unfolding cross clip_edge clip_with
  cross_quiet vs os opened last p q = by (edge_crossing b (vertex_at vs p) (vertex_at vs q)) refl
    where
      by : (x : Crossing) → edge_crossing b (vertex_at vs p) (vertex_at vs q) ≡ x → Gives (Quiet vs os opened p q) (cross b nc site vs os opened last (clip_with nc vs x))
      by None e = λ h. (e, refl)
      by (One x y) e = tt
      by (Two x y u v) e =
          let r = add_vertex nc vs (at x y) in
          let t = add_vertex nc r.verts (at u v) in
          λ h. absurd (cross_some t.verts os opened last r.at t.at (took_two r t) h)

  inside_some : (p q : ℕ) (qIn : Bool) (vs : List Point) (os : List ℕ) (opened : Bool) (last : ℕ) → Gives Some (clip_step b nc site p true q qIn vs os opened last)
  unfolding clip_step
  inside_some p q true vs os opened last = λ h. not_cons h
  inside_some p q false vs os opened last = leave_some p os (clip_edge b nc vs p q)

  abbrev Still : Bool → List Point → List ℕ → Bool → ℕ → ℕ → Change → Type 0
  Still qIn vs os opened p q d = d.new ≡ [] → (qIn ≡ false) × (edge_crossing b (vertex_at vs p) (vertex_at vs q) ≡ None) × (d ≡ change vs os [] opened [])

  outside_still : (p q : ℕ) (qIn : Bool) (vs : List Point) (os : List ℕ) (opened : Bool) (last : ℕ)
      → Gives (Still qIn vs os opened p q) (clip_step b nc site p false q qIn vs os opened last)
  unfolding clip_step
  outside_still p q true vs os opened last =
      gives_map Some (Still true vs os opened p q) (enter b nc site os last (clip_edge b nc vs q p)) (enter_some os last (clip_edge b nc vs q p)) (λ d h e. absurd (h e))
  outside_still p q false vs os opened last =
      gives_map (Quiet vs os opened p q) (Still false vs os opened p q) (cross b nc site vs os opened last (clip_edge b nc vs p q)) (cross_quiet vs os opened last p q)
      (λ d h e. (refl, (h e).0, (h e).1))

  -- ---- a run of edges

  abbrev SomePart : RingPart → Type 0
  SomePart c = c.new ≡ [] → ⊥

  to_some : (vs : List Point) (os : List ℕ) (l p : ℕ) (o : Bool) (q : ℕ) → Gives SomePart (step_to b nc site (tip vs os l p true o) q)
  unfolding step_to
  to_some vs os l p o q =
      let step = clip_step b nc site p true q (in_box b nc vs q) vs os o l in
      gives_then Some SomePart (at_edge site p q step) _ (gives_at Some site p q step (inside_some p q (in_box b nc vs q) vs os o l)) (λ d h e. h e)

  steps_some : (qs : List ℕ) (vs : List Point) (os : List ℕ) (l p : ℕ) (o : Bool) → 0 < length qs → Gives SomePart (steps_to b nc site qs (tip vs os l p true o))
  unfolding steps_to
  steps_some [] vs os l p o h = absurd (omega arith)
  steps_some (q ∷ qs) vs os l p o h =
      gives_then SomePart SomePart (step_to b nc site (tip vs os l p true o) q) _ (to_some vs os l p o q)
      (λ c n. gives_next SomePart (steps_to b nc site qs c.tip) _ (λ d e. n (left_none c.new d.new e)))

  abbrev QuietPart : List Point → List ℕ → ℕ → ℕ → Bool → ℕ → RingPart → Type 0
  QuietPart vs os l p o q c =
      c.new ≡ [] → (in_box b nc vs q ≡ false) × (edge_crossing b (vertex_at vs p) (vertex_at vs q) ≡ None) × (c ≡ part (tip vs os l q false o) [] [])

  to_quiet : (vs : List Point) (os : List ℕ) (l p : ℕ) (o : Bool) (q : ℕ) → Gives (QuietPart vs os l p o q) (step_to b nc site (tip vs os l p false o) q)
  unfolding step_to
  to_quiet vs os l p o q =
      let step = clip_step b nc site p false q (in_box b nc vs q) vs os o l in
      gives_then (Still (in_box b nc vs q) vs os o p q) (QuietPart vs os l p o q) (at_edge site p q step) _
      (gives_at (Still (in_box b nc vs q) vs os o p q) site p q step (outside_still p q (in_box b nc vs q) vs os o l))
      (λ d h e. let w = h e in (w.0, w.1, rw (w.2, w.0)))

  idle_of : (qs : List ℕ) (vs : List Point) (os : List ℕ) (l p : ℕ) (o : Bool)
      → Gives (λ (c : RingPart). c.new ≡ [] → Idle b nc vs p qs) (steps_to b nc site qs (tip vs os l p false o))
  unfolding steps_to
  idle_of [] vs os l p o = λ e. tt
  idle_of (q ∷ qs) vs os l p o =
      gives_then (QuietPart vs os l p o q) (λ (r : RingPart). r.new ≡ [] → Idle b nc vs p (q ∷ qs)) (step_to b nc site (tip vs os l p false o) q) _ (to_quiet vs os l p o q)
      (λ c h. gives_then (λ (d : RingPart). c.new ≡ [] → d.new ≡ [] → Idle b nc vs q qs) (λ (r : RingPart). r.new ≡ [] → Idle b nc vs p (q ∷ qs)) (steps_to b nc site qs c.tip) _
      (gives_given (c.new ≡ []) (λ (d : RingPart). d.new ≡ [] → Idle b nc vs q qs) (steps_to b nc site qs c.tip) (λ e. rw (h e).2 (idle_of qs vs os l q o)))
      (λ d k e. let a = left_none c.new d.new e in ((h a).0, (h a).1, k a (right_none c.new d.new e))))

  quiet_step : (p q : ℕ) (vs : List Point) (os : List ℕ) (o : Bool) (l : ℕ) → edge_crossing b (vertex_at vs p) (vertex_at vs q) ≡ None
      → clip_step b nc site p false q false vs os o l ≡ ok (change vs os [] o [])
  unfolding clip_step cross clip_edge clip_with
  quiet_step p q vs os o l h = rw h

  quiet_to : (vs : List Point) (os : List ℕ) (l p : ℕ) (o : Bool) (q : ℕ) → in_box b nc vs q ≡ false → edge_crossing b (vertex_at vs p) (vertex_at vs q) ≡ None
      → step_to b nc site (tip vs os l p false o) q ≡ ok (part (tip vs os l q false o) [] [])
  unfolding step_to and_then at_edge
  quiet_to vs os l p o q h k = rw (h, quiet_step p q vs os o l k)

  of_idle : (qs : List ℕ) (vs : List Point) (os : List ℕ) (l p : ℕ) (o : Bool) → Idle b nc vs p qs
      → steps_to b nc site qs (tip vs os l p false o) ≡ ok (part (tip vs os l (idle_end p qs) false o) [] [])
  unfolding steps_to and_then
  of_idle [] vs os l p o h = refl
  of_idle (q ∷ qs) vs os l p o h = rw (quiet_to vs os l p o q h.0 h.1, of_idle qs vs os l q o h.2)

  -- ---- the ring

  module _ (ring : List ℕ) (vs : List Point) (os : List ℕ) where
    -- a try that puts nothing is idle
    pub nothing_idle : 0 < length ring → {c : RingPart} → clip_cell b nc site ring vs os ≡ ok c → c.new ≡ [] → Idle b nc vs (get_or ring 0 0) (reverse ring)
    unfolding clip_cell clip_from turned
    nothing_idle l h e =
        gives_ok (λ (c : RingPart). c.new ≡ [] → Idle b nc vs (get_or ring 0 0) (reverse ring))
        (picked (Gives (λ (c : RingPart). c.new ≡ [] → Idle b nc vs (get_or ring 0 0) (reverse ring))) (ltb (first_inside b nc vs ring) (length ring)) _ _
        (λ t. gives_map SomePart _ (clip_from b nc site ring vs os (first_inside b nc vs ring) true)
        (steps_some (turned (first_inside b nc vs ring) ring) vs os EMPTY (get_or ring (first_inside b nc vs ring) 0) false (omega (arith, turned_length (first_inside b nc vs ring) ring)))
        (λ c n k. absurd (n k)))
        (λ t. idle_of (reverse ring) vs os EMPTY (get_or ring 0 0) false))
        h e

    -- and an idle ring is a try that changes nothing
    pub idle_nothing : length ring ≤ first_inside b nc vs ring → Idle b nc vs (get_or ring 0 0) (reverse ring)
        → clip_cell b nc site ring vs os ≡ ok (part (tip vs os EMPTY (idle_end (get_or ring 0 0) (reverse ring)) false false) [] [])
    unfolding clip_cell clip_from turned
    idle_nothing out h = rw (le-ltb _ _ out, of_idle (reverse ring) vs os EMPTY (get_or ring 0 0) false h)
