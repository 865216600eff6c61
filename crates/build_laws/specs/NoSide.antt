-- Theorem: the source's panic "on no side" is never met, so a build has no refusal for it. Here stands the source's step of an edge with that panic, and the proof that at
-- every edge of every ring that a build clips, up to and including the one that is refused, it gives what ours gives: on an accepted mesh, in a box that rule 3 admits.
use Rattle.std.specs.Prelude.{◌≡◌, Bool, List, [], ◌∷◌, ◌++◌, ℕ, ◌+◌, ◌/◌, ◌≤◌, ◌<◌, ltb, length, get_or, take}
use Rattle.std.proofs.Math.Path.{refl}
use Rattle.std.proofs.Math.Bool.{true, false}
use Rattle.std.proofs.Common.{arith}
use borrow.Author.Tests.{lt-ltb}
use Rattle.base.specs.common.Pick.{pick}
use Rattle.base.specs.numbers.Numbers.{refused_no_crossing, refused_one_crossing}
use Rattle.plane.specs.declared.points.Point.{Point}
use Rattle.plane.specs.sides.Sides.{which_of}
use Rattle.plane.specs.boxes.Finite.{BoundedBox}
use Rattle.plane.specs.declared.boxes.BoundingBox.{BoundingBox}
use Rattle.mesh.specs.Accepted.{Mesh, Accepted}
use Rattle.definition.specs.Fault.{Outcome, ok, refused, and_then}
use Rattle.definition.specs.Cell.{plain, entry, last_or, Taken, Ins, vertex_at, insert_edge, EdgeClip, missed, once, twice, clip_edge}
use Rattle.definition.specs.Cell.{Change, leave, enter_at, enter, cross_at, cross, clip_step, in_box, Tip, RingPart, steps_to}
use Rattle.definition.specs.Build.{CellState}
use Rattle.definition.specs.Short.{ins, link, change, took_one, took_two}
use Rattle.definition.specs.Sides.{Sided, SidedCorners}
use Rattle.definition.specs.laws.Gives.{gives_ok}
use Rattle.build_laws.specs.Tries.{TryOf}
use Rattle.build_laws.specs.Met.{begins_inside, begins_at, walked, first_tip}
use Rattle.build_laws.specs.laws.Grown.{ClippedTo, clip_edge_lem}
use Rattle.build_laws.specs.laws.Ring.{turned_length}
use Rattle.build_laws.specs.laws.SidedEdge.{ClipSided, clip_sided, after_one, after_two}
use Rattle.build_laws.specs.laws.SidedRing.{SidedTip, sided_steps, first_sided, at_edge_sided}
use Rattle.build_laws.specs.laws.SidedCells.{try_sided}

-- ---- the source's step

-- where it stops: it panics at a clipped vertex on no side, or is refused by a number of ours
pub data Stop : Type 0 where
  panics : Stop
  number : ℕ → Stop

-- ours, told as the source's
abbrev pub as_source : {A : Type 0} → Outcome ℕ A → Outcome Stop A
as_source (ok a) = ok a
as_source (refused n) = refused (number n)

module _ (b : BoundingBox) (nc site : ℕ) where
  unfoldable pub source_insert : List Point → List ℕ → ℕ → ℕ → ℕ → Outcome Stop Ins
  source_insert vs os last first second =
      pick (ltb (which_of b (vertex_at vs first)) 4)
      (λ _. pick (ltb (which_of b (vertex_at vs second)) 4) (λ _. ok (insert_edge b nc site vs os last first second)) (λ _. refused panics))
      (λ _. refused panics)

  unfoldable pub source_enter_at : List Point → List ℕ → ℕ → ℕ → List Taken → Outcome Stop Change
  source_enter_at vs os last first ts = and_then (source_insert vs os last last first) (λ i. ok (change vs i.owners i.new false ts))

  unfoldable pub source_enter : List ℕ → ℕ → EdgeClip → Outcome Stop Change
  source_enter os last missed = refused (number refused_no_crossing)
  source_enter os last (once r) = source_enter_at r.verts os last r.at (took_one r)
  source_enter os last (twice r t) = source_enter_at t.verts os last r.at (took_two r t)

  unfoldable pub source_link : List Point → List ℕ → Bool → ℕ → ℕ → Outcome Stop Ins
  source_link vs os opened last first = pick opened (λ _. source_insert vs os last last first) (λ _. ok (ins os []))

  unfoldable pub source_cross : List Point → List ℕ → Bool → ℕ → EdgeClip → Outcome Stop Change
  source_cross vs os opened last missed = ok (change vs os [] opened [])
  source_cross vs os opened last (once r) = and_then (source_link r.verts os opened last r.at) (λ i. refused (number refused_one_crossing))
  source_cross vs os opened last (twice r t) =
      and_then (source_link t.verts os opened last r.at) λ i.
      and_then (source_insert t.verts i.owners (last_or last i.new) r.at t.at) λ j.
      ok (change t.verts j.owners (i.new ++ j.new) opened (took_two r t))

  unfoldable pub source_step : ℕ → Bool → ℕ → Bool → List Point → List ℕ → Bool → ℕ → Outcome Stop Change
  source_step p p_in q qIn vs os opened last =
      pick p_in
      (λ _. pick qIn (λ _. ok (change vs os (entry plain p ∷ []) opened [])) (λ _. as_source (leave p os (clip_edge b nc vs p q))))
      (λ _. pick qIn (λ _. source_enter os last (clip_edge b nc vs q p)) (λ _. source_cross vs os opened last (clip_edge b nc vs p q)))

  -- ---- where corners and last entry are on sides it is ours

  insert_same : (vs : List Point) (os : List ℕ) (last first second : ℕ) → Sided b vs first → Sided b vs second
      → source_insert vs os last first second ≡ ok (insert_edge b nc site vs os last first second)
  unfolding source_insert
  insert_same vs os last first second f s = rw (lt-ltb _ 4 f, lt-ltb _ 4 s) refl

  module _ (vs : List Point) (room : nc + 4 ≤ length vs) (k : SidedCorners b nc vs) (os : List ℕ) (last : ℕ) where
    enter_same : (c : EdgeClip) → ClippedTo nc vs c → ClipSided b nc site c → last < length vs → Sided b vs last → source_enter os last c ≡ as_source (enter b nc site os last c)
    unfolding source_enter source_enter_at enter enter_at and_then
    enter_same missed g h l s = refl
    enter_same (once r) g h l s = rw (insert_same r.verts os last last r.at ((after_one b nc site vs room k last r g).1 l s) h) refl
    enter_same (twice r t) g h l s = rw (insert_same t.verts os last last r.at ((after_two b nc site vs room k last r t g.0 g.1).1 l s) h.0) refl

    link_same : (ws : List Point) (opened : Bool) (first : ℕ) → (opened ≡ true → Sided b ws last) → Sided b ws first
        → source_link ws os opened last first ≡ ok (link b nc site ws os opened last first)
    unfolding source_link
    link_same ws true first l f = insert_same ws os last last first (l refl) f
    link_same ws false first l f = refl

    cross_same : (opened : Bool) (c : EdgeClip) → ClippedTo nc vs c → ClipSided b nc site c → (opened ≡ true → last < length vs) → (opened ≡ true → Sided b vs last)
        → source_cross vs os opened last c ≡ as_source (cross b nc site vs os opened last c)
    unfolding source_cross cross cross_at and_then
    cross_same opened missed g h l s = refl
    cross_same opened (once r) g h l s = rw (link_same r.verts opened r.at (λ e. (after_one b nc site vs room k last r g).1 (l e) (s e)) h) refl
    cross_same opened (twice r t) g h l s =
        let i = link b nc site t.verts os opened last r.at in
        rw (link_same t.verts opened r.at (λ e. (after_two b nc site vs room k last r t g.0 g.1).1 (l e) (s e)) h.0)
        (rw (insert_same t.verts i.owners (last_or last i.new) r.at t.at h.0 h.1) refl)

    step_same : (p : ℕ) (p_in : Bool) (q : ℕ) (qIn opened : Bool) → (opened ≡ true → last < length vs) → (opened ≡ true → Sided b vs last)
        → (p_in ≡ false → qIn ≡ true → opened ≡ true) → source_step p p_in q qIn vs os opened last ≡ as_source (clip_step b nc site p p_in q qIn vs os opened last)
    unfolding source_step clip_step
    step_same p true q true opened l s o = refl
    step_same p true q false opened l s o = refl
    step_same p false q true opened l s o =
        enter_same _ (clip_edge_lem b nc vs q p (omega arith)) (clip_sided b nc site k.box vs q p (omega arith)) (l (o refl refl)) (s (o refl refl))
    step_same p false q false opened l s o = cross_same opened _ (clip_edge_lem b nc vs p q (omega arith)) (clip_sided b nc site k.box vs p q (omega arith)) l s

-- ---- at every edge

-- the source's step and ours at the edge from where a walk stands to the ring's vertex q
abbrev pub SameStep : BoundingBox → ℕ → ℕ → Tip → ℕ → Type 0
SameStep b nc site t q =
    source_step b nc site t.p t.p_in q (in_box b nc t.verts q) t.verts t.owners t.opened t.last
    ≡ as_source (clip_step b nc site t.p t.p_in q (in_box b nc t.verts q) t.verts t.owners t.opened t.last)

module _ {m : Mesh} (a : Accepted m) {b : BoundingBox} (box : BoundedBox 101 b) where
  -- the first k edges of the ring went through; at the next the two are the same
  pub no_side : {site : ℕ} {ring : List ℕ} {s : CellState} → TryOf m b site ring s → (k : ℕ) → k < length ring → {c : RingPart}
      → steps_to b (length m.triangles / 3) site (take k (walked b (length m.triangles / 3) ring s.verts)) (first_tip b (length m.triangles / 3) ring s.verts s.owners) ≡ ok c
      → SameStep b (length m.triangles / 3) site c.tip (get_or (walked b (length m.triangles / 3) ring s.verts) k 0)
  no_side {site} {ring} {s} t k l {c} before =
      let nc = length m.triangles / 3 in
      let w = try_sided a box t in
      let f = w.1 in
      let there : k < length (walked b nc ring s.verts) = omega (arith, turned_length (begins_at b nc ring s.verts) ring) in
      let h = gives_ok (λ (d : RingPart). SidedTip b nc s.verts (begins_inside b nc ring s.verts) d.tip)
      (sided_steps b nc site w.0 s.verts f.long (begins_inside b nc ring s.verts) (take k (walked b nc ring s.verts)) (first_tip b nc ring s.verts s.owners)
      (first_sided b nc site w.0 s.verts f.long f.corners ring s.owners f.four)) before in
      step_same b nc site c.tip.verts (omega (arith, f.long, h.underway.grown.longer)) h.corners c.tip.owners c.tip.last c.tip.p c.tip.p_in _ _ c.tip.opened
      h.underway.last h.ends (at_edge_sided b nc site w.0 s.verts f.long f.corners ring s.owners f.four k there c.tip h)
