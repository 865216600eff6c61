-- The crossings of an edge: which were asked for, and how they are added as vertices, one, or two one after the other.
use Rattle.std.specs.Prelude.{ℕ, ◌+◌, ◌*◌, ◌≤◌, ◌<◌, ◌≡◌, refl, Bool, true, false, cond, ◌&&◌, Float, length, take}
use Rattle.std.proofs.Common.{sym, ◌∙◌, take-take}
use Rattle.std.proofs.Math.Path.{ap}
use Rattle.std.proofs.lemmas.Bool.{false≢true}
use mathlib.Core.List.{List}
use native.Mathlib.Omega.{arith}
use Rattle.plane.specs.declared.points.Point.{Point}
use Rattle.plane.specs.points.Plane.{at}
use Rattle.plane.specs.points.Flat.{points}
use Rattle.plane.specs.declared.boxes.BoundingBox.{BoundingBox}
use Rattle.plane.specs.rays.Ray.{order_of}
use Rattle.plane.specs.declared.lines.Crossing.{Crossing}
use Rattle.plane.specs.declared.lines.Crossing.TheVariants.{None, One, Two}
use Rattle.vertices.specs.Add.{Added, add_vertex}
use Rattle.vertices.specs.Store.{Leaves, PlacedAs}
use Rattle.vertices.specs.declared.Placed.{Placed}
use Rattle.vertices.specs.laws.Store.{poured_points, poured_then, added_kept}
use Rattle.definition.specs.Cell.{first_is, on_edge, missed, clip_with, clip_edge, edge_crossing, vertex_at}
use Rattle.definition.specs.Short.{took_one, took_two}
use Rattle.definition.specs.Reused.{if_old, reused, CountsReused}
use Rattle.clipping.specs.edges.EdgeClip.{CrossingsAsked, ClipsEdge, VerticesGrown}
use Rattle.clipping.specs.declared.edges.Crossed.TheVariants.{Once, Twice}

-- ---- which crossings are on the edge

module _ (p q d : Point) (x y u v : Float) (o : Crossing) (t : Bool) (e : o ≡ order_of p d (Two q.x q.y x y)) (f : t ≡ first_is o x y) where
  pub comes_before : t ≡ true → Two x y u v ≡ on_edge p q d (Two x y u v)
  comes_before g = rw (← e, ← f, g)

  pub comes_after : t ≡ false → None ≡ on_edge p q d (Two x y u v)
  comes_after g = rw (← e, ← f, g)

-- what crosses does not miss
pub not_one : {x y : Float} → One x y ≡ None → ⊥
not_one q = let z : ◌≡◌ {A = ℕ} 0 1 = cc in omega arith

pub not_two : {x y u v : Float} → Two x y u v ≡ None → ⊥
not_two q = let z : ◌≡◌ {A = ℕ} 0 1 = cc in omega arith

-- ---- the crossings added

pub grown_then :
    (a b count n m : ℕ) (v v₁ v₂ : List Float)
    → VerticesGrown a count n v v₁
    → VerticesGrown b n m v₁ v₂
    → VerticesGrown (a + b) count m v v₂
grown_then a b count n m v v₁ v₂ g h =
    let p = g.low in
    let q = g.high in
    let r = h.low in
    let s = h.high in
    record {
      low = omega arith;
      high = omega arith;
      kept =
          sym (take-take (2 * count) (2 * n) v₂ (omega arith))
          ∙ ap (take (2 * count)) h.kept
          ∙ take-take (2 * count) (2 * n) v₁ (omega arith)
          ∙ g.kept;
    }

leaves_then :
    {nc limit n m : ℕ} {vs ws : List Point} {v v₁ v₂ : List Float} {ix ix₁ ix₂ : List ℕ}
    → Leaves nc limit vs v ix n v₁ ix₁
    → Leaves nc limit ws v₁ ix₁ m v₂ ix₂
    → n ≤ m
    → 2 * n ≤ length v
    → Leaves nc limit ws v ix m v₂ ix₂
leaves_then a b h k = record { verts = poured_then a.verts b.verts h k; body = b.body ∙ a.body; holds = b.holds }

-- the points taken again, by what the store answered
one_old : (b : Bool) → reused 0 (if_old b 1) 0 ≡ reused (if_old b 0 + 0) (if_old b 1 + 0) (if_old b 0 + 0)
one_old true = refl
one_old false = refl

one_counted : (r : Added) (n : ℕ) → n ≡ if_old r.fresh 1 → CountsReused 2 (took_one r) (reused 0 n 0)
one_counted r n e = record { is = rw e (one_old r.fresh); few = omega arith }

two_old : (b c : Bool)
    → reused 0 (if_old b 1) (if_old c 1) ≡ reused (if_old b 0 + (if_old c 0 + 0)) (if_old b 1 + (if_old c 0 + 0)) (if_old b 0 + (if_old c 1 + 0))
two_old true true = refl
two_old true false = refl
two_old false true = refl
two_old false false = refl

two_counted : (r t : Added) (n k : ℕ) → n ≡ if_old r.fresh 1 → k ≡ if_old t.fresh 1 → CountsReused 2 (took_two r t) (reused 0 n k)
two_counted r t n k e f = record { is = rw (e, f) (two_old r.fresh t.fresh); few = omega arith }

module _ (nc limit count : ℕ) (x y : Float) (v : List Float) (ix : List ℕ) (r : Placed) (v₁ : List Float) (ix₁ : List ℕ) where
  pub clips_once :
      PlacedAs count (add_vertex nc (points count v) (at x y)) r
      → Leaves nc limit (add_vertex nc (points count v) (at x y)).verts v ix r.count v₁ ix₁
      → 2 * (count + 2) ≤ length v
      → (n : ℕ)
      → n ≡ if_old r.fresh 1
      → ClipsEdge nc limit count (clip_with nc (points count v) (One x y)) v ix (Once r.at r.count (reused 0 n 0)) v₁ ix₁
  unfolding clip_with
  clips_once a l f n e =
      let h = a.low in
      let k = a.high in (
        a.at,
        a.below,
        record { low = h; high = omega arith; kept = added_kept nc count (at x y) v v₁ r.count l.verts (omega arith) },
        l,
        one_counted (add_vertex nc (points count v) (at x y)) n (e ∙ ap (λ (t : Bool). if_old t 1) a.fresh),
      )

  module _ (z w : Float) (s : Placed) (v₂ : List Float) (ix₂ : List ℕ) where
    pub clips_twice :
        PlacedAs count (add_vertex nc (points count v) (at x y)) r
        → Leaves nc limit (add_vertex nc (points count v) (at x y)).verts v ix r.count v₁ ix₁
        → PlacedAs r.count (add_vertex nc (points r.count v₁) (at z w)) s
        → Leaves nc limit (add_vertex nc (points r.count v₁) (at z w)).verts v₁ ix₁ s.count v₂ ix₂
        → 2 * (count + 2) ≤ length v
        → (n k : ℕ)
        → n ≡ if_old r.fresh 1
        → k ≡ if_old s.fresh 1
        → ClipsEdge nc limit count (clip_with nc (points count v) (Two x y z w)) v ix (Twice r.at s.at s.count (reused 0 n k)) v₂ ix₂
    unfolding clip_with
    clips_twice a l b m f n k en ek =
        let h = a.low in
        let g = a.high in
        let i = b.low in
        let j = b.high in
        let o = a.below in
        let e = poured_points l.verts in (
          a.at,
          b.at ∙ ap (λ (vs : List Point). (add_vertex nc vs (at z w)).at) e,
          omega arith,
          b.below,
          grown_then 1 1 count r.count s.count v v₁ v₂
              (record { low = h; high = g; kept = added_kept nc count (at x y) v v₁ r.count l.verts (omega arith) })
              (record { low = i; high = j; kept = added_kept nc r.count (at z w) v₁ v₂ s.count m.verts l.holds.room }),
          leaves_then l (rw e at m) (omega arith) (omega arith),
          two_counted (add_vertex nc (points count v) (at x y)) (add_vertex nc (add_vertex nc (points count v) (at x y)).verts (at z w)) n k
              (en ∙ ap (λ (t : Bool). if_old t 1) a.fresh)
              (ek ∙ ap (λ (t : Bool). if_old t 1) (b.fresh ∙ ap (λ (vs : List Point). (add_vertex nc vs (at z w)).fresh) e)),
        )

-- ---- the crossings that were asked for

module _ (b : BoundingBox) (vs : List Point) (p : ℕ) (p_in : Bool) (q : ℕ) (qIn : Bool) (c : Crossing) where
  pub asked_inside : qIn && p_in ≡ true → CrossingsAsked b vs p p_in q qIn c
  asked_inside h = record { enters = λ i j. absurd (false≢true (rw (i, j) at h)); others = λ j. absurd (false≢true (rw j at h)) }

  pub asked_found :
      (from to : ℕ)
      → from ≡ cond qIn q p
      → to ≡ cond qIn p q
      → c ≡ edge_crossing b (vertex_at vs from) (vertex_at vs to)
      → CrossingsAsked b vs p p_in q qIn c
  asked_found from to f t e = record { enters = λ i j. rw (f, t, j) at e; others = λ j. rw (f, t, j) at e }

pub either_below : (b : Bool) (x y n r : ℕ) → r ≡ cond b x y → x < n → y < n → r < n
either_below true x y n r e h k = rw e h
either_below false x y n r e h k = rw e k

module _ (b : BoundingBox) (nc : ℕ) (vs : List Point) (p q : ℕ) (c : Crossing) where
  pub clip_is : c ≡ edge_crossing b (vertex_at vs p) (vertex_at vs q) → clip_edge b nc vs p q ≡ clip_with nc vs c
  unfolding clip_edge
  clip_is e = rw (← e)

pub with_none : (nc : ℕ) (vs : List Point) → clip_with nc vs None ≡ missed
unfolding clip_with
with_none nc vs = refl
