-- Vertices that grow: what adding a point does to them, and clipping an edge, which adds at most two, each after the circumcenters.
use Rattle.std.specs.Prelude.{◌≡◌, refl, Bool, true, false, not, List, [], ◌∷◌, ◌++◌, ℕ, suc, ◌+◌, ◌≤◌, ◌<◌, ltb, length, drop}
use Rattle.std.proofs.Common.{◌∙◌, arith, length-append, length-drop, ltb-true}
use Rattle.std.proofs.Math.ListN.{get_or-append}
use Rattle.std.specs.Float.{nan}
use Rattle.base.specs.common.Pick.{pick}
use Rattle.plane.specs.points.Plane.{at}
use Rattle.plane.specs.declared.points.Point.{Point}
use Rattle.plane.specs.declared.boxes.BoundingBox.{BoundingBox}
use Rattle.plane.specs.declared.lines.Crossing.{Crossing}
use Rattle.plane.specs.declared.lines.Crossing.TheVariants.{None, One, Two}
use Rattle.vertices.specs.Add.{Added, near_pt, find_near, add_vertex}
use Rattle.definition.specs.Cell.{Taken, vertex_at, EdgeClip, missed, once, twice, clip_with, clip_edge}
use Rattle.definition.specs.laws.Gives.{picked}
use Rattle.definition.specs.Measures.{count_if, new_points}

pub new_append : (ts us : List Taken) → new_points (ts ++ us) ≡ new_points ts + new_points us
new_append [] us = omega arith
new_append (t ∷ ts) us = omega (arith, new_append ts us)

pub count_le : (b : Bool) → count_if b ≤ 1
count_le true = omega arith
count_le false = omega arith

pub new_le : (ts : List Taken) → new_points ts ≤ length ts
new_le [] = omega arith
new_le (t ∷ ts) = omega (arith, count_le t.fresh, new_le ts)

-- ws are the vertices vs, and m more
pub record Grown (vs : List Point) (m : ℕ) (ws : List Point) : Type 0 where
  pub longer : length ws ≡ length vs + m
  pub kept : (i : ℕ) → i < length vs → vertex_at ws i ≡ vertex_at vs i

pub grown_none : (vs : List Point) → Grown vs 0 vs
grown_none vs = record { longer = omega arith; kept = λ i h. refl }

pub grown_then : {vs us ws : List Point} {m k : ℕ} → Grown vs m us → Grown us k ws → Grown vs (m + k) ws
grown_then h g = record { longer = omega (arith, h.longer, g.longer); kept = λ i l. g.kept i (omega (arith, h.longer)) ∙ h.kept i l }

pub find_bounds : (p : Point) (vs : List Point) (n : ℕ) → (n ≤ find_near p vs n) × (find_near p vs n ≤ n + length vs)
unfolding find_near
find_bounds p [] n = omega arith
find_bounds p (v ∷ vs) n =
    picked (λ (k : ℕ). (n ≤ k) × (k ≤ n + suc (length vs))) (near_pt v p) _ _
    (λ t. omega arith)
    (λ t. omega (arith, find_bounds p vs (suc n)))

-- adding a point: its place is after the circumcenters
pub record AddedTo (nc : ℕ) (vs : List Point) (r : Added) : Type 0 where
  pub grown : Grown vs (count_if r.fresh) r.verts
  pub after : nc ≤ r.at
  pub below : r.at < length r.verts

pub add_vertex_lem : (nc : ℕ) (vs : List Point) (p : Point) → nc ≤ length vs → AddedTo nc vs (add_vertex nc vs p)
unfolding add_vertex
add_vertex_lem nc vs p h = by (ltb i (length vs)) refl
  where
    i : ℕ
    i = find_near p (drop nc vs) nc

    low : nc ≤ i
    low = (find_bounds p (drop nc vs) nc).0

    high : i ≤ length vs
    high = omega (arith, (find_bounds p (drop nc vs) nc).1, length-drop nc vs)

    by : (t : Bool) → ltb i (length vs) ≡ t → AddedTo nc vs (record { at = i; verts = pick t (λ _. vs) (λ _. vs ++ p ∷ []); fresh = not t })
    by true e = record { grown = grown_none vs; after = low; below = ltb-true i (length vs) e }
    by false e = record {
      grown = record { longer = length-append vs (p ∷ []); kept = λ j l. get_or-append vs (p ∷ []) (at nan nan) j l };
      after = low;
      below = rw (length-append vs (p ∷ [])) (omega (arith, high));
    }

-- clipping an edge
abbrev pub ClippedTo : ℕ → List Point → EdgeClip → Type 0
ClippedTo nc vs missed = Unit {0}
ClippedTo nc vs (once r) = AddedTo nc vs r
ClippedTo nc vs (twice r t) = AddedTo nc vs r × AddedTo nc r.verts t

clip_with_lem : (nc : ℕ) (vs : List Point) (x : Crossing) → nc ≤ length vs → ClippedTo nc vs (clip_with nc vs x)
unfolding clip_with
clip_with_lem nc vs None h = tt
clip_with_lem nc vs (One x y) h = add_vertex_lem nc vs (at x y) h
clip_with_lem nc vs (Two x y u v) h =
    let r = add_vertex_lem nc vs (at x y) h in
    (r, add_vertex_lem nc _ (at u v) (omega (arith, r.grown.longer)))

pub clip_edge_lem : (b : BoundingBox) (nc : ℕ) (vs : List Point) (p q : ℕ) → nc ≤ length vs → ClippedTo nc vs (clip_edge b nc vs p q)
unfolding clip_edge
clip_edge_lem b nc vs p q h = clip_with_lem nc vs _ h
