-- The crossings of an edge, found and added: the vertices as the code gives them, and what adding them leaves of the slices.
use Rattle.std.specs.Prelude.{ℕ, ◌+◌, ◌*◌, ◌≤◌, ◌<◌, ◌≡◌, Bool, true, false, List, Float, take}
use Rattle.plane.specs.declared.points.Point.{Point}
use Rattle.plane.specs.declared.boxes.BoundingBox.{BoundingBox}
use Rattle.plane.specs.declared.lines.Crossing.{Crossing}
use Rattle.vertices.specs.Store.{Leaves}
use Rattle.definition.specs.Cell.{EdgeClip, missed, once, twice, edge_crossing, vertex_at}
use Rattle.definition.specs.Short.{took_one, took_two}
use Rattle.definition.specs.Reused.{CountsReused}
use Rattle.clipping.specs.declared.edges.Crossed.{Crossed}
use Rattle.clipping.specs.declared.edges.Crossed.TheVariants.{Missed, Once, Twice}

-- c is the crossings of the edge from p to q, found from its end inside where one is; where both are it is not asked for
pub record CrossingsAsked (b : BoundingBox) (vs : List Point) (p : ℕ) (p_in : Bool) (q : ℕ) (qIn : Bool) (c : Crossing) : Type 0 where
  pub enters : p_in ≡ false → qIn ≡ true → c ≡ edge_crossing b (vertex_at vs q) (vertex_at vs p)
  pub others : qIn ≡ false → c ≡ edge_crossing b (vertex_at vs p) (vertex_at vs q)

-- count vertices became n, by `most` at most; those that were there stay
pub record VerticesGrown (most count n : ℕ) (v v₁ : List Float) : Type 0 where
  pub low : count ≤ n
  pub high : n ≤ count + most
  pub kept : take (2 * count) v₁ ≡ take (2 * count) v

-- the code's answer is the definition's clip: which crossings, their vertices, the vertices afterwards, the points taken again
abbrev pub ClipsEdge : ℕ → ℕ → ℕ → EdgeClip → List Float → List ℕ → Crossed → List Float → List ℕ → Type 0
ClipsEdge nc limit count missed v ix Missed v₁ ix₁ = (v₁ ≡ v) × (ix₁ ≡ ix)
ClipsEdge nc limit count (once r) v ix (Once f n u) v₁ ix₁ =
    (f ≡ r.at) × (f < n) × VerticesGrown 2 count n v v₁ × Leaves nc limit r.verts v ix n v₁ ix₁ × CountsReused 2 (took_one r) u
ClipsEdge nc limit count (twice r t) v ix (Twice f s n u) v₁ ix₁ =
    (f ≡ r.at) × (s ≡ t.at) × (f < n) × (s < n) × VerticesGrown 2 count n v v₁ × Leaves nc limit t.verts v ix n v₁ ix₁ × CountsReused 2 (took_two r t) u
ClipsEdge nc limit count missed v ix (Once f n u) v₁ ix₁ = ⊥
ClipsEdge nc limit count missed v ix (Twice f s n u) v₁ ix₁ = ⊥
ClipsEdge nc limit count (once r) v ix Missed v₁ ix₁ = ⊥
ClipsEdge nc limit count (once r) v ix (Twice f s n u) v₁ ix₁ = ⊥
ClipsEdge nc limit count (twice r t) v ix Missed v₁ ix₁ = ⊥
ClipsEdge nc limit count (twice r t) v ix (Once f n u) v₁ ix₁ = ⊥
