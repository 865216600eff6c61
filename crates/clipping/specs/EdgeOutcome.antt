-- What one edge of the ring does to the slices.
use Rattle.std.specs.Prelude.{ℕ, ◌+◌, ◌*◌, ◌≤◌, ◌<◌, ◌^◌, ◌≡◌, true, List, Float, length, take, drop}
use Rattle.plane.specs.declared.points.Point.{Point}
use Rattle.vertices.specs.Store.{Holds, Poured}
use Rattle.definition.specs.Fault.{Outcome, ok, refused}
use Rattle.plane.specs.points.Flat.{points}
use Rattle.definition.specs.Cell.{Ins, Change}
use Rattle.definition.specs.Short.{ins}
use Rattle.definition.specs.Reused.{CountsReused}
use Rattle.definition.specs.Sides.{SidedCorners}
use Rattle.clipping.specs.corners.CellEntries.{EntryRoom, EntriesPut}
use Rattle.clipping.specs.edges.EdgeClip.{VerticesGrown}
use Rattle.clipping.specs.declared.edges.Env.{Env}
use Rattle.clipping.specs.declared.corners.CellSoFar.{CellSoFar}
use Rattle.clipping.specs.declared.Changed.{Changed}

-- the slices hold count vertices, the box's corners among them, and have room for one edge more: two vertices, three entries beside the site's corners
pub record EdgeRoom (env : Env) (count : ℕ) (cell : CellSoFar) (v : List Float) (ix : List ℕ) : Type 0 where
  pub holds : Holds env.centers count v (drop env.limit ix)
  pub list : env.limit ≤ length ix
  pub fits : EntryRoom env.site 3 cell env.limit
  pub verts : 2 * (count + 2) ≤ length v
  pub small : count + 2 ≤ 2 ^ 32
  pub corners : env.centers + 4 ≤ count
  pub sides : SidedCorners env.bounds env.centers (points count v)

-- the definition's outcome where the vertices vs, count in number, are in place: entries and owners, in the index list, and the points taken again
abbrev pub Alters : ℕ → List Point → Outcome ℕ Change → ℕ → CellSoFar → List ℕ → Changed → List ℕ → Type 0
Alters site vs (ok d) count cell ix r ix₁ =
    (r.refusal ≡ 0)
    × (r.count ≡ count)
    × (r.opened ≡ d.opened)
    × (d.verts ≡ vs)
    × (r.opened ≡ true → r.cell.last < count)
    × EntriesPut site 3 (ins d.owners d.new) cell ix r.cell ix₁
    × CountsReused 2 d.steps r.reused
Alters site vs (refused k) count cell ix r ix₁ = (r.refusal ≡ k) × (0 < k)

-- the vertices vs over v, and the entries and owners i written before the store's part of the index list
pub record Did (env : Env) (most : ℕ) (vs : List Point) (i : Ins) (cell : CellSoFar) (v : List Float) (ix : List ℕ) (count₁ : ℕ) (cell₁ : CellSoFar)
    (v₁ : List Float) (ix₁ : List ℕ) : Type 0 where
  pub verts : Poured vs v count₁ v₁
  pub holds : Holds env.centers count₁ v₁ (drop env.limit ix₁)
  pub puts : EntriesPut env.site most i cell (take env.limit ix) cell₁ (take env.limit ix₁)

-- the definition's outcome; refused, the slices keep their lengths only
abbrev pub Changes : Env → ℕ → Outcome ℕ Change → CellSoFar → List Float → List ℕ → Changed → List Float → List ℕ → Type 0
Changes env count (ok d) cell v ix r v₁ ix₁ =
    (r.refusal ≡ 0)
    × (r.opened ≡ d.opened)
    × (r.opened ≡ true → r.cell.last < r.count)
    × VerticesGrown 2 count r.count v v₁
    × Did env 3 d.verts (ins d.owners d.new) cell v ix r.count r.cell v₁ ix₁
    × CountsReused 2 d.steps r.reused
Changes env count (refused k) cell v ix r v₁ ix₁ = (r.refusal ≡ k) × (0 < k)
