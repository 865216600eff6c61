-- Some edges of the ring, or all of it: where the walk stands, and what it has done to the slices.
use Rattle.std.specs.Prelude.{ℕ, ◌+◌, ◌*◌, ◌≤◌, ◌<◌, ◌^◌, ◌≡◌, true, false, List, Float, length, get_or, take, drop}
use Rattle.base.specs.numbers.Numbers.{EMPTY}
use Rattle.plane.specs.points.Flat.{points}
use Rattle.vertices.specs.Store.{Holds}
use Rattle.definition.specs.Fault.{Outcome, ok, refused}
use Rattle.definition.specs.Short.{fault}
use Rattle.definition.specs.declared.Fault.{Fault}
use Rattle.definition.specs.Cell as Def
use Rattle.definition.specs.Short
use Rattle.definition.specs.Reused.{CountsReused}
use Rattle.definition.specs.Sides.{Sided, SidedCorners}
use Rattle.clipping.specs.corners.CellEntries.{EntryRoom}
use Rattle.clipping.specs.edges.EdgeClip.{VerticesGrown}
use Rattle.clipping.specs.EdgeOutcome.{Did}
use Rattle.clipping.specs.declared.edges.Env.{Env}
use Rattle.clipping.specs.declared.corners.CellSoFar.{CellSoFar}
use Rattle.clipping.specs.declared.Tip.{Tip}
use Rattle.clipping.specs.declared.RingStepped.{RingStepped}

-- the walk's state as the definition has it: the slice v holds its vertices
abbrev pub tip_of : Tip → List Float → Def.Tip
tip_of t v = Short.tip (points t.count v) t.cell.owners t.cell.last t.vertex t.inside t.opened

-- the ring's vertex is one, and where it is inside the cell is shut; an open cell has a last entry, and that is on a side
pub record Stands (env : Env) (t : Tip) (v : List Float) : Type 0 where
  pub vertex : t.vertex < t.count
  pub shut : t.inside ≡ true → t.opened ≡ false
  pub low : t.opened ≡ true → t.cell.last < t.count
  pub ends : t.opened ≡ true → Sided env.bounds (points t.count v) t.cell.last

-- the definition's outcome of some edges; refused, the slices keep their lengths only
abbrev pub Steps : Env → ℕ → Outcome Fault Def.RingPart → ℕ → CellSoFar → List Float → List ℕ → RingStepped → List Float → List ℕ → Type 0
Steps env edges (ok c) count cell v ix r v₁ ix₁ =
    (r.fault ≡ fault 0 0 0 0)
    × (c.tip ≡ tip_of r.tip v₁)
    × VerticesGrown (2 * edges) count r.tip.count v v₁
    × Did env (3 * edges) c.tip.verts (Short.ins c.tip.owners c.new) cell v ix r.tip.count r.tip.cell v₁ ix₁
    × CountsReused (2 * edges) c.steps r.reused
Steps env edges (refused f) count cell v ix r v₁ ix₁ = (r.fault ≡ f) × (0 < f.number)

-- the ring of len vertices that stands in the index list from place ring on
abbrev pub ring_of : List ℕ → ℕ → ℕ → List ℕ
ring_of ix ring len = take len (drop ring ix)

-- a cell with no entry yet, to be written from place base on
abbrev pub empty_at : List ℕ → ℕ → CellSoFar
empty_at owners base = record { owners = owners; end = base; last = EMPTY }

-- there is room for the cell of a ring of len vertices, some left, that stands after the cell and before the store's part
pub record RingRoom (env : Env) (count : ℕ) (cell : CellSoFar) (ring len left : ℕ) (v : List Float) (ix : List ℕ) : Type 0 where
  pub holds : Holds env.centers count v (drop env.limit ix)
  pub list : env.limit ≤ length ix
  pub ends : ring + len ≤ env.limit
  pub fits : EntryRoom env.site (3 * left) cell ring
  pub verts : 2 * (count + 2 * left) ≤ length v
  pub small : count + 2 * left ≤ 2 ^ 32
  pub corners : env.centers + 4 ≤ count
  pub sides : SidedCorners env.bounds env.centers (points count v)
  pub below : (j : ℕ) → j < len → get_or ix (ring + j) 0 < count
