-- The vertex store as its callers know it: the vertex slice, the count and the index list's tail hold the vertices `points count v`.
-- A caller never makes `Holds` by hand: `calculate_corners` begins it, `add_new_vertex` keeps it, and so does any write to the index list
-- before the tail, since only the tail stands in it. How a near vertex is found is the store's own affair.
use Rattle.std.specs.Prelude.{ℕ, ◌+◌, ◌-◌, ◌*◌, ◌≤◌, ◌<◌, ◌≡◌, List, Float, length, take, drop}
use Rattle.plane.specs.points.Flat.{pour}
use Rattle.plane.specs.declared.points.Point.{Point}
use Rattle.vertices.specs.Add.{Added}
use Rattle.vertices.specs.buckets.Buckets.{inserted_of, InChains}
use Rattle.vertices.specs.declared.Placed.{Placed}

-- count vertices, the first nc of them circumcenters; as many of the others as have links are chained in the tail
pub record Holds (nc count : ℕ) (v : List Float) (tail : List ℕ) : Type 0 where
  pub centers : nc ≤ count
  pub room : 2 * count ≤ length v
  pub in_chains : InChains nc (inserted_of (count - nc) (length tail)) v tail

-- v₁ is v with the vertices vs, count₁ in number, written over its beginning
pub record Poured (vs : List Point) (v : List Float) (count₁ : ℕ) (v₁ : List Float) : Type 0 where
  pub slice : v₁ ≡ pour vs v
  pub counted : count₁ ≡ length vs

-- what an operation of the store leaves of the two slices: the vertices vs over v, and the index list before the tail as it was
pub record Leaves (nc limit : ℕ) (vs : List Point) (v : List Float) (ix : List ℕ) (count₁ : ℕ) (v₁ : List Float) (ix₁ : List ℕ) : Type 0 where
  pub verts : Poured vs v count₁ v₁
  pub body : take limit ix₁ ≡ take limit ix
  pub holds : Holds nc count₁ v₁ (drop limit ix₁)

-- the answer to adding a point to count vertices, by the definition's a: its number, whether it was added or an old one reused, the count
pub record PlacedAs (count : ℕ) (a : Added) (r : Placed) : Type 0 where
  pub at : r.at ≡ a.at
  pub fresh : r.fresh ≡ a.fresh
  pub below : r.at < r.count
  pub low : count ≤ r.count
  pub high : r.count ≤ count + 1
