-- What the pass over the hull's edges answers, by the definition's outcome.
use Rattle.std.specs.Prelude.{◌≡◌, List, ℕ, ◌+◌, ◌*◌, ◌/◌, ◌%◌, ◌^◌, ◌≤◌, ◌<◌, Float, length, get_or, take, drop}
use Rattle.std.proofs.lemmas.List.Edits.{sets}
use Rattle.base.specs.common.Binary64.{◌⊞◌, ◌⊟◌, ◌⊠◌, ◌⊘◌, one}
use Rattle.root.specs.Sqrt.{sqrt_of}
use Rattle.plane.specs.points.Plane.{at}
use Rattle.plane.specs.points.Flat.{point_at}
use Rattle.plane.specs.declared.points.Point.{Point}
use Rattle.vertices.specs.Store.{Holds, Poured}
use Rattle.base.specs.numbers.Numbers.{refused_extension}
use Rattle.definition.specs.declared.Fault.{Fault}
use Rattle.definition.specs.Fault.{Outcome, ok, refused}
use Rattle.mesh.specs.Mesh.{start_of, end_of}
use Rattle.mesh.specs.Hull.{next_place, next_site}
use Rattle.definition.specs.Cell.{vertex_at}
use Rattle.definition.specs.Build.{infinity, extended, Extensions}
use Rattle.definition.specs.Short.{fault}
use Rattle.definition.specs.Reused.{reused, reused_in}
use Rattle.cell_builder.specs.rings.Centers.{Named}
use Rattle.cell_builder.specs.declared.rings.extensions.Ray.{Ray}
use Rattle.cell_builder.specs.declared.rings.extensions.Passed.{Passed}

-- from c, orthogonally to the edge from a to b
unfoldable pub ray_of : Point → Point → Point → Ray
ray_of c a b = record { start = c; x = a.y ⊟ b.y; y = b.x ⊟ a.x }

-- from the circumcenter of half-edge e, orthogonally to it
abbrev pub ray_over : List Float → List ℕ → List Point → ℕ → Ray
ray_over sites tri vs e = ray_of (vertex_at vs (e / 3)) (point_at sites (start_of tri e)) (point_at sites (end_of tri e))

-- far along a ray whose direction has length l
unfoldable pub far_along : Ray → Float → Point
far_along r l =
    let k = one ⊘ l in
    at (r.start.x ⊞ r.x ⊠ k ⊠ infinity) (r.start.y ⊞ r.y ⊠ k ⊠ infinity)

abbrev pub extended_ray : Ray → Point
extended_ray r = far_along r (sqrt_of (r.x ⊠ r.x ⊞ r.y ⊠ r.y))

-- the half-edge over which hull place i is extended
abbrev pub edge_at : List ℕ → List ℕ → ℕ → ℕ
edge_at hull table i = get_or table (next_site hull i) 0

-- each hull site has an entry in the table
abbrev pub Hulled : List ℕ → List ℕ → Type 0
Hulled hull table = (i : ℕ) → i < length hull → get_or hull i 0 < length table

-- what the pass needs: triangles that name sites, nc of them, and for each hull site its leftmost half-edge
pub record Extends (sites : List Float) (tri hull table : List ℕ) (nc : ℕ) : Type 0 where
  pub named : Named sites tri
  pub threes : length tri ≡ 3 * nc
  pub hulled : Hulled hull table
  pub edges : (i : ℕ) → i < length hull → get_or table (get_or hull i 0) 0 < length tri

-- and count vertices that begin with the circumcenters
pub record HullReached (sites : List Float) (tri hull table : List ℕ) (v : List Float) (count : ℕ) : Type 0 where
  pub nc : ℕ
  pub extends : Extends sites tri hull table nc
  pub centers : nc ≤ count
  pub room : 2 * count ≤ length v

-- at every second hull place its extension was worked out before
abbrev pub PointAhead : List Float → List ℕ → List ℕ → List ℕ → List Point → ℕ → Point → Type 0
PointAhead sites tri hull table vs i p = i < length hull → i % 2 ≡ 1 → p ≡ extended sites tri vs (edge_at hull table i)

-- the extension of hull place i, and at the others the one of the place after it
pub record PointsFrom (sites : List Float) (tri hull table : List ℕ) (vs : List Point) (i : ℕ) (r : Point × Point) : Type 0 where
  pub first : r.0 ≡ extended sites tri vs (edge_at hull table i)
  pub second : i % 2 ≡ 0 → r.1 ≡ extended sites tri vs (edge_at hull table (next_place (length hull) i))

-- and of the two lent lists: count vertices with room for one more for each hull place, and a place for each number before the store's part
pub record ExtendsInto (sites : List Float) (tri hull table : List ℕ) (nc count limit at : ℕ) (v : List Float) (ix : List ℕ) : Type 0 where
  pub extends : Extends sites tri hull table nc
  pub holds : Holds nc count v (drop limit ix)
  pub room_v : 2 * (count + length hull) ≤ length v
  pub small : count + length hull < 2 ^ 32
  pub room_ix : at + length hull ≤ limit
  pub limited : limit ≤ length ix
  pub small_ix : limit < 2 ^ 32

-- all extensions are there: their vertices, how many of them took one again, and from `at` on their numbers; the index list before `limit` is else as it was
pub record ExtensionsPut (nc limit at : ℕ) (x : Extensions) (v : List Float) (ix : List ℕ) (r : Passed) (v₁ : List Float) (ix₁ : List ℕ) : Type 0 where
  pub verts : Poured x.verts v r.count v₁
  pub reused : reused r.reused 0 0 ≡ reused_in x.steps
  pub numbers : take limit ix₁ ≡ sets (take limit ix) at x.at
  pub holds : Holds nc r.count v₁ (drop limit ix₁)

-- of h hull places: all of them, or the lowest whose extension is not finite
abbrev pub ExtendedBy : Outcome Fault Extensions → ℕ → ℕ → ℕ → ℕ → List Float → List ℕ → Passed → List Float → List ℕ → Type 0
ExtendedBy (ok x) h nc limit at v ix r v₁ ix₁ = (r.place ≡ h) × (length x.at ≡ h) × ExtensionsPut nc limit at x v ix r v₁ ix₁
ExtendedBy (refused f) h nc limit at v ix r v₁ ix₁ = (f ≡ fault refused_extension r.place 0 0) × (r.place < h)
