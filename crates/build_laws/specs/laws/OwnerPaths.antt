-- A corner's owner is where a path to it ends, by the path rule. The first path starts at the first hull site, each next one at the owner before.
use Rattle.std.specs.Prelude.{◌≡◌, Float, length, get_or}
use mathlib.Core.List.{List, [], ◌∷◌}
use Prim.Native.Nat.{ℕ, zero, suc, ◌<◌}
use Rattle.std.proofs.Common.{arith}
use Rattle.std.specs.Float.{nan}
use Rattle.plane.specs.points.Plane.{at}
use Rattle.plane.specs.declared.points.Point.{Point}
use Rattle.plane.specs.boxes.Box.{corners_of}
use Rattle.plane.specs.boxes.Finite.{BoundedBox}
use Rattle.plane.specs.declared.boxes.BoundingBox.{BoundingBox}
use Rattle.mesh.specs.Mesh.{leftmost_of}
use Rattle.mesh.specs.Accepted.{mesh, Accepted, site_count}
use Rattle.walks.specs.neighbours.Neighbours.{neighbours_of}
use Rattle.walks.specs.paths.Path.{dist_of, path_end, whole_path, last_of}
use Rattle.walks.specs.paths.PathNeeds.{Walkable, Towards}
use Rattle.walks.specs.paths.laws.Used.{used_sum}
use Rattle.walks.specs.paths.laws.WholePath.{whole_runs, whole_end}
use Rattle.walks.specs.paths.PathRule.{PathFrom}
use Rattle.definition.specs.Build.{owners_from}
use Rattle.build_laws.specs.laws.Owners.{owner, ready, towards_corner}

-- o is the last entry of a path from s to p
abbrev pub PathEnds : List Float → List ℕ → List ℕ → Point → ℕ → ℕ → Type 0
PathEnds sites tri he p s o = (l : List ℕ) × PathFrom (dist_of sites p) (neighbours_of tri he (leftmost_of tri he (site_count sites))) s l × (o ≡ last_of l)

abbrev pub owners_of : List Float → List ℕ → List ℕ → ℕ → List Point → List ℕ
owners_of sites tri he s corners = owners_from sites tri he (leftmost_of tri he (site_count sites)) (site_count sites) s corners

module _ (sites : List Float) (tri he : List ℕ) (m : Walkable tri he (leftmost_of tri he (site_count sites)) (site_count sites)) where
  ends : (corners : List Point) (s : ℕ) → s < site_count sites → ((c : ℕ) → c < length corners → Towards sites (get_or corners c (at nan nan)) (site_count sites))
      → (c : ℕ) → c < length corners
      → PathEnds sites tri he (get_or corners c (at nan nan)) (get_or (s ∷ owners_of sites tri he s corners) c 0) (get_or (owners_of sites tri he s corners) c 0)
  unfolding owners_from
  ends [] s l t c h = absurd (omega arith)
  ends (p ∷ ps) s l t zero h =
      let n = site_count sites in
      let tab = leftmost_of tri he n in
      let to = t 0 (omega arith) in
      (whole_path sites tri he tab p s, whole_runs sites tri he tab p n m to s l, whole_end sites tri he tab p n m to n s l (omega (arith, used_sum tri n)))
  ends (p ∷ ps) s l t (suc c) h =
      let n = site_count sites in
      let tab = leftmost_of tri he n in
      ends ps (path_end sites tri he tab p n s) (owner sites tri he tab n m (p ∷ ps) s l t 0 (omega arith)).1 (λ d k. t (suc d) (omega arith)) c (omega arith)

module _ {sites : List Float} {tri he hull : List ℕ} (a : Accepted (mesh sites tri he hull)) {b : BoundingBox} (box : BoundedBox 101 b) where
  pub owner_path : (c : ℕ) → c < 4 → PathEnds sites tri he (get_or (corners_of b) c (at nan nan))
      (get_or (get_or hull 0 0 ∷ owners_of sites tri he (get_or hull 0 0) (corners_of b)) c 0) (get_or (owners_of sites tri he (get_or hull 0 0) (corners_of b)) c 0)
  unfolding corners_of
  owner_path c l =
      let first = (a.topology.border.fresh 0 (omega (arith, a.counts.three_on_hull))).0 in
      ends sites tri he (ready a) (corners_of b) (get_or hull 0 0) first (λ d k. towards_corner a box d k) c l
