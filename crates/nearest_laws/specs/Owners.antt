-- Theorem: each box corner's owner is in use and of least distance over all sites in use, exactly and as computed, from any start and from the builder's own,
-- the first hull site: the accident cannot happen on a checked mesh.
use Rattle.std.specs.Prelude.{◌≡◌, true, length, get_or, Float}
use Rattle.std.proofs.Common.{sym, subst, arith}
use mathlib.Core.List.{List, [], ◌∷◌}
use Prim.Native.Nat.{ℕ, zero, suc, ◌+◌, ◌*◌, ◌^◌, ◌<◌, ◌≤◌}
use Rattle.std.specs.Float.{nan}
use Rattle.plane.specs.points.Flat.{point_at}
use Rattle.plane.specs.points.Plane.{at}
use Rattle.plane.specs.points.Rules.{ok_site}
use Rattle.plane.specs.declared.points.Point.{Point}
use Rattle.plane.specs.boxes.Box.{corners_of}
use Rattle.plane.specs.declared.boxes.BoundingBox.{BoundingBox}
use Rattle.mesh.specs.Mesh.{Used, leftmost_of}
use Rattle.mesh.specs.Accepted.{mesh, Accepted, site_count}
use Rattle.mesh.specs.laws.Facts.{topology, start_used}
use Rattle.walks.specs.paths.Path.{path_end}
use Rattle.definition.specs.Build.{owners_from}
use Rattle.nearest_laws.specs.Nearest.{far_from, Checked}
use Rattle.nearest_laws.specs.Ends.{Multiple, Closest, path_nearest, end_is, end_used}

module _ {sites : List Float} {tri he hull : List ℕ} (a : Accepted (mesh sites tri he hull)) (X Y : ℕ → ℕ) (good : Checked (topology a) X Y)
    (k K : ℕ) (two : k + k ≤ 1074) (lK : K < 2 ^ 51)
    (whole : (v : ℕ) → v < site_count sites → Multiple k K (point_at sites v).x (2 ^ k * X v) × Multiple k K (point_at sites v).y (2 ^ k * Y v))
  where
    -- a destination on the grid of 2^-k, not too far from any site
    pub record Goal (p : Point) : Type 0 where
      pub px : ℕ
      pub py : ℕ
      pub at_x : Multiple k K p.x px
      pub at_y : Multiple k K p.y py
      pub near : (v : ℕ) → v < site_count sites → far_from (2 ^ k) px py (X v) (Y v) < 2 ^ 53

    abbrev n : ℕ
    n = site_count sites

    abbrev tab : List ℕ
    tab = leftmost_of tri he n

    -- a nearest site in use
    abbrev pub Own : (p : Point) → Goal p → ℕ → Type 0
    Own p g = Closest a X Y good k K two lK whole p g.px g.py g.at_x g.at_y g.near

    pub path_owns : (p : Point) (g : Goal p) (s : ℕ) → Used tri s → Own p g (path_end sites tri he tab p n s)
    path_owns p g s u =
        subst (Own p g) (sym (end_is a X Y good k K two lK whole p g.px g.py g.at_x g.at_y g.near s u))
        (path_nearest a X Y good k K two lK whole p g.px g.py g.at_x g.at_y g.near s u)

    -- of the corners before it is asked that they keep rule 6
    pub owners_nearest : (corners : List Point) → ((c : ℕ) → c < length corners → ok_site (get_or corners c (at nan nan)) ≡ true) → (s : ℕ) → Used tri s → (c : ℕ)
        → c < length corners → (g : Goal (get_or corners c (at nan nan))) → Own (get_or corners c (at nan nan)) g (get_or (owners_from sites tri he tab n s corners) c 0)
    unfolding owners_from
    owners_nearest [] kept s u c l g = absurd (omega arith)
    owners_nearest (p ∷ ps) kept s u zero l g = path_owns p g s u
    owners_nearest (p ∷ ps) kept s u (suc c) l g =
        owners_nearest ps (λ d h. kept (suc d) (omega arith)) (path_end sites tri he tab p n s) (end_used a p (kept 0 (omega arith)) s u) c (omega arith) g

    first : Used tri (get_or hull 0 0)
    first = let o = a.topology.border.edges 0 (omega (arith, a.counts.three_on_hull)) in subst (Used tri) o.3 (start_used (topology a) o.0 o.1)

    pub build_owners : (b : BoundingBox) → ((c : ℕ) → c < 4 → ok_site (get_or (corners_of b) c (at nan nan)) ≡ true) → (c : ℕ) → c < 4 → (g : Goal (get_or (corners_of b) c (at nan nan)))
        → Own (get_or (corners_of b) c (at nan nan)) g (get_or (owners_from sites tri he tab n (get_or hull 0 0) (corners_of b)) c 0)
    unfolding corners_of
    build_owners b kept = owners_nearest (corners_of b) kept (get_or hull 0 0) first
