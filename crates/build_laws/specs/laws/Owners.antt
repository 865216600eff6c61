-- A corner's owner is the last entry of the whole path to it, begun where the path to the corner before ended.
use Rattle.std.specs.Prelude.{◌≡◌, refl, eqb, Float, length, get_or}
use Rattle.std.proofs.Common.{ap, ⊎_elim, arith, lit≤}
use Rattle.std.proofs.Math.Path.{subst}
use mathlib.Core.List.{List, [], ◌∷◌}
use Prim.{tt}
use Prim.Native.Nat.{ℕ, zero, suc, ◌<◌}
use Rattle.std.specs.Float.Ieee.{nan}
use Rattle.base.specs.common.laws.Decide.{eq_or_ne}
use Rattle.plane.specs.points.Plane.{at}
use Rattle.plane.specs.points.Flat.{point_at}
use Rattle.plane.specs.points.Finite.{point_weaken, site_bounded, dist2_no_nan}
use Rattle.plane.specs.declared.points.Point.{Point}
use Rattle.plane.specs.boxes.Box.{corners_of}
use Rattle.plane.specs.boxes.Finite.{BoundedBox, corner_bounded}
use Rattle.plane.specs.declared.boxes.BoundingBox.{BoundingBox}
use Rattle.mesh.specs.Accepted.{Mesh, table_of, AcceptedWith, site_count}
use Rattle.mesh.specs.laws.Facts.{topology, paired, entry_site, tab_length, tab_cases}
use Rattle.walks.specs.paths.Path.{dist_of, hop_of, path_end, whole_path, last_of}
use Rattle.walks.specs.paths.PathNeeds.{Walkable, Towards}
use Rattle.walks.specs.paths.laws.Used.{used_sum}
use Rattle.mesh.specs.laws.Occurs.{occ_below}
use Rattle.walks.specs.paths.laws.WholePath.{goes_used, whole_end}
use Rattle.definition.specs.Build.{owners_from}
use Rattle.definition.specs.laws.Gives.{picked}
use Rattle.build_laws.specs.Wrapping.{corner_paths}

pub owners_length : (sites : List Float) (tri he table : List ℕ) (n s : ℕ) (corners : List Point) → length (owners_from sites tri he table n s corners) ≡ length corners
unfolding owners_from
owners_length sites tri he table n s [] = refl
owners_length sites tri he table n s (p ∷ ps) = ap suc (owners_length sites tri he table n (path_end sites tri he table p n s) ps)

module _ (sites : List Float) (tri he table : List ℕ) (n : ℕ) (m : Walkable tri he table n) where
  hop_below : (p : Point) (s : ℕ) → Towards sites p n → s < n → hop_of sites tri he table p s < n
  hop_below p s t l =
      ⊎_elim
      (λ e. rw e l)
      (λ e. occ_below tri n _ m.named (goes_used sites tri he table p n m t s l e))
      (eq_or_ne (hop_of sites tri he table p s) s)

  end_below : (p : Point) (k s : ℕ) → Towards sites p n → s < n → path_end sites tri he table p k s < n
  unfolding path_end
  end_below p zero s t l = l
  end_below p (suc k) s t l =
      picked (λ (r : ℕ). r < n) (eqb (hop_of sites tri he table p s) s) _ _
      (λ e. l)
      (λ e. end_below p k (hop_of sites tri he table p s) t (hop_below p s t l))

  pub owner : (corners : List Point) (s : ℕ) → s < n → ((c : ℕ) → c < length corners → Towards sites (get_or corners c (at nan nan)) n) → (c : ℕ)
      → c < length corners → (get_or (owners_from sites tri he table n s corners) c 0 ≡ last_of (get_or (corner_paths sites tri he table s corners) c []))
      × (get_or (owners_from sites tri he table n s corners) c 0 < n)
  unfolding owners_from corner_paths
  owner [] s l t c h = absurd (omega arith)
  owner (p ∷ ps) s l t zero h = (whole_end sites tri he table p n m (t 0 (omega arith)) n s l (omega (arith, used_sum tri n)), end_below p n s (t 0 (omega arith)) l)
  owner (p ∷ ps) s l t (suc c) h =
      let o = path_end sites tri he table p n s in
      let e : o ≡ last_of (whole_path sites tri he table p s) = whole_end sites tri he table p n m (t 0 (omega arith)) n s l (omega (arith, used_sum tri n)) in
      subst (λ (v : ℕ). (get_or (owners_from sites tri he table n o ps) c 0 ≡ last_of (get_or (corner_paths sites tri he table v ps) c [])) × (get_or (owners_from sites tri he table n o ps) c 0 < n)) e
      (owner ps o (end_below p n s (t 0 (omega arith)) l) (λ d k. t (suc d) (omega arith)) c (omega arith))

-- on a mesh that the rules up to 9 accept, with a box that rule 3 admits
module _ {Fans : Type 0} {m : Mesh} (a : AcceptedWith Fans m) where
  pub ready : Walkable m.triangles m.halfedges (table_of m) (site_count m.sites)
  ready =
      let ok = topology a in
      record {
        paired = paired ok;
        even = ok.same;
        named = entry_site ok;
        ends = λ s l h. ⊎_elim (λ q. absurd (omega (arith, q, ok.small, ok.same))) (λ q. q.1) (tab_cases ok s l);
        long = omega (arith, tab_length ok);
      }

  pub towards_corner : {b : BoundingBox} → BoundedBox 101 b → (c : ℕ) → c < 4 → Towards m.sites (get_or (corners_of b) c (at nan nan)) (site_count m.sites)
  unfolding dist_of
  towards_corner {b} h c l = record {
    room = omega arith;
    numbers = λ s k. dist2_no_nan 101 (lit≤ tt) (point_at m.sites s) (get_or (corners_of b) c (at nan nan))
        (point_weaken (lit≤ tt) (site_bounded (point_at m.sites s) (a.coordinates s k))) (corner_bounded h c l);
  }
