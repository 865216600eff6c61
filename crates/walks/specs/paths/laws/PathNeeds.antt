-- Rules 7 to 10 give what a path needs of the mesh, rules 5 and 6 what it needs of sites and destination.
use Rattle.std.specs.Prelude.{◌≡◌, true, List, ℕ, suc, ◌+◌, ◌≤◌, ◌<◌, Float}
use Rattle.std.proofs.Common.{⊎_elim, le_refl, arith, lit≤}
use Rattle.plane.specs.points.Flat.{point_at}
use Rattle.plane.specs.points.Rules.{ok_site}
use Rattle.plane.specs.points.Finite.{BoundedPoint, site_bounded, dist2_no_nan}
use Rattle.plane.specs.declared.points.Point.{Point}
use Rattle.mesh.specs.Mesh.{leftmost_of}
use Rattle.mesh.specs.Accepted.{Topology, site_count}
use Rattle.mesh.specs.laws.Facts.{paired, entry_site, tab_length, tab_cases}
use Rattle.walks.specs.paths.Path.{dist_of}
use Rattle.walks.specs.paths.PathNeeds.{Walkable, Towards}

-- the tests that rules 7 to 10 and 16 make give what the code needs
pub ready : {tri he hull : List ℕ} {n : ℕ} → Topology tri he hull n → Walkable tri he (leftmost_of tri he n) n
ready {tri} {he} {hull} {n} t = record {
  paired = paired t;
  even = t.same;
  named = entry_site t;
  ends = λ s l h. ⊎_elim (λ q. absurd (omega (arith, (paired t).small))) (λ q. q.1) (tab_cases t s l);
  long = rw (tab_length t) (le_refl n);
}

-- no distance is a NaN where sites and goal are bounded
pub towards_within : (k : ℕ) → suc k + suc k + 1 ≤ 1023 → (sites : List Float) (p : Point)
    → ((s : ℕ) → s < site_count sites → BoundedPoint k (point_at sites s)) → BoundedPoint k p → Towards sites p (site_count sites)
unfolding dist_of
towards_within k room sites p ok to = record { room = omega arith; numbers = λ s l. dist2_no_nan k room (point_at sites s) p (ok s l) to }

-- so by rule 6 on each site and rule 5 on the destination
pub towards : (sites : List Float) (p : Point) → ((s : ℕ) → s < site_count sites → ok_site (point_at sites s) ≡ true) → ok_site p ≡ true → Towards sites p (site_count sites)
towards sites p ok to = towards_within 100 (lit≤ tt) sites p (λ s l. site_bounded (point_at sites s) (ok s l)) (site_bounded p to)
