-- Theorem: the room always suffices. On an accepted mesh the lists of all sites have together no more entries than there are triangle entries and hull sites:
-- a site's list has an entry for each half-edge that ends there, of which there are as many as the triangle list names the site, and on the hull one more.
use Rattle.std.specs.Prelude.{◌≡◌, Bool}
use Rattle.std.proofs.Math.Path.{refl, sym, ap}
use Rattle.std.proofs.Common.{◌∙◌, ⊎_elim, eqb-true}
use Rattle.std.proofs.Math.Bool.{true, false}
use mathlib.Core.List.{List, [], ◌∷◌}
use Prim.Native.Nat.{ℕ, zero, suc, ◌+◌, ◌≤◌, ◌<◌}
use native.Mathlib.Omega.{arith}
use Rattle.std.proofs.Math.Dec.{eqb}
use Rattle.std.proofs.Math.ListN.{length, get_or, length-append}
use Rattle.base.specs.common.Pick.{pick}
use Rattle.base.specs.common.Count.{occ, sum_to}
use Rattle.base.specs.common.laws.Count.{same_cases, occ_sum, below_occ}
use Rattle.base.specs.numbers.Numbers.{EMPTY}
use Rattle.mesh.specs.Mesh.{next_of, start_of, end_of, pair_of, around, whole_of, leftmost_of}
use Rattle.mesh.specs.Accepted.{Mesh, Topology, Accepted, table_of, site_count}
use Rattle.mesh.specs.laws.Border.{hull_border}
use Rattle.mesh.specs.laws.Degree.{walk_degree}
use Rattle.mesh.specs.laws.Facts.{topology, paired, next_in, entry_site, tab_cases, walk_only}
use Rattle.mesh.specs.laws.Occurs.{occ_there}
use Rattle.mesh.specs.laws.WalkSteps.{walk_done}
use Rattle.walks.specs.shared.Cells.{share_edge_of}
use Rattle.walks.specs.neighbours.Neighbours.{last_end, starts_of}
use Rattle.walks.specs.neighbours.laws.Neighbours.{sites_from, starts_cons}
use Rattle.queries.specs.clipped.Clipped.{kept_of, clipped_from, clipped_first, clipped_of}
use Rattle.cell_memory.specs.layout.Regions.{joined}
use Rattle.queries.specs.all_neighbours.Lists.{nothing_lent, list_from, list_of, all_neighbours}
use Rattle.queries.specs.all_neighbours.laws.Lists.{end_sum}

-- ---- clipping adds no entry
module _ (keeps : ℕ → Bool) where
  kept_few : (l : List ℕ) → length (kept_of keeps l) ≤ length l
  unfolding kept_of
  kept_few [] = omega arith
  kept_few (x ∷ l) = go (keeps x) (kept_few l)
    where
      go : (b : Bool) → length (kept_of keeps l) ≤ length l → length (pick b (λ _. x ∷ kept_of keeps l) (λ _. kept_of keeps l)) ≤ suc (length l)
      go true h = omega arith
      go false h = omega arith

  module _ (tri he : List ℕ) where
    from_few : (l : ℕ) (es : List ℕ) → length (clipped_from tri he keeps l es) ≤ length (sites_from tri he l es)
    unfolding clipped_from sites_from
    from_few l [] = kept_few (last_end tri he l)
    from_few l (e ∷ es) = omega (arith, from_few e es)

    first_few : (e : ℕ) → length (clipped_first tri he keeps e) ≤ 1
    unfolding clipped_first
    first_few e = go (eqb (pair_of he e) EMPTY)
      where
        go : (b : Bool) → length (pick b (λ _. kept_of keeps (start_of tri e ∷ [])) (λ _. start_of tri e ∷ [])) ≤ 1
        go true = kept_few (start_of tri e ∷ [])
        go false = omega arith

    clipped_few : (es : List ℕ) → length (clipped_of tri he keeps es) ≤ length (starts_of tri he es)
    unfolding clipped_of
    clipped_few [] = omega arith
    clipped_few (e ∷ es) =
        omega (arith, length-append (clipped_first tri he keeps e) (clipped_from tri he keeps e es), first_few e, from_few e es, ap length (starts_cons tri he e es))

list_few : (tri he off ix : List ℕ) (s e : ℕ) → length (list_from tri he off ix s e) ≤ length (starts_of tri he (whole_of he e))
unfolding list_from
list_few tri he off ix s e = go (nothing_lent (length off) (length ix))
  where
    go : (b : Bool) → length (pick b (λ _. starts_of tri he (whole_of he e)) (λ _. clipped_of tri he (share_edge_of off ix s) (whole_of he e))) ≤ length (starts_of tri he (whole_of he e))
    go true = omega arith
    go false = clipped_few (share_edge_of off ix s) tri he (whole_of he e)

-- ---- the list of one site
module _ {tri he hull : List ℕ} {n : ℕ} (t : Topology tri he hull n) (s : ℕ) where
  abbrev Ends : ℕ → Type 0
  Ends e = (e < length he) × (end_of tri e ≡ s)

  -- an end is added only where an unpaired half-edge starts at the site, which then stands in the hull
  end_few : (e : ℕ) → Ends e → length (last_end tri he e) ≤ occ s hull
  unfolding last_end
  end_few e (l, q) = go (eqb (around he e) EMPTY) refl
    where
      go : (b : Bool) → eqb (around he e) EMPTY ≡ b → length (pick {A = List ℕ} b (λ _. end_of tri (next_of e) ∷ []) (λ _. [])) ≤ occ s hull
      go false h = omega arith
      go true h =
          let b = (hull_border tri he hull n t.border (next_of e) (next_in t l) (eqb-true (around he e) EMPTY h)).0 in
          let there : 0 < occ (get_or hull b.0 0) hull = occ_there hull b.0 b.1 in
          let p : get_or hull b.0 0 ≡ s = sym b.2 ∙ q in
          omega (arith, rw p at there)

  sites_few : (e : ℕ) (es : List ℕ) → Ends e → ((v : ℕ) → 0 < occ v es → Ends v) → length (sites_from tri he e es) ≤ length es + occ s hull
  unfolding sites_from
  sites_few e [] l all = omega (arith, end_few e l)
  sites_few e (f ∷ es) l all =
      omega (arith, sites_few f es (all f (⊎_elim (λ w. omega (arith, w.1)) (λ w. absurd (w.0 refl)) (same_cases f f))) (λ v h. all v (omega arith)))

  starts_few : (es : List ℕ) → ((v : ℕ) → 0 < occ v es → Ends v) → length (starts_of tri he es) ≤ length es + occ s hull
  unfolding starts_of
  starts_few [] all = omega arith
  starts_few (e ∷ es) all =
      omega (
        arith,
        ap length (starts_cons tri he e es),
        sites_few e es (all e (⊎_elim (λ w. omega (arith, w.1)) (λ w. absurd (w.0 refl)) (same_cases e e))) (λ v h. all v (omega arith)),
      )

  walk_few : s < n → length (whole_of he (get_or (leftmost_of tri he n) s 0)) ≤ occ s tri
  walk_few h =
      let e = get_or (leftmost_of tri he n) s 0 in
      ⊎_elim
      (λ q. omega (arith, ap length (walk_done he e (length he) e (omega (arith, (paired t).small)))))
      (λ q. rw q.1 at (walk_degree tri he (paired t) t.same e))
      (tab_cases t s h)

  site_few : (off ix : List ℕ) → s < n → length (list_of tri he (leftmost_of tri he n) off ix s) ≤ occ s tri + occ s hull
  site_few off ix h =
      let e = get_or (leftmost_of tri he n) s 0 in
      omega (arith, list_few tri he off ix s e, starts_few (whole_of he e) (walk_only t s h), walk_few h)

-- ---- all lists
sum_few : (u v w : ℕ → ℕ) (n : ℕ) → ((k : ℕ) → k < n → u k ≤ v k + w k) → sum_to u n ≤ sum_to v n + sum_to w n
sum_few u v w zero h = omega arith
sum_few u v w (suc n) h = omega (arith, sum_few u v w n (λ k l. h k (omega arith)), h n (omega arith))

pub room_suffices : {m : Mesh} → Accepted m → (off ix : List ℕ) → length (joined (all_neighbours m off ix)) ≤ length m.triangles + length m.hull
room_suffices {m} a off ix =
    let t = topology a in
    let n = site_count m.sites in
    let f = list_of m.triangles m.halfedges (table_of m) off ix in
    omega (
      arith,
      end_sum f n,
      sum_few (λ s. length (f s)) (λ s. occ s m.triangles) (λ s. occ s m.hull) n (λ s h. site_few t s off ix h),
      occ_sum n m.triangles (below_occ m.triangles n (entry_site t)),
      occ_sum n m.hull (below_occ m.hull n (λ i h. (t.border.fresh i h).0)),
    )
