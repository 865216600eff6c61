-- The rings that are tried: each has a vertex, no more of them than its site's share, and all of them are vertices already, circumcenters or extensions.
use Rattle.std.specs.Prelude.{◌≡◌, ℕ, zero, suc, ◌+◌, ◌-◌, ◌/◌, ◌≤◌, ◌<◌, eqb}
use Rattle.std.proofs.Common.{sym, subst, arith}
use mathlib.Core.List.{List, [], ◌∷◌, ◌++◌}
use Rattle.std.proofs.Math.ListN.{length, get_or, length-append, get_or-map}
use Rattle.std.proofs.lemmas.List.{length-map}
use Rattle.mesh.specs.Mesh.{walk_of, whole_of, Paired}
use Rattle.mesh.specs.Accepted.{TopologyWith}
use Rattle.mesh.specs.laws.WalkSteps.{walk_go}
use Rattle.mesh.specs.laws.Walks.{walk_ends}
use Rattle.mesh.specs.laws.Occurs.{occ_there}
use Rattle.definition.specs.Build.{ring_from, hull_ring, Extensions}
use Rattle.definition.specs.laws.Gives.{picked}
use Rattle.build_laws.specs.laws.Start.{Beyond}
use Rattle.cell_builder.specs.tried.laws.RingShort.{ring_short}

-- of a walk
module _ {tri he : List ℕ} (ok : Paired tri he) (e : ℕ) where
  pub ring_below : (j : ℕ) → j < length (ring_from he e) → get_or (ring_from he e) j 0 < length he / 3
  ring_below j l =
      let lj : j < length (whole_of he e) = rw (length-map (whole_of he e) (λ f. f / 3)) at l in
      let b = (walk_ends tri he ok e (length he) e (get_or (whole_of he e) j 0) (occ_there (whole_of he e) j lj)).0 in
      omega (arith, get_or-map (λ f. f / 3) (whole_of he e) j 0, b, ok.threes)

  pub ring_some : e < length he → 0 < length (ring_from he e)
  ring_some h =
      let q : length he ≡ suc (length he - 1) = omega arith in
      rw (length-map (whole_of he e) (λ f. f / 3)) (subst (λ (k : ℕ). 0 < length (walk_of he e k e)) (sym q) (rw (walk_go he e (length he - 1) e h) (omega arith)))

-- ---- lists of numbers below n
abbrev pub Below : ℕ → List ℕ → Type 0
Below n l = (j : ℕ) → j < length l → get_or l j 0 < n

below_cons : (n y : ℕ) (l : List ℕ) → y < n → Below n l → Below n (y ∷ l)
below_cons n y l h b zero k = h
below_cons n y l h b (suc j) k = b j (omega arith)

below_append : (n : ℕ) (l m : List ℕ) → Below n l → Below n m → Below n (l ++ m)
below_append n [] m a b = b
below_append n (y ∷ l) m a b = below_cons n y (l ++ m) (a 0 (omega arith)) (below_append n l m (λ j k. a (suc j) (omega arith)) b)

below_one : (n y : ℕ) → y < n → Below n (y ∷ [])
below_one n y h = below_cons n y [] h (λ j k. absurd (omega arith))

-- of a hull place: two extensions beside the walk
module _ (tri he hull table : List ℕ) (x : Extensions) (i : ℕ) where
  pub hull_some : 0 < length (hull_ring he hull table x.at i)
  unfolding hull_ring
  hull_some = picked (λ (l : List ℕ). 0 < length l) (eqb i 0) _ _ (λ t. omega arith) (λ t. omega arith)

  pub hull_below : Paired tri he → length he ≡ length tri → Beyond (length tri / 3) x → length x.at ≡ length hull
      → length tri / 3 ≤ length x.verts → i < length hull → Below (length x.verts) (hull_ring he hull table x.at i)
  unfolding hull_ring
  hull_below ok same beyond counted low h =
      let ring = ring_from he (get_or table (get_or hull i 0) 0) in
      let n = length x.verts in
      let r : Below n ring = λ j l. omega (arith, ring_below ok _ j l, same) in
      picked (Below n) (eqb i 0) _ _
      (λ t. below_cons n (get_or x.at 0 0) (get_or x.at (length hull - 1) 0 ∷ ring) (beyond 0 (omega (arith, counted))).1
      (below_cons n (get_or x.at (length hull - 1) 0) ring (beyond (length hull - 1) (omega (arith, counted))).1 r))
      (λ t. below_append n (get_or x.at (i - 1) 0 ∷ ring) (get_or x.at i 0 ∷ [])
      (below_cons n (get_or x.at (i - 1) 0) ring (beyond (i - 1) (omega (arith, counted))).1 r) (below_one n (get_or x.at i 0) (beyond i (omega (arith, counted))).1))

  pub hull_short : {Fans : Type 0} {n : ℕ} → TopologyWith Fans tri he hull n → length (hull_ring he hull table x.at i) ≤ length tri / 3 + 2
  unfolding hull_ring
  hull_short top =
      let e = get_or table (get_or hull i 0) 0 in
      let r = ring_short top e in
      picked (λ (l : List ℕ). length l ≤ length tri / 3 + 2) (eqb i 0) _ _
      (λ t. omega arith)
      (λ t. omega (arith, length-append (ring_from he e) (get_or x.at i 0 ∷ [])))

  -- the numbers may stand elsewhere
  pub hull_same : (xs : List ℕ) → i < length hull → ((j : ℕ) → j < length hull → get_or xs j 0 ≡ get_or x.at j 0) → hull_ring he hull table xs i ≡ hull_ring he hull table x.at i
  unfolding hull_ring
  hull_same xs h same = rw (same 0 (omega arith), same (length hull - 1) (omega arith), same (i - 1) (omega arith), same i h)
