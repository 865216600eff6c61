-- All cells of a mesh that rules 7 to 10 accept: hull sites are distinct, so each is tried with an empty cell, and a ring has no more vertices than its site's share,
-- the half-edges that end there and two more on the hull. So what CellsSoFar says holds from the start to the end of the build.
use Rattle.std.specs.Prelude.{◌≡◌, refl, true, ◌≢◌, eqb, set, replicate}
use Rattle.std.proofs.Common.{sym, ap, ◌∙◌, inl, arith}
use mathlib.Core.List.{List, [], ◌∷◌}
use Rattle.std.proofs.Math.Logic.{⊎_elim}
use Prim.Native.Nat.{ℕ, zero, suc, ◌+◌, ◌*◌, ◌/◌, ◌≤◌, ◌<◌}
use Rattle.std.proofs.Math.ListN.{length, get_or, length-append}
use Rattle.std.proofs.lemmas.List.{length-map, length-replicate}
use Rattle.base.specs.common.Pick.{pick}
use Rattle.base.specs.common.laws.Decide.{lt_or_ge}
use Rattle.base.specs.common.Count.{occ}
use Rattle.base.specs.numbers.Numbers.{EMPTY}
use Rattle.plane.specs.declared.points.Point.{Point}
use Rattle.plane.specs.declared.boxes.BoundingBox.{BoundingBox}
use Rattle.mesh.specs.Mesh.{end_of, leftmost_of, whole_of}
use Rattle.mesh.specs.Accepted.{TopologyWith}
use Rattle.mesh.specs.laws.Facts.{paired, end_site, tab_cases}
use Rattle.mesh.specs.laws.WalkSteps.{walk_done}
use Rattle.mesh.specs.laws.Degree.{walk_degree}
use Rattle.mesh.specs.laws.Occurs.{occ_there}
use Rattle.definition.specs.Fault.{ok, and_then}
use Rattle.definition.specs.Cell.{plain, Entry, entry, Taken}
use Rattle.definition.specs.Build.{ring_from, hull_ring, Extensions, CellState, clip_into, clip_hull, is_empty, clip_rest, clip_all, wrapped_in, all_wrapped}
use Rattle.definition.specs.Short.{cell_state}
use Rattle.definition.specs.laws.Gives.{Gives, gives_map, gives_then, picked}
use Rattle.definition.specs.Measures.{weigh, share_of}
use Rattle.build_laws.specs.laws.Grown.{grown_none}
use Rattle.build_laws.specs.laws.Weigh.{weigh_le, weigh_put, share, share_occ, share_double}
use Rattle.build_laws.specs.laws.CellsSoFar.{filled_share, CellsSoFar, clip_into_lem}

-- ---- shares

-- together they are at most 3T + 2H
pub shares : (tri hull : List ℕ) (cs : List (List Entry)) → weigh (share (share_of tri hull)) 0 cs ≤ length tri + 2 * length hull
shares tri hull cs =
    omega (arith, share_double (λ s. occ s tri) (λ s. occ s hull) 0 cs, share_occ tri 0 cs, share_occ hull 0 cs)

pub filled_le : (u : ℕ → ℕ) (i : ℕ) (c : List Entry) → filled_share u i c ≤ u i
filled_le u i [] = omega arith
filled_le u i (e ∷ es) = omega arith

pub all_filled : (tri hull : List ℕ) (cs : List (List Entry)) → weigh (filled_share (share_of tri hull)) 0 cs ≤ length tri + 2 * length hull
all_filled tri hull cs = omega (arith, weigh_le (filled_share (share_of tri hull)) (share (share_of tri hull)) 0 cs (filled_le (share_of tri hull)), shares tri hull cs)

module _ {Fans : Type 0} {tri he hull : List ℕ} {n : ℕ} (top : TopologyWith Fans tri he hull n) where
  -- a ring at a site has no more vertices than half-edges end there
  pub ring_share : (s e : ℕ) → (e < length he → end_of tri e ≡ s) → length (ring_from he e) ≤ occ s tri
  ring_share s e h =
      let q = length-map (whole_of he e) (λ f. f / 3) in
      ⊎_elim
      (λ l. rw (← h l) (omega (arith, walk_degree tri he (paired top) top.same e)))
      (λ l. omega (arith, ap length (walk_done he e (length he) e l)))
      (lt_or_ge e (length he))

  pub hull_share : (xs : List ℕ) (i : ℕ) → i < length hull → length (hull_ring he hull (leftmost_of tri he n) xs i) ≤ share_of tri hull (get_or hull i 0)
  unfolding hull_ring
  hull_share xs i h =
      let s = get_or hull i 0 in
      let e = get_or (leftmost_of tri he n) s 0 in
      let r = ring_share s e (λ l. ⊎_elim (λ q. absurd (omega (arith, q, top.small, top.same))) (λ q. q.1) (tab_cases top s (top.border.fresh i h).0)) in
      let o = occ_there hull i h in
      picked (λ (l : List ℕ). length l ≤ share_of tri hull s) (eqb i 0) _ _
      (λ t. omega arith)
      (λ t. omega (arith, length-append (ring_from he e) (get_or xs i 0 ∷ [])))

-- ---- the loops

pub is_empty_lem : (c : List Entry) → is_empty c ≡ true → c ≡ []
is_empty_lem [] h = refl
is_empty_lem (e ∷ es) h = let z : ◌≡◌ {A = ℕ} 0 1 = cc in absurd (omega arith)

module _ {Fans : Type 0} {tri he hull : List ℕ} {n : ℕ} (top : TopologyWith Fans tri he hull n) (few : n < EMPTY) (b : BoundingBox) (nc : ℕ) (vs : List Point)
    (found : List ℕ) (begun : List Taken) (room : nc + 4 ≤ length vs) where
  abbrev Good : CellState → Type 0
  Good s = CellsSoFar b nc n (share_of tri hull) vs found begun s

  -- before each try there is room for two vertices for each vertex of its ring
  pub spare : (s : CellState) (site : ℕ) → Good s → site < n → get_or s.cells site [] ≡ []
      → length s.verts + 2 * share_of tri hull site ≤ length vs + 2 * (length tri + 2 * length hull)
  spare s site h l empty =
      let e = entry plain 0 ∷ [] in
      omega (arith, h.grown.longer, h.twos, weigh_put (filled_share (share_of tri hull)) s.cells site e (rw h.width l) empty refl, all_filled tri hull (set s.cells site e))

  module _ (xs : List ℕ) where
    hull_loop : (k i : ℕ) (s : CellState) → i + k ≡ length hull → Good s → ((j : ℕ) → i ≤ j → j < length hull → get_or s.cells (get_or hull j 0) [] ≡ [])
        → Gives Good (clip_hull b nc he hull (leftmost_of tri he n) xs i k s)
    unfolding clip_hull
    hull_loop zero i s q h empty = h
    hull_loop (suc k) i s q h empty =
        let site = get_or hull i 0 in
        let f = top.border.fresh i (omega arith) in
        gives_then (λ (r : CellState). Good r × ((k : ℕ) → k ≢ site → get_or r.cells k [] ≡ get_or s.cells k [])) Good
        (clip_into b nc site (hull_ring he hull (leftmost_of tri he n) xs i) s) _
        (clip_into_lem b nc n (share_of tri hull) vs found begun room site (omega (arith, f.0)) f.0 (hull_ring he hull (leftmost_of tri he n) xs i)
        (hull_share top xs i (omega arith)) s h (empty i (omega arith) (omega arith)))
        (λ r w. hull_loop k (suc i) r (omega arith) w.0 (λ j lo hi. w.1 (get_or hull j 0) (λ z. (top.border.fresh j hi).1 i lo (sym z)) ∙ empty j (omega arith) hi))

  rest_loop : (k e : ℕ) (s : CellState) → e + k ≡ length tri → Good s → Gives Good (clip_rest b nc tri he e k s)
  unfolding clip_rest
  rest_loop zero e s q h = h
  rest_loop (suc k) e s q h =
      let site = end_of tri e in
      let l : site < n = end_site top e (omega (arith, top.same)) in
      gives_then Good Good (pick (is_empty (get_or s.cells site [])) (λ _. clip_into b nc site (ring_from he e) s) (λ _. ok s)) _
      (picked (Gives Good) (is_empty (get_or s.cells site [])) (λ _. clip_into b nc site (ring_from he e) s) (λ _. ok s)
      (λ t. gives_map _ Good (clip_into b nc site (ring_from he e) s)
      (clip_into_lem b nc n (share_of tri hull) vs found begun room site (omega arith) l (ring_from he e) (omega (arith, ring_share top site e (λ z. refl))) s h (is_empty_lem _ t)) (λ r w. w.0))
      (λ t. h))
      (λ r w. rest_loop k (suc e) r (omega arith) w)

  all_loop : (x : Extensions) (s : CellState) → Good s → ((k : ℕ) → get_or s.cells k [] ≡ [])
      → Gives Good (and_then (clip_hull b nc he hull (leftmost_of tri he n) x.at 0 (length hull) s) (λ r. clip_rest b nc tri he 0 (length tri) r))
  all_loop x s h empty =
      gives_then Good Good (clip_hull b nc he hull (leftmost_of tri he n) x.at 0 (length hull) s) _
      (hull_loop x.at (length hull) 0 s (omega arith) h (λ j lo hi. empty (get_or hull j 0)))
      (λ r w. rest_loop (length tri) 0 r (omega arith) w)

-- ---- the start

pub no_cell : (n k : ℕ) → ◌≡◌ {A = List Entry} (get_or (replicate n []) k []) []
no_cell zero k = refl
no_cell (suc n) zero = refl
no_cell (suc n) (suc k) = no_cell n k

pub no_weight : (w : ℕ → List Entry → ℕ) (n i : ℕ) → ((j : ℕ) → w j [] ≡ 0) → weigh w i (replicate n []) ≡ 0
no_weight w zero i z = refl
no_weight w (suc n) i z = omega (arith, z i, no_weight w n (suc i) z)

none_wrapped : (n : ℕ) → all_wrapped (replicate n []) ≡ []
unfolding all_wrapped wrapped_in
none_wrapped zero = refl
none_wrapped (suc n) = none_wrapped n

pub begin : (b : BoundingBox) (nc n : ℕ) (u : ℕ → ℕ) (vs : List Point) (found : List ℕ) (ts : List Taken) → length found ≡ 4
    → CellsSoFar b nc n u vs found ts (cell_state vs found (replicate n []) ts)
unfolding wrapped_in
begin b nc n u vs found ts four = record {
  width = length-replicate n [];
  four = four;
  more = 0;
  grown = grown_none vs;
  added = omega arith;
  twos = omega arith;
  steps = omega arith;
  threes = omega (arith, no_weight (λ i c. length c) n 0 (λ j. refl));
  region = λ k l. rw (no_cell n k) (omega arith);
  placed = λ k. rw (no_cell n k) tt;
  owned = λ k z. omega arith;
  struck = rw (none_wrapped n) (omega arith);
  corner = λ c l. inl (refl, rw (none_wrapped n));
  taken = λ c k l h. absurd (omega (arith, rw (no_cell n k) at h));
}

-- what holds at the end
pub clip_all_lem : {Fans : Type 0} {tri he hull : List ℕ} {n : ℕ} → TopologyWith Fans tri he hull n → n < EMPTY → (b : BoundingBox) (nc : ℕ) (found : List ℕ) (x : Extensions)
    → nc + 4 ≤ length x.verts → length found ≡ 4 → Gives (CellsSoFar b nc n (share_of tri hull) x.verts found x.steps)
    (clip_all b nc tri he hull (leftmost_of tri he n) n found x)
unfolding clip_all
clip_all_lem {Fans} {tri} {he} {hull} {n} top few b nc found x room four =
    all_loop top few b nc x.verts found x.steps room x (cell_state x.verts found (replicate n []) x.steps)
    (begin b nc n (share_of tri hull) x.verts found x.steps four) (no_cell n)
