-- The unpaired half-edges of a mesh whose hull is right are those of the hull's pairs, one each: they are H, and no two end at one site.
use Rattle.std.specs.Prelude.{◌≡◌, List, [], ◌∷◌, ◌⊎◌, ◌≢◌, length, get_or}
use Rattle.std.proofs.Math.Path.{refl, ap}
use Rattle.std.proofs.Common.{sym, ◌∙◌, inl, inr, eq-eqb, ne_eqb}
use Rattle.std.proofs.Math.Logic.{⊎_elim}
use Prim.Native.Nat.{ℕ, zero, suc, ◌+◌, ◌-◌, ◌≤◌, ◌<◌}
use native.Mathlib.Omega.{arith}
use Rattle.base.specs.common.laws.Decide.{lt_or_ge, eq_or_ne}
use Rattle.base.specs.common.Count.{same, occ, sum_to}
use Rattle.base.specs.common.laws.Count.{same_cases, all_weighed, weighed}
use Rattle.base.specs.numbers.Numbers.{EMPTY}
use Rattle.mesh.specs.Mesh.{next_of, start_of, end_of, pair_of, Paired}
use Rattle.mesh.specs.Hull.{next_place, next_site, open_to, Hull, PlaceAt, BorderAt}
use Rattle.mesh.specs.laws.Next.{next_lt}
use Rattle.mesh.specs.laws.Closed.{ClosedAt}

pub after_cases : (h i : ℕ) → ((i + 1 ≡ h) × (next_place h i ≡ 0)) ⊎ ((i + 1 ≢ h) × (next_place h i ≡ i + 1))
unfolding next_place
after_cases h i = ⊎_elim (λ q. inl (q, rw (eq-eqb (i + 1) h q))) (λ q. inr (q, rw (ne_eqb (i + 1) h q))) (eq_or_ne (i + 1) h)

pub after_lt : (h i : ℕ) → i < h → next_place h i < h
after_lt h i l = ⊎_elim (λ w. omega arith) (λ w. omega arith) (after_cases h i)

after_inj : (h i j : ℕ) → i < h → j < h → next_place h i ≡ next_place h j → i ≡ j
after_inj h i j li lj q =
    ⊎_elim
    (λ w. ⊎_elim (λ u. omega arith) (λ u. omega arith) (after_cases h j))
    (λ w. ⊎_elim (λ u. omega arith) (λ u. omega arith) (after_cases h j))
    (after_cases h i)

open_sum : (he : List ℕ) (n : ℕ) → open_to he n ≡ sum_to (λ v. same (pair_of he v) EMPTY) n
unfolding open_to
open_sum he zero = refl
open_sum he (suc n) = omega (arith, open_sum he n)

-- the places of one site are one place, and so are those whose next sites are one
module _ (tri he hull : List ℕ) (sites : ℕ) (ok : (i : ℕ) → i < length hull → PlaceAt tri he hull sites i) where
  sites_one : (i j : ℕ) → i < length hull → j < length hull → get_or hull i 0 ≡ get_or hull j 0 → i ≡ j
  sites_one i j li lj q =
      ⊎_elim
      (λ h. absurd ((ok j lj).0.1 i h q))
      (λ h. ⊎_elim (λ k. absurd ((ok i li).0.1 j k (sym q))) (λ k. omega arith) (lt_or_ge j i))
      (lt_or_ge i j)

  nexts_one : (i j : ℕ) → i < length hull → j < length hull → next_site hull i ≡ next_site hull j → i ≡ j
  nexts_one i j li lj q =
      after_inj (length hull) i j li lj (sites_one _ _ (after_lt (length hull) i li) (after_lt (length hull) j lj) q)

  -- the unpaired half-edge of place i
  edge : (i : ℕ) → (e : ℕ) × (i < length hull → (e < length he) × (pair_of he e ≡ EMPTY) × (start_of tri e ≡ get_or hull i 0) × (end_of tri e ≡ next_site hull i))
  edge i = ⊎_elim (λ l. let o = (ok i l).1 in (o.0, λ _. (o.1, o.2, o.3, o.4))) (λ l. (0, λ h. absurd (omega arith))) (lt_or_ge i (length hull))

  edges_to : ℕ → List ℕ
  edges_to zero = []
  edges_to (suc n) = (edge n).0 ∷ edges_to n

  edges_length : (n : ℕ) → length (edges_to n) ≡ n
  unfolding edges_to
  edges_length zero = refl
  edges_length (suc n) = ap suc (edges_length n)

  place : (n v : ℕ) → 0 < occ v (edges_to n) → (i : ℕ) × (i < n) × (v ≡ (edge i).0)
  unfolding edges_to
  place zero v h = absurd (omega arith)
  place (suc n) v h =
      ⊎_elim
      (λ w. (n, omega arith, w.0))
      (λ w. let p = place n v (omega arith) in (p.0, omega (arith, p.1), p.2))
      (same_cases v (edge n).0)

  there : (n i : ℕ) → i < n → 0 < occ (edge i).0 (edges_to n)
  unfolding edges_to
  there zero i l = absurd (omega arith)
  there (suc n) i l =
      ⊎_elim
      (λ q. rw q (⊎_elim (λ w. omega arith) (λ w. absurd (w.0 refl)) (same_cases (edge n).0 (edge n).0)))
      (λ q. omega (arith, there n i (omega arith)))
      (eq_or_ne i n)

  ends_one : (i j : ℕ) → i < length hull → j < length hull → end_of tri (edge i).0 ≡ end_of tri (edge j).0 → i ≡ j
  ends_one i j li lj q = nexts_one i j li lj (sym ((edge i).1 li).3 ∙ q ∙ ((edge j).1 lj).3)

  edges_once : (n v : ℕ) → n ≤ length hull → occ v (edges_to n) ≤ 1
  unfolding edges_to
  edges_once zero v l = omega arith
  edges_once (suc n) v l =
      ⊎_elim
      (λ w. ⊎_elim
      (λ h. let p = place n v h in absurd (omega (arith, p.1, ends_one p.0 n (omega (arith, p.1)) l (ap (end_of tri) (sym p.2 ∙ w.0)))))
      (λ h. omega arith)
      (lt_or_ge 0 (occ v (edges_to n))))
      (λ w. omega (arith, edges_once n v (omega arith)))
      (same_cases v (edge n).0)

  edges_open : (v : ℕ) → occ v (edges_to (length hull)) ≤ same (pair_of he v) EMPTY
  edges_open v =
      ⊎_elim
      (λ h. let p = place (length hull) v h in
      ⊎_elim
      (λ w. omega (arith, edges_once (length hull) v (omega arith)))
      (λ w. absurd (w.0 (rw p.2 ((edge p.0).1 p.1).1)))
      (same_cases (pair_of he v) EMPTY))
      (λ h. omega arith)
      (lt_or_ge 0 (occ v (edges_to (length hull))))

  edges_in : (v : ℕ) → 0 < occ v (edges_to (length hull)) → v < length he
  edges_in v h = let p = place (length hull) v h in rw p.2 ((edge p.0).1 p.1).0

  -- as many unpaired half-edges as places: each of them is the half-edge of a place
  module _ (count : open_to he (length he) ≡ length hull) where
    placed : (e : ℕ) → e < length he → pair_of he e ≡ EMPTY → (i : ℕ) × (i < length hull) × (e ≡ (edge i).0)
    placed e l u =
        let q = all_weighed (λ v. same (pair_of he v) EMPTY) (length he) (edges_to (length hull)) edges_in edges_open (edges_length (length hull) ∙ sym count ∙ open_sum he (length he)) e l in
        place (length hull) e (⊎_elim (λ w. omega arith) (λ w. absurd (w.0 u)) (same_cases (pair_of he e) EMPTY))

    ended_one : (d e : ℕ) → d < length he → e < length he → pair_of he d ≡ EMPTY → pair_of he e ≡ EMPTY → end_of tri d ≡ end_of tri e → d ≡ e
    ended_one d e ld le ud ue q =
        let p = placed d ld ud in
        let r = placed e le ue in
        let same_place = ends_one p.0 r.0 p.1 r.1 (ap (end_of tri) (sym p.2) ∙ q ∙ ap (end_of tri) r.2) in
        p.2 ∙ ap (λ k. (edge k).0) same_place ∙ sym r.2

    counted_border : (e : ℕ) → e < length he → BorderAt tri he hull e
    counted_border e l u =
        let p = placed e l u in
        let o = (edge p.0).1 p.1 in
        ((p.0, p.1, ap (start_of tri) p.2 ∙ o.2, ap (end_of tri) p.2 ∙ o.3), λ d h ud _ q. omega (arith, ended_one d e (omega arith) l ud u q))

  -- and the other way round
  module _ (border : (e : ℕ) → e < length he → BorderAt tri he hull e) where
    the_edge : (e i : ℕ) → e < length he → pair_of he e ≡ EMPTY → (i < length hull) → start_of tri e ≡ get_or hull i 0 → end_of tri e ≡ next_site hull i → e ≡ (edge i).0
    the_edge e i l u li p q =
        let o = (edge i).1 li in
        ⊎_elim
        (λ h. absurd ((border (edge i).0 o.0 o.1).1 e h u (p ∙ sym o.2) (q ∙ sym o.3)))
        (λ h. ⊎_elim (λ k. absurd ((border e l u).1 (edge i).0 k o.1 (o.2 ∙ sym p) (o.3 ∙ sym q))) (λ k. omega arith) (lt_or_ge (edge i).0 e))
        (lt_or_ge e (edge i).0)

    pub border_count : open_to he (length he) ≡ length hull
    border_count =
        open_sum he (length he) ∙ sym (weighed (λ v. same (pair_of he v) EMPTY) (length he) (edges_to (length hull)) edges_in (λ v l.
        ⊎_elim
        (λ w. let b = (border v l w.0).0 in omega (arith, rw (← the_edge v b.0 l w.0 b.1 b.2 b.3) at (there (length hull) b.0 b.1), edges_open v))
        (λ w. omega (arith, edges_open v))
        (same_cases (pair_of he v) EMPTY))) ∙ edges_length (length hull)

-- all places and all half-edges are sound exactly where the hull is right
pub places_hull : (tri he hull : List ℕ) (sites : ℕ) → ((i : ℕ) → i < length hull → PlaceAt tri he hull sites i)
    → ((e : ℕ) → e < length he → BorderAt tri he hull e) → Hull tri he hull sites
places_hull tri he hull sites places border =
    record { fresh = λ i l. (places i l).0; edges = λ i l. (places i l).1; count = border_count tri he hull sites places border }

module _ (tri he hull : List ℕ) (sites : ℕ) (ok : Hull tri he hull sites) where
  pub hull_places : (i : ℕ) → i < length hull → PlaceAt tri he hull sites i
  hull_places i l = (ok.fresh i l, ok.edges i l)

  pub hull_border : (e : ℕ) → e < length he → BorderAt tri he hull e
  hull_border = counted_border tri he hull sites hull_places ok.count

  -- two unpaired half-edges that end at one site are one
  pub open_one : (d e : ℕ) → d < length he → e < length he → pair_of he d ≡ EMPTY → pair_of he e ≡ EMPTY → end_of tri d ≡ end_of tri e → d ≡ e
  open_one = ended_one tri he hull sites hull_places ok.count

-- the place before a hull place
place_before : (h i : ℕ) → i < h → (j : ℕ) × (j < h) × (next_place h j ≡ i)
place_before h i l =
    ⊎_elim
    (λ z. (h - 1, omega arith, ⊎_elim (λ w. w.1 ∙ sym z) (λ w. absurd (w.0 (omega arith))) (after_cases h (h - 1))))
    (λ n. (i - 1, omega arith, ⊎_elim (λ w. absurd (omega arith)) (λ w. w.1 ∙ (omega arith)) (after_cases h (i - 1))))
    (eq_or_ne i 0)

-- where no unpaired half-edge ends none starts
pub closed_fan : (tri he hull : List ℕ) (sites s : ℕ) → Paired tri he → Hull tri he hull sites
    → ((e : ℕ) → e < length he → end_of tri e ≡ s → pair_of he e ≢ EMPTY) → ClosedAt tri he s
closed_fan tri he hull sites s ok h none e l q u =
    let o = (hull_border tri he hull sites h (next_of e) (next_lt ok.threes l) u).0 in
    let j = place_before (length hull) o.0 o.1 in
    let d = h.edges j.0 j.1 in
    none d.0 d.1 (d.4 ∙ ap (λ k. get_or hull k 0) j.2 ∙ sym o.2 ∙ q) d.2
