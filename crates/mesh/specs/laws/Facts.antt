-- What holds on every mesh that rules 7 to 9 accept: its numbers are in range, and the table holds the leftmost half-edges; where rule 10 holds too the walk of a
-- site lists each half-edge that ends there exactly once.
use Rattle.std.specs.Prelude.{◌≡◌, refl, List, ◌⊎◌, ◌≢◌, ℕ, ◌+◌, ◌*◌, ◌/◌, ◌%◌, ◌≤◌, ◌<◌, length, get_or}
use Rattle.std.proofs.Common.{sym, ◌∙◌, inl, inr, ⊎_elim, arith}
use Rattle.base.specs.common.laws.Decide.{eq_or_ne}
use Rattle.base.specs.common.Count.{occ}
use Rattle.base.specs.numbers.Numbers.{EMPTY}
use Rattle.mesh.specs.Mesh.{next_of, start_of, end_of, pair_of, Used, AllSound, leftmost_of, Leftmost, walk_of, whole_of, Paired}
use Rattle.mesh.specs.Accepted.{Mesh, TopologyWith, Topology, Counted, AcceptedWith, site_count}
use Rattle.mesh.specs.laws.Next.{next_lt, next_thrice}
use Rattle.mesh.specs.laws.Walks.{walk_ends, walk_in, whole_once, reached_walk, walk_fuel}
use Rattle.mesh.specs.laws.Table.{table_length, table_leftmost, the_unpaired, the_lowest, the_none}
use Rattle.mesh.specs.laws.Border.{open_one}

-- the limits of the counts
pub few_entries : {c t e h : ℕ} → Counted c t e h → t < EMPTY
few_entries n = omega (arith, n.few_triangles, n.threes)

pub few_on_hull : {c t e h : ℕ} → Counted c t e h → h < EMPTY
few_on_hull n = omega (arith, n.hull_of_sites, n.few_sites)

pub topology : {Fans : Type 0} {m : Mesh} → AcceptedWith Fans m → TopologyWith Fans m.triangles m.halfedges m.hull (site_count m.sites)
topology a = a.topology

-- sound triangles name sites
module _ (tri : List ℕ) (sites : ℕ) (threes : length tri % 3 ≡ 0) (all : AllSound tri sites) (k : ℕ) (l : k < length tri) where
  pub sound_site : get_or tri k 0 < sites
  sound_site =
      let s = all (k / 3) (omega arith) in
      ⊎_elim
      (λ h. let q : k ≡ 3 * (k / 3) = omega arith in rw q s.a_site)
      (λ g. ⊎_elim
      (λ h. let q : k ≡ 3 * (k / 3) + 1 = omega arith in rw q s.b_site)
      (λ h. let q : k ≡ 3 * (k / 3) + 2 = omega arith in rw q s.c_site)
      (eq_or_ne (k % 3) 1))
      (eq_or_ne (k % 3) 0)

-- what rule 10 adds to rules 7 to 9, and what it leaves out
module _ {Fans : Type 0} {tri he hull : List ℕ} {sites : ℕ} (ok : TopologyWith Fans tri he hull sites) where
  pub with_fans : {Others : Type 0} → Others → TopologyWith Others tri he hull sites
  with_fans fan = record { threes = ok.threes; same = ok.same; small = ok.small; sound = ok.sound; pairs = ok.pairs; border = ok.border; fan = fan }

module _ {Fans : Type 0} {tri he hull : List ℕ} {sites : ℕ} (ok : TopologyWith Fans tri he hull sites) where
  pub paired : Paired tri he
  paired = record { threes = rw ok.same ok.threes; small = rw ok.same ok.small; pairs = λ e l. ok.pairs e (rw (← ok.same) l) }

  pub next_in : {e : ℕ} → e < length he → next_of e < length he
  next_in l = next_lt paired.threes l

  pub entry_site : (k : ℕ) → k < length tri → get_or tri k 0 < sites
  entry_site = sound_site tri sites ok.threes ok.sound

  pub start_site : (e : ℕ) → e < length he → start_of tri e < sites
  start_site e l = entry_site e (rw (← ok.same) l)

  pub end_site : (e : ℕ) → e < length he → end_of tri e < sites
  end_site e l = start_site (next_of e) (next_in l)

  -- at a site in use a half-edge ends
  pub used_end : {s : ℕ} → Used tri s → (e : ℕ) × (e < length he) × (end_of tri e ≡ s)
  used_end (k, l, q) =
      (next_of (next_of k), next_in (next_in (rw ok.same l)), rw (next_thrice k) q)

  pub start_used : (e : ℕ) → e < length he → Used tri (start_of tri e)
  start_used e l = (e, rw (← ok.same) l, refl)

  pub end_used : (e : ℕ) → e < length he → Used tri (end_of tri e)
  end_used e l = start_used (next_of e) (next_in l)

  -- the table: EMPTY at a site where no half-edge ends, else such a half-edge, the unpaired one if there is one, else the lowest
  pub tab_length : length (leftmost_of tri he sites) ≡ sites
  tab_length = table_length tri he sites (length tri)

  module _ (s : ℕ) (l : s < sites) where
    tab_at : Leftmost tri he (length tri) s (get_or (leftmost_of tri he sites) s 0)
    tab_at = table_leftmost tri he sites (length tri) s (omega (arith, ok.small)) (λ e h. end_site e (rw ok.same h)) l

    pub tab_none : ((e : ℕ) → e < length he → end_of tri e ≢ s) → get_or (leftmost_of tri he sites) s 0 ≡ EMPTY
    tab_none h = the_none tri he (length tri) s _ tab_at (λ k p. h k (rw ok.same p))

    pub tab_some : (e : ℕ) → e < length he → end_of tri e ≡ s → (get_or (leftmost_of tri he sites) s 0 < length he) × (end_of tri (get_or (leftmost_of tri he sites) s 0) ≡ s)
    tab_some e h q =
        ⊎_elim
        (λ n. absurd (tab_at.none n e (rw (← ok.same) h) q))
        (λ n. let p = tab_at.some n in (rw ok.same p.0, p.1))
        (eq_or_ne (get_or (leftmost_of tri he sites) s 0) EMPTY)

    pub tab_cases : (get_or (leftmost_of tri he sites) s 0 ≡ EMPTY) ⊎ ((get_or (leftmost_of tri he sites) s 0 < length he) × (end_of tri (get_or (leftmost_of tri he sites) s 0) ≡ s))
    tab_cases = ⊎_elim inl (λ n. let p = tab_at.some n in inr (rw ok.same p.0, p.1)) (eq_or_ne (get_or (leftmost_of tri he sites) s 0) EMPTY)

    pub tab_used : Used tri s → (get_or (leftmost_of tri he sites) s 0 < length he) × (end_of tri (get_or (leftmost_of tri he sites) s 0) ≡ s)
    tab_used u = let h = used_end u in tab_some h.0 h.1 h.2

    pub tab_unused : (Used tri s → ⊥) → get_or (leftmost_of tri he sites) s 0 ≡ EMPTY
    tab_unused n = tab_none (λ e h q. n (rw q at (end_used e h)))

    pub leftmost_unpaired : (e : ℕ) → e < length he → end_of tri e ≡ s → pair_of he e ≡ EMPTY → get_or (leftmost_of tri he sites) s 0 ≡ e
    leftmost_unpaired e h q u =
        the_unpaired tri he (length tri) s _ tab_at e (rw (← ok.same) h) q u (λ k lk qk uk. open_one tri he hull sites ok.border k e (rw ok.same lk) h uk u (qk ∙ sym q)) ok.small

    pub leftmost_lowest : (e : ℕ) → e < length he → end_of tri e ≡ s → ((k : ℕ) → k < length he → end_of tri k ≡ s → pair_of he k ≢ EMPTY)
        → ((k : ℕ) → k < e → end_of tri k ≢ s) → get_or (leftmost_of tri he sites) s 0 ≡ e
    leftmost_lowest e h q p = the_lowest tri he (length tri) s _ tab_at e (rw (← ok.same) h) q (λ k lk. p k (rw ok.same lk))

    pub walk_only : (e : ℕ) → 0 < occ e (whole_of he (get_or (leftmost_of tri he sites) s 0)) → (e < length he) × (end_of tri e ≡ s)
    walk_only e h =
        let t = get_or (leftmost_of tri he sites) s 0 in
        let p = walk_ends tri he paired t (length he) t e h in
        let m = walk_in tri he paired t (length he) t e h in
        (p.0, p.1 ∙ ⊎_elim (λ q. absurd (omega (arith, paired.small))) (λ q. q.1) tab_cases)

    -- it stops by its own rule: more fuel gives the same list
    pub walk_stops : (k : ℕ) → length he ≤ k → walk_of he (get_or (leftmost_of tri he sites) s 0) k (get_or (leftmost_of tri he sites) s 0) ≡ whole_of he (get_or (leftmost_of tri he sites) s 0)
    walk_stops = walk_fuel tri he paired (get_or (leftmost_of tri he sites) s 0)

-- demand 3: the walk lists each half-edge that ends at the site exactly once, and by walk-only no other
module _ {tri he hull : List ℕ} {sites : ℕ} (ok : Topology tri he hull sites) (s : ℕ) (l : s < sites) where
  pub walk_each : (e : ℕ) → e < length he → end_of tri e ≡ s → occ e (whole_of he (get_or (leftmost_of tri he sites) s 0)) ≡ 1
  walk_each e h q =
      let t = get_or (leftmost_of tri he sites) s 0 in
      omega (arith, reached_walk tri he (paired ok) t (rw q at (ok.fan e h)) h, whole_once tri he (paired ok) t e)
