-- Laws: the ring of a site has no more edges than the triangles name the site, and two more where it stands in the hull (`ring_length`), one of these at infinity (`ring_bisected`). So 16T + 11H
-- entries suffice for all pieces (`entries_room`), and 6T + 2H new points (`points_room`).
use Rattle.std.specs.Prelude.{◌≡◌, refl, Bool, true, false, cond, List, [], ◌∷◌, ℕ, zero, suc, ◌+◌, ◌*◌, ◌/◌, ◌≤◌, ◌<◌, length, get_or}
use Rattle.std.proofs.Common.{sym, ⊎_elim, arith}
use Rattle.base.specs.common.Count.{occ, sum_to}
use Rattle.base.specs.common.laws.Count.{same_cases, occ_sum, below_occ, sum_mono}
use Rattle.mesh.specs.Mesh.{next_of, start_of, end_of, whole_of}
use Rattle.mesh.specs.Hull.{next_place}
use Rattle.mesh.specs.Accepted.{Topology}
use Rattle.mesh.specs.laws.Border.{hull_border, after_lt}
use Rattle.mesh.specs.laws.Degree.{walk_degree}
use Rattle.mesh.specs.laws.Facts.{paired, next_in, entry_site, tab_cases, walk_only}
use Rattle.mesh.specs.laws.WalkSteps.{walk_done}
use Rattle.base.specs.numbers.Numbers.{EMPTY}
use Rattle.cutting.specs.cuts.Named.{EdgeName, out, ray, far}
use Rattle.cutting.specs.rings.Names.{on_hull, last_names, names_from, ring_names}
use Rattle.cutting.specs.rings.Rings.{starts_at}
use Rattle.cutting.specs.rings.Counts.{site_names, unpaired}

-- the edges of a ring that lie on bisectors
abbrev pub bisectors : List EdgeName → ℕ
bisectors [] = 0
bisectors (out o ∷ l) = suc (bisectors l)
bisectors (ray o ∷ l) = suc (bisectors l)
bisectors (far o ∷ l) = bisectors l

here : (s : ℕ) (l : List ℕ) (i : ℕ) → i < length l → get_or l i 0 ≡ s → 1 ≤ occ s l
here s [] i h q = absurd (omega arith)
here s (x ∷ l) zero h q = ⊎_elim (λ w. omega (arith, w.1)) (λ w. absurd (w.0 (sym q))) (same_cases s x)
here s (x ∷ l) (suc i) h q = omega (arith, here s l i (omega arith) q)

last_bisectors : (he : List ℕ) (e : ℕ) → bisectors (last_names he e) ≡ 0
last_bisectors he e = go (on_hull he (next_of e))
  where
    go : (b : Bool) → bisectors (cond b (far (next_of e) ∷ []) []) ≡ 0
    go true = refl
    go false = refl

names_bisectors : (he l : List ℕ) → bisectors (names_from he l) ≡ length l
names_bisectors he [] = refl
names_bisectors he (e ∷ []) = omega (arith, last_bisectors he e)
names_bisectors he (e ∷ f ∷ r) = omega (arith, names_bisectors he (f ∷ r))

-- f bounds what comes after a last half-edge
names_length : (he l : List ℕ) (f : ℕ) → ((e : ℕ) → 0 < occ e l → length (last_names he e) ≤ f) → length (names_from he l) ≤ length l + f
names_length he [] f h = omega arith
names_length he (e ∷ []) f h = omega (arith, h e (⊎_elim (λ w. omega (arith, w.1)) (λ w. absurd (w.0 refl)) (same_cases e e)))
names_length he (e ∷ g ∷ r) f h = omega (arith, names_length he (g ∷ r) f (λ z p. h z (omega arith)))

module _ (he : List ℕ) (t f g : ℕ) (first : on_hull he t ≡ true → 1 ≤ g) where
  begun_length : (l : List ℕ) → ((e : ℕ) → 0 < occ e l → length (last_names he e) ≤ f) → length (ring_names he t l) ≤ length l + f + g
  begun_length [] h = omega arith
  begun_length (e ∷ r) h = go (on_hull he t) first (names_length he (e ∷ r) f h)
    where
      go : (b : Bool) → (b ≡ true → 1 ≤ g) → length (names_from he (e ∷ r)) ≤ length (e ∷ r) + f
          → length (cond b (ray t ∷ names_from he (e ∷ r)) (names_from he (e ∷ r))) ≤ length (e ∷ r) + f + g
      go true k n = omega (arith, k refl)
      go false k n = omega arith

  begun_bisectors : (l : List ℕ) → bisectors (ring_names he t l) ≤ length l + g
  begun_bisectors [] = omega arith
  begun_bisectors (e ∷ r) = go (on_hull he t) first (names_bisectors he (e ∷ r))
    where
      go : (b : Bool) → (b ≡ true → 1 ≤ g) → bisectors (names_from he (e ∷ r)) ≡ length (e ∷ r)
          → bisectors (cond b (ray t ∷ names_from he (e ∷ r)) (names_from he (e ∷ r))) ≤ length (e ∷ r) + g
      go true k n = omega (arith, k refl)
      go false k n = omega arith

module _ {tri he hull : List ℕ} {sites : ℕ} (ok : Topology tri he hull sites) where
  starts_on_hull : (o : ℕ) → o < length he → on_hull he o ≡ true → 1 ≤ occ (start_of tri o) hull
  starts_on_hull o l h =
      let at = (hull_border tri he hull sites ok.border o l (unpaired ok o l h)).0 in
      here (start_of tri o) hull at.0 at.1 (sym at.2)

  ends_on_hull : (o : ℕ) → o < length he → on_hull he o ≡ true → 1 ≤ occ (end_of tri o) hull
  ends_on_hull o l h =
      let at = (hull_border tri he hull sites ok.border o l (unpaired ok o l h)).0 in
      here (end_of tri o) hull (next_place (length hull) at.0) (after_lt (length hull) at.0 at.1) (sym at.3)

  module _ (s : ℕ) (l : s < sites) where
    last_on_hull : (e : ℕ) → 0 < occ e (whole_of he (starts_at ok s)) → length (last_names he e) ≤ occ s hull
    last_on_hull e p =
        let w = walk_only ok s l e p in
        go (on_hull he (next_of e)) (λ h. rw w.1 at (starts_on_hull (next_of e) (next_in ok w.0) h))
      where
        go : (b : Bool) → (b ≡ true → 1 ≤ occ s hull) → length (cond b (far (next_of e) ∷ []) []) ≤ occ s hull
        go true k = k refl
        go false k = omega arith

    pub ring_length : length (site_names ok s) ≤ occ s tri + 2 * occ s hull
    ring_length = ⊎_elim none some (tab_cases ok s l)
      where
        none : starts_at ok s ≡ EMPTY → length (site_names ok s) ≤ occ s tri + 2 * occ s hull
        none q = rw (walk_done he (starts_at ok s) (length he) (starts_at ok s) (omega (arith, (paired ok).small, q))) (omega arith)

        some : (starts_at ok s < length he) × (end_of tri (starts_at ok s) ≡ s) → length (site_names ok s) ≤ occ s tri + 2 * occ s hull
        some there =
            omega (
              arith,
              begun_length he (starts_at ok s) (occ s hull) (occ s hull) (λ h. rw there.1 at (ends_on_hull (starts_at ok s) there.0 h)) (whole_of he (starts_at ok s)) last_on_hull,
              rw there.1 at (walk_degree tri he (paired ok) ok.same (starts_at ok s)),
            )

    pub ring_bisected : bisectors (site_names ok s) ≤ occ s tri + occ s hull
    ring_bisected = ⊎_elim none some (tab_cases ok s l)
      where
        none : starts_at ok s ≡ EMPTY → bisectors (site_names ok s) ≤ occ s tri + occ s hull
        none q = rw (walk_done he (starts_at ok s) (length he) (starts_at ok s) (omega (arith, (paired ok).small, q))) (omega arith)

        some : (starts_at ok s < length he) × (end_of tri (starts_at ok s) ≡ s) → bisectors (site_names ok s) ≤ occ s tri + occ s hull
        some there =
            omega (
              arith,
              begun_bisectors he (starts_at ok s) 0 (occ s hull) (λ h. rw there.1 at (ends_on_hull (starts_at ok s) there.0 h)) (whole_of he (starts_at ok s)),
              rw there.1 at (walk_degree tri he (paired ok) ok.same (starts_at ok s)),
            )

  -- weights of sites, none above so often in the triangles and f times so often in the hull
  below_sum : (u : ℕ → ℕ) (f n : ℕ) → n ≤ sites → ((s : ℕ) → s < sites → u s ≤ occ s tri + f * occ s hull)
      → sum_to u n ≤ sum_to (λ s. occ s tri) n + f * sum_to (λ s. occ s hull) n
  below_sum u f zero l h = omega arith
  below_sum u f (suc n) l h = omega (arith, below_sum u f n (omega arith) h, h n (omega arith))

  in_triangles : sum_to (λ s. occ s tri) sites ≡ length tri
  in_triangles = occ_sum sites tri (below_occ tri sites (entry_site ok))

  in_hull : sum_to (λ s. occ s hull) sites ≡ length hull
  in_hull = occ_sum sites hull (below_occ hull sites (λ k l. (ok.border.fresh k l).0))

  -- entries: where cutting makes a ring no longer than 81 / 16 of what it was, 16T + 11H suffice for the rings of the first n sites
  pub entries_room : (u : ℕ → ℕ) → ((s : ℕ) → s < sites → 16 * u s ≤ 81 * length (site_names ok s)) → (n : ℕ) → n ≤ sites → sum_to u n ≤ 16 * (length tri / 3) + 11 * length hull
  entries_room u h n l =
      omega (
        arith,
        scaled n l,
        below_sum (λ s. length (site_names ok s)) 2 sites (omega arith) ring_length,
        in_triangles,
        in_hull,
        sum_mono (λ s. length (site_names ok s)) n sites l,
        ok.threes,
      )
    where
      scaled : (n : ℕ) → n ≤ sites → 16 * sum_to u n ≤ 81 * sum_to (λ s. length (site_names ok s)) n
      scaled zero l = omega arith
      scaled (suc n) l = omega (arith, scaled n (omega arith), h n (omega arith))

  -- points: where each edge on a bisector brings at most two, 6T + 2H suffice
  pub points_room : (u : ℕ → ℕ) → ((s : ℕ) → s < sites → u s ≤ 2 * bisectors (site_names ok s)) → (n : ℕ) → n ≤ sites → sum_to u n ≤ 6 * (length tri / 3) + 2 * length hull
  points_room u h n l =
      omega (
        arith,
        scaled n l,
        below_sum (λ s. bisectors (site_names ok s)) 1 sites (omega arith) (λ s l. omega (arith, ring_bisected s l)),
        in_triangles,
        in_hull,
        sum_mono (λ s. bisectors (site_names ok s)) n sites l,
        ok.threes,
      )
    where
      scaled : (n : ℕ) → n ≤ sites → sum_to u n ≤ 2 * sum_to (λ s. bisectors (site_names ok s)) n
      scaled zero l = omega arith
      scaled (suc n) l = omega (arith, scaled n (omega arith), h n (omega arith))
