-- Theorem: over all sites, in any order that has each once, each half-edge's edge comes exactly once (`out_once`), and so do the ray and the edge at infinity of each half-edge on the
-- hull (`ray_once`, `far_once`).
use Rattle.std.specs.Prelude.{◌≡◌, refl, Bool, true, false, cond, List, [], ◌∷◌, map, ◌≢◌, ℕ, suc, ◌+◌, ◌-◌, ◌<◌, ◌≤◌, eqb, length, get_or}
use Rattle.std.proofs.Common.{sym, ap, ◌∙◌, true≢false, ⊎_elim, arith, eqb-true, eq-eqb, leb-true}
use Rattle.std.proofs.lemmas.Bool.{false≢true, lt-leb}
use Rattle.base.specs.common.Count.{same, occ}
use Rattle.base.specs.common.laws.Count.{same_cases}
use Rattle.base.specs.common.laws.Decide.{lt_or_ge}
use Rattle.mesh.specs.Mesh.{next_of, start_of, end_of, pair_of, around, turn_of, walk_of, whole_of}
use Rattle.mesh.specs.Accepted.{Topology}
use Rattle.mesh.specs.laws.Next.{next_thrice}
use Rattle.mesh.specs.laws.Facts.{paired, next_in, tab_some, tab_cases, leftmost_unpaired, walk_each, walk_only}
use Rattle.mesh.specs.laws.WalkSteps.{walk_go, walk_done}
use Rattle.base.specs.numbers.Numbers.{EMPTY}
use Rattle.cutting.specs.cuts.Pairs.{once_if, often, often_append}
use Rattle.cutting.specs.cuts.Named.{EdgeName, out, ray, far, same_name, by_name, join_all}
use Rattle.cutting.specs.rings.Linked.{WalkLinked, whole_linked}
use Rattle.cutting.specs.rings.Names.{on_hull, last_names, names_from, ring_names}
use Rattle.cutting.specs.rings.Rings.{starts_at}

-- the half-edge before o in its triangle
abbrev previous : ℕ → ℕ
previous o = next_of (next_of o)

-- o is e's next exactly where e is the one before o
same_next : (o e : ℕ) → once_if (eqb o (next_of e)) ≡ same (previous o) e
same_next o e = ⊎_elim
    (λ w. (let q : o ≡ next_of e = sym (next_thrice o) ∙ ap next_of w.0 in rw (eq-eqb o (next_of e) q) (sym w.1)))
    (λ w. go (eqb o (next_of e)) refl w)
    (same_cases (previous o) e)
  where
    go : (b : Bool) → eqb o (next_of e) ≡ b → (previous o ≢ e) × (same (previous o) e ≡ 0) → once_if b ≡ same (previous o) e
    go true q w = absurd (w.0 (ap previous (eqb-true o (next_of e) q) ∙ next_thrice e))
    go false q w = sym w.1

-- a name that is not at infinity is none of the last ones
last_no_near : (he : List ℕ) (n : EdgeName) (e : ℕ) → same_name n (far (next_of e)) ≡ false → often by_name n (last_names he e) ≡ 0
last_no_near he n e apart = go (on_hull he (next_of e))
  where
    go : (b : Bool) → often by_name n (cond b (far (next_of e) ∷ []) []) ≡ 0
    go true = rw apart refl
    go false = refl

names_out : (he : List ℕ) (o : ℕ) (l : List ℕ) → often by_name (out o) (names_from he l) ≡ occ (previous o) l
names_out he o [] = refl
names_out he o (e ∷ []) = omega (arith, same_next o e, last_no_near he (out o) e refl)
names_out he o (e ∷ f ∷ r) = omega (arith, same_next o e, names_out he o (f ∷ r))

names_no_ray : (he : List ℕ) (o : ℕ) (l : List ℕ) → often by_name (ray o) (names_from he l) ≡ 0
names_no_ray he o [] = refl
names_no_ray he o (e ∷ []) = omega (arith, last_no_near he (ray o) e refl)
names_no_ray he o (e ∷ f ∷ r) = omega (arith, names_no_ray he o (f ∷ r))

-- an edge at infinity comes after the last half-edge of a walk alone
hull_next : (he : List ℕ) (o e : ℕ) → previous o ≡ e → on_hull he (next_of e) ≡ on_hull he o
hull_next he o e q = ap (on_hull he) (ap next_of (sym q) ∙ next_thrice o)

last_far : (he : List ℕ) (o e : ℕ) → on_hull he o ≡ true → often by_name (far o) (last_names he e) ≡ same (previous o) e
last_far he o e h = go (on_hull he (next_of e)) refl
  where
    go : (b : Bool) → on_hull he (next_of e) ≡ b → often by_name (far o) (cond b (far (next_of e) ∷ []) []) ≡ same (previous o) e
    go true q = omega (arith, same_next o e)
    go false q = ⊎_elim (λ w. absurd (false≢true (sym q ∙ hull_next he o e w.0 ∙ h))) (λ w. sym w.1) (same_cases (previous o) e)

names_far : (he : List ℕ) (t o : ℕ) → on_hull he o ≡ true → (e : ℕ) (r : List ℕ) → WalkLinked he t (e ∷ r) → often by_name (far o) (names_from he (e ∷ r)) ≡ occ (previous o) (e ∷ r)
names_far he t o h e [] l = omega (arith, last_far he o e h)
names_far he t o h e (f ∷ r) l = omega (arith, none, names_far he t o h f r l.2)
  where
    none : same (previous o) e ≡ 0
    none = ⊎_elim
        (λ w. absurd (true≢false (sym h ∙ sym (hull_next he o e w.0) ∙ lt-leb (length he) (around he e) (rw l.0 l.1))))
        (λ w. w.1)
        (same_cases (previous o) e)

pub ring_far : (he : List ℕ) (t o : ℕ) → on_hull he o ≡ true → (l : List ℕ) → WalkLinked he t l → often by_name (far o) (ring_names he t l) ≡ occ (previous o) l
ring_far he t o h [] k = refl
ring_far he t o h (e ∷ r) k = go (on_hull he t)
  where
    go : (b : Bool) → often by_name (far o) (cond b (ray t ∷ names_from he (e ∷ r)) (names_from he (e ∷ r))) ≡ occ (previous o) (e ∷ r)
    go true = omega (arith, names_far he t o h e r k)
    go false = names_far he t o h e r k

-- in one ring
pub ring_out : (he : List ℕ) (t o : ℕ) (l : List ℕ) → often by_name (out o) (ring_names he t l) ≡ occ (previous o) l
ring_out he t o [] = refl
ring_out he t o (e ∷ r) = go (on_hull he t)
  where
    go : (b : Bool) → often by_name (out o) (cond b (ray t ∷ names_from he (e ∷ r)) (names_from he (e ∷ r))) ≡ occ (previous o) (e ∷ r)
    go true = omega (arith, names_out he o (e ∷ r))
    go false = names_out he o (e ∷ r)

pub ring_ray : (he : List ℕ) (t o e : ℕ) (r : List ℕ) → often by_name (ray o) (ring_names he t (e ∷ r)) ≡ cond (on_hull he t) (once_if (eqb o t)) 0
ring_ray he t o e r = go (on_hull he t)
  where
    go : (b : Bool) → often by_name (ray o) (cond b (ray t ∷ names_from he (e ∷ r)) (names_from he (e ∷ r))) ≡ cond b (once_if (eqb o t)) 0
    go true = omega (arith, names_no_ray he o (e ∷ r))
    go false = names_no_ray he o (e ∷ r)

-- a walk begins where it should
pub begins : (he : List ℕ) (t : ℕ) → t < length he → whole_of he t ≡ t ∷ walk_of he t (length he - 1) (turn_of he t t)
begins he t h = let q : length he ≡ suc (length he - 1) = omega arith in ap (λ (n : ℕ). walk_of he t n t) q ∙ walk_go he t (length he - 1) t h

differ : (o t : ℕ) → o ≢ t → once_if (eqb o t) ≡ 0
differ o t n = go (eqb o t) refl
  where
    go : (b : Bool) → eqb o t ≡ b → once_if b ≡ 0
    go true q = absurd (n (eqb-true o t q))
    go false q = refl

never : (b : Bool) → cond {A = ℕ} b 0 0 ≡ 0
never true = refl
never false = refl

module _ {tri he hull : List ℕ} {sites : ℕ} (ok : Topology tri he hull sites) where
  -- the ring of a site, and all rings
  abbrev pub site_names : ℕ → List EdgeName
  site_names s = ring_names he (starts_at ok s) (whole_of he (starts_at ok s))

  abbrev pub all_names : List ℕ → List EdgeName
  all_names order = join_all (map site_names order)

  -- half-edge o starts at one site, and has its edge in that ring once
  out_in : (o s : ℕ) → o < length he → s < sites → often by_name (out o) (site_names s) ≡ same (start_of tri o) s
  out_in o s lo ls = ring_out he (starts_at ok s) o (whole_of he (starts_at ok s)) ∙ ⊎_elim
      (λ w. walk_each ok s ls (previous o) (next_in ok (next_in ok lo)) (at ∙ w.0) ∙ sym w.1)
      (λ w. ⊎_elim
      (λ p. absurd (w.0 (sym at ∙ (walk_only ok s ls (previous o) p).1)))
      (λ p. omega (arith, w.1))
      (lt_or_ge 0 (occ (previous o) (whole_of he (starts_at ok s)))))
      (same_cases (start_of tri o) s)
    where
      at : end_of tri (previous o) ≡ start_of tri o
      at = ap (λ (n : ℕ). get_or tri n 0) (next_thrice o)

  pub out_once : (o : ℕ) → o < length he → (order : List ℕ) → ((s : ℕ) → 0 < occ s order → s < sites) → often by_name (out o) (all_names order) ≡ occ (start_of tri o) order
  out_once o lo [] below = refl
  out_once o lo (s ∷ r) below = omega (arith, often_append by_name (out o) (site_names s) (all_names r), out_in o s lo (below s here), out_once o lo r (λ z p. below z (omega arith)))
    where
      here : 0 < same s s + occ s r
      here = ⊎_elim (λ v. omega (arith, v.1)) (λ v. absurd (v.0 refl)) (same_cases s s)

  -- no other number has an edge
  pub out_none_in : (o s : ℕ) → length he ≤ o → s < sites → often by_name (out o) (site_names s) ≡ 0
  out_none_in o s lo ls =
      ring_out he (starts_at ok s) o (whole_of he (starts_at ok s)) ∙ ⊎_elim
      (λ p. absurd (omega (arith, next_in ok (walk_only ok s ls (previous o) p).0, next_thrice o)))
      (λ p. omega arith)
      (lt_or_ge 0 (occ (previous o) (whole_of he (starts_at ok s))))

  pub unpaired : (o : ℕ) → o < length he → on_hull he o ≡ true → pair_of he o ≡ EMPTY
  unpaired o lo h = ⊎_elim (λ w. w) (λ w. absurd (omega (arith, w.inside, leb-true (length he) (pair_of he o) h))) ((paired ok).pairs o lo)

  pub no_ring_lem : (s o : ℕ) → starts_at ok s ≡ EMPTY → often by_name (ray o) (site_names s) ≡ 0
  no_ring_lem s o q = rw (walk_done he (starts_at ok s) (length he) (starts_at ok s) (omega (arith, (paired ok).small, q))) refl

  -- a half-edge on the hull ends at one site, and has its ray in that ring once
  ray_in : (o s : ℕ) → o < length he → s < sites → on_hull he o ≡ true → often by_name (ray o) (site_names s) ≡ same (end_of tri o) s
  ray_in o s lo ls h = ⊎_elim none some (tab_cases ok s ls)
    where
      none : starts_at ok s ≡ EMPTY → often by_name (ray o) (site_names s) ≡ same (end_of tri o) s
      none q =
          no_ring_lem s o q ∙ ⊎_elim
          (λ w. absurd (omega (arith, (paired ok).small, q, (tab_some ok s ls o lo w.0).0)))
          (λ w. sym w.1)
          (same_cases (end_of tri o) s)

      some : (starts_at ok s < length he) × (end_of tri (starts_at ok s) ≡ s) → often by_name (ray o) (site_names s) ≡ same (end_of tri o) s
      some there = rw (begins he (starts_at ok s) there.0) (ring_ray he (starts_at ok s) o (starts_at ok s) (walk_of he (starts_at ok s) (length he - 1) (turn_of he (starts_at ok s) (starts_at ok s)))
          ∙ ⊎_elim
          (λ w. (let q : starts_at ok s ≡ o = leftmost_unpaired ok s ls o lo w.0 (unpaired o lo h) in
          ap (λ (b : Bool). cond b (once_if (eqb o (starts_at ok s))) 0) (ap (on_hull he) q ∙ h) ∙ ap once_if (eq-eqb o (starts_at ok s) (sym q)) ∙ sym w.1))
          (λ w. ap (λ (n : ℕ). cond (on_hull he (starts_at ok s)) n 0) (differ o (starts_at ok s) (λ q. w.0 (ap (end_of tri) q ∙ there.1))) ∙ never (on_hull he (starts_at ok s)) ∙ sym w.1)
          (same_cases (end_of tri o) s))

  pub ray_once : (o : ℕ) → o < length he → on_hull he o ≡ true → (order : List ℕ) → ((s : ℕ) → 0 < occ s order → s < sites)
      → often by_name (ray o) (all_names order) ≡ occ (end_of tri o) order
  ray_once o lo h [] below = refl
  ray_once o lo h (s ∷ r) below =
      omega (arith, often_append by_name (ray o) (site_names s) (all_names r), ray_in o s lo (below s here) h, ray_once o lo h r (λ z p. below z (omega arith)))
    where
      here : 0 < same s s + occ s r
      here = ⊎_elim (λ v. omega (arith, v.1)) (λ v. absurd (v.0 refl)) (same_cases s s)

  -- and its edge at infinity in the ring where it starts
  far_in : (o s : ℕ) → o < length he → s < sites → on_hull he o ≡ true → often by_name (far o) (site_names s) ≡ same (start_of tri o) s
  far_in o s lo ls h =
      ring_far he (starts_at ok s) o h (whole_of he (starts_at ok s)) (whole_linked he (starts_at ok s) (paired ok).small tri (paired ok))
      ∙ sym (ring_out he (starts_at ok s) o (whole_of he (starts_at ok s))) ∙ out_in o s lo ls

  pub far_once : (o : ℕ) → o < length he → on_hull he o ≡ true → (order : List ℕ) → ((s : ℕ) → 0 < occ s order → s < sites)
      → often by_name (far o) (all_names order) ≡ occ (start_of tri o) order
  far_once o lo h [] below = refl
  far_once o lo h (s ∷ r) below =
      omega (arith, often_append by_name (far o) (site_names s) (all_names r), far_in o s lo (below s here) h, far_once o lo h r (λ z p. below z (omega arith)))
    where
      here : 0 < same s s + occ s r
      here = ⊎_elim (λ v. omega (arith, v.1)) (λ v. absurd (v.0 refl)) (same_cases s s)
