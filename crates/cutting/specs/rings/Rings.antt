-- Theorem: on every accepted mesh the ring of a site, by the names of its edges, is closed (`site_closed`).
use Rattle.std.specs.Prelude.{◌≡◌, refl, Bool, true, false, cond, List, [], ◌∷◌, ℕ, suc, ◌+◌, ◌-◌, ◌/◌, ◌<◌, length, get_or}
use Rattle.std.proofs.Common.{sym, ap, ◌∙◌, true≢false, ⊎_elim, arith, le-leb}
use Rattle.std.proofs.lemmas.Bool.{false≢true, lt-leb}
use Rattle.base.specs.common.Count.{same, occ}
use Rattle.base.specs.common.laws.Count.{same_cases}
use Rattle.base.specs.common.laws.Decide.{lt_or_ge}
use Rattle.mesh.specs.Mesh.{next_of, end_of, pair_of, around, turn_of, walk_of, whole_of, leftmost_of, Mates}
use Rattle.mesh.specs.Accepted.{Topology}
use Rattle.mesh.specs.laws.Next.{next_thrice}
use Rattle.mesh.specs.laws.Facts.{paired, next_in, walk_each, walk_only}
use Rattle.mesh.specs.laws.WalkSteps.{walk_go}
use Rattle.cutting.specs.cuts.Named.{ClosedEdges}
use Rattle.cutting.specs.rings.Linked.{WalkLinked, whole_linked}
use Rattle.cutting.specs.rings.Names.{on_hull, ring_names, edge_of}
use Rattle.cutting.specs.rings.laws.Closing.{next_third, LastEnds, ring_closed}

-- the last half-edge of a walk comes back to t
abbrev LastCloses : List ℕ → ℕ → List ℕ → Type 0
LastCloses he t [] = Unit {0}
LastCloses he t (e ∷ []) = around he e ≡ t
LastCloses he t (e ∷ f ∷ r) = LastCloses he t (f ∷ r)

-- where the one before t stands in a walk that has t only once, it is the last
last_closes : (he : List ℕ) (t z : ℕ) → around he z ≡ t → (e : ℕ) (r : List ℕ) → WalkLinked he t (e ∷ r) → 0 < occ z (e ∷ r) → occ t r ≡ 0 → LastCloses he t (e ∷ r)
last_closes he t z q e [] l p n = ⊎_elim (λ w. ap (around he) (sym w.0) ∙ q) (λ w. absurd (omega (arith, w.1))) (same_cases z e)
last_closes he t z q e (f ∷ r) l p n =
    ⊎_elim
    (λ w. let here : t ≡ f = sym q ∙ ap (around he) w.0 ∙ l.0 in absurd (⊎_elim (λ v. omega (arith, v.1)) (λ v. absurd (v.0 here)) (same_cases t f)))
    (λ w. last_closes he t z q f r l.2 (omega (arith, w.1)) (omega arith))
    (same_cases z e)

module _ {tri he hull : List ℕ} {sites : ℕ} (ok : Topology tri he hull sites) where
  abbrev pub starts_at : ℕ → ℕ
  starts_at s = get_or (leftmost_of tri he sites) s 0

  mate : (e : ℕ) → e < length he → pair_of he e < length he → Mates tri he e (pair_of he e)
  mate e l p = ⊎_elim (λ w. absurd (omega (arith, (paired ok).small, w))) (λ w. w) ((paired ok).pairs e l)

  -- what comes back to t has t's pair
  closes_inner : (t z : ℕ) → t < length he → z < length he → around he z ≡ t → on_hull he t ≡ false
  closes_inner t z lt lz q =
      let m = mate (next_of z) (next_in ok lz) (rw q lt) in
      let b : pair_of he t ≡ next_of z = ap (pair_of he) (sym q) ∙ m.back in
      rw b (lt-leb (length he) (next_of z) (next_in ok lz))

  module _ {C K : Type 0} (center end : ℕ → C) (on : ℕ → K) (line : K) (s : ℕ) (l : s < sites) (there : starts_at s < length he) (at : end_of tri (starts_at s) ≡ s) where
    abbrev t : ℕ
    t = starts_at s

    ends_closed : (e : ℕ) (r : List ℕ) → LastCloses he t (e ∷ r) → LastEnds tri he starts_at center end on line (center (next_of t / 3)) (e ∷ r)
    ends_closed e [] q = (
      λ _. ap (λ (n : ℕ). center (n / 3)) q ∙ ap center (sym (next_third t)),
      λ h. absurd (false≢true (sym (lt-leb (length he) (around he e) (rw q there)) ∙ h)),
    )
    ends_closed e (f ∷ r) q = ends_closed f r q

    ends_open : on_hull he t ≡ true → (e : ℕ) (r : List ℕ) → WalkLinked he t (e ∷ r) → ((z : ℕ) → 0 < occ z (e ∷ r) → (z < length he) × (end_of tri z ≡ s))
        → LastEnds tri he starts_at center end on line (end t) (e ∷ r)
    ends_open h e [] w in_walk =
        let here : 0 < same e e + 0 = ⊎_elim (λ v. omega (arith, v.1)) (λ v. absurd (v.0 refl)) (same_cases e e) in
        let z = in_walk e here in
        ⊎_elim
        (λ q. absurd (false≢true (sym (closes_inner t e there z.0 q) ∙ h)))
        (λ q. (λ k. absurd (true≢false (sym (le-leb (length he) (around he e) q) ∙ k)), λ _. ap (λ (n : ℕ). end (starts_at n)) z.1))
        w
    ends_open h e (f ∷ r) w in_walk = ends_open h f r w.2 (λ z p. in_walk z (omega arith))

    -- the walk begins at t, and has it once
    begun : whole_of he t ≡ t ∷ walk_of he t (length he - 1) (turn_of he t t)
    begun = let q : length he ≡ suc (length he - 1) = omega arith in ap (λ (n : ℕ). walk_of he t n t) q ∙ walk_go he t (length he - 1) t there

    abbrev rest : List ℕ
    rest = walk_of he t (length he - 1) (turn_of he t t)

    walk_linked : WalkLinked he t (t ∷ rest)
    walk_linked = rw begun at (whole_linked he t (paired ok).small tri (paired ok))

    only : (z : ℕ) → 0 < occ z (t ∷ rest) → (z < length he) × (end_of tri z ≡ s)
    only z p = walk_only ok s l z (rw begun p)

    each : (z : ℕ) → z < length he → end_of tri z ≡ s → occ z (t ∷ rest) ≡ 1
    each z p q = rw begun at (walk_each ok s l z p q)

    once : occ t rest ≡ 0
    once = ⊎_elim (λ v. omega (arith, v.1, each t there at)) (λ v. absurd (v.0 refl)) (same_cases t t)

    -- where t has a pair, the walk comes back to it
    comes_back : on_hull he t ≡ false → LastCloses he t (t ∷ rest)
    comes_back h =
        ⊎_elim
        (λ p.
        let m = mate t there p in
        let z : ℕ = next_of (next_of (pair_of he t)) in
        let q : next_of z ≡ pair_of he t = next_thrice (pair_of he t) in
        let back : around he z ≡ t = ap (pair_of he) q ∙ m.back in
        let ends : end_of tri z ≡ s = ap (λ (n : ℕ). get_or tri n 0) q ∙ m.from ∙ at in
        last_closes he t z back t rest walk_linked (omega (arith, each z (next_in ok (next_in ok p)) ends)) once)
        (λ p. absurd (true≢false (sym (le-leb (length he) (pair_of he t) p) ∙ h)))
        (lt_or_ge (pair_of he t) (length he))

    pub site_closed : ClosedEdges (edge_of tri he starts_at center end on line) (ring_names he t (whole_of he t))
    site_closed = rw begun (ring_closed tri he starts_at center end on line t rest walk_linked (go (on_hull he t) refl))
      where
        go : (b : Bool) → on_hull he t ≡ b → LastEnds tri he starts_at center end on line (cond b (end t) (center (next_of t / 3))) (t ∷ rest)
        go true h = ends_open h t rest walk_linked only
        go false h = ends_closed t rest (comes_back h)
