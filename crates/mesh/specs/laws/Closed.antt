-- A closed fan, one with no unpaired half-edge, may be begun anywhere: what is reached from one of its half-edges is reached from each.
use Rattle.std.specs.Prelude.{◌≡◌, refl, List, ◌⊎◌, ◌≢◌, ℕ, zero, suc, ◌<◌, ◌≤◌, length}
use Rattle.std.proofs.Common.{sym, ap, ◌∙◌, subst, inl, inr, ⊎_elim, arith}
use Rattle.base.specs.common.laws.Decide.{lt_or_ge}
use Rattle.base.specs.numbers.Numbers.{EMPTY}
use Rattle.mesh.specs.Mesh.{end_of, around, turn_of, walk_of, Reached, here, onward, Paired}
use Rattle.mesh.specs.laws.WalkSteps.{walk_go}
use Rattle.mesh.specs.laws.Walks.{mate, turn_cases, turn_there, walk_short}

-- a step before, and the first step of what is reached
before : (he : List ℕ) {x v : ℕ} → x < length he → Reached he (around he x) v → Reached he x v
before he l here = onward l here
before he l (onward h r) = onward h (before he l r)

first_step : (he : List ℕ) {x v : ℕ} → Reached he x v → (v ≡ x) ⊎ Reached he (around he x) v
first_step he here = inl refl
first_step he {x} (onward {e} l r) =
    ⊎_elim
    (λ q. inr (subst (λ k. Reached he (around he x) (around he k)) (sym q) here))
    (λ q. inr (onward l q))
    (first_step he r)

-- what is reached from what is reached
pub reached_on : {he : List ℕ} {t u v : ℕ} → Reached he t u → Reached he u v → Reached he t v
reached_on p here = p
reached_on p (onward h r) = onward h (reached_on p r)

-- a walk that needs less than its fuel has a last half-edge, where it stops
record Last (he : List ℕ) (s x : ℕ) : Type 0 where
  at : ℕ
  in_mesh : at < length he
  reached : Reached he x at
  stops : length he ≤ turn_of he s at

-- no half-edge that ends at site s has an unpaired one next to it
abbrev pub ClosedAt : List ℕ → List ℕ → ℕ → Type 0
ClosedAt tri he s = (e : ℕ) → e < length he → end_of tri e ≡ s → around he e ≢ EMPTY

module _ (tri he : List ℕ) (ok : Paired tri he) where
  last : (s n x : ℕ) → x < length he → length (walk_of he s n x) < n → Last he s x
  last s zero x l h = absurd (omega arith)
  last s (suc n) x l h =
      ⊎_elim
      (λ t.
      let i = last s n (turn_of he s x) t (omega (arith, ap length (walk_go he s n x l))) in
      record {
        at = i.at;
        in_mesh = i.in_mesh;
        reached = before he l (subst (λ k. Reached he k i.at) (turn_there tri he ok s x t) i.reached);
        stops = i.stops;
      })
      (λ t. record { at = x; in_mesh = l; reached = here; stops = t })
      (lt_or_ge (turn_of he s x) (length he))

  -- what is reached in the mesh is at the same site
  pub reached_end : {t v : ℕ} → Reached he t v → v < length he → end_of tri v ≡ end_of tri t
  reached_end here h = refl
  reached_end (onward {e} l r) h = (mate tri he ok e l (λ z. omega (arith, ok.small))).to ∙ reached_end r l

  module _ (s : ℕ) (closed : ClosedAt tri he s) where
    -- what is reached stays in the mesh and at the site
    stays : {t v : ℕ} → t < length he → end_of tri t ≡ s → Reached he t v → (v < length he) × (end_of tri v ≡ s)
    stays l q here = (l, q)
    stays l q (onward {e} h r) =
        let p = stays l q r in
        let m = mate tri he ok e h (closed e h p.1) in
        (m.inside, m.to ∙ p.1)

    returns : (e : ℕ) → e < length he → end_of tri e ≡ s → Reached he (around he e) e
    returns e l q =
        let i = last e (suc (length he)) e l (omega (arith, walk_short tri he ok e l (suc (length he)))) in
        let v = i.at in
        let p = stays l q i.reached in
        let alive = (mate tri he ok v i.in_mesh (closed v i.in_mesh p.1)).inside in
        let back : around he v ≡ e = ⊎_elim (λ w. w.0) (λ w. absurd (omega (arith, i.stops, w.1))) (turn_cases he e v) in
        ⊎_elim
        (λ z. subst (λ k. Reached he (around he e) k) (ap (around he) (sym z) ∙ back) here)
        (λ r. subst (λ k. Reached he (around he e) k) back (onward i.in_mesh r))
        (first_step he i.reached)

    pub reached_back : {t u : ℕ} → t < length he → end_of tri t ≡ s → Reached he t u → Reached he u t
    reached_back l q here = here
    reached_back {t} l q (onward {e} h r) =
        ⊎_elim
        (λ z. subst (λ k. Reached he (around he e) k) (sym z) (returns e h (stays l q r).1))
        (λ p. p)
        (first_step he (reached_back l q r))
