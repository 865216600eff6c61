-- What is reached where the steps round a site are changed at one place: a half-edge is taken out, or one is put in.
use Rattle.std.specs.Prelude.{◌≡◌, List, ◌⊎◌, ◌≢◌, ℕ, ◌<◌, length}
use Rattle.std.proofs.Common.{sym, ap, ◌∙◌, subst, inl, inr, ⊎_elim}
use Rattle.base.specs.common.laws.Decide.{eq_or_ne}
use Rattle.mesh.specs.Mesh.{around, Reached, here, onward}

module _ (he he' : List ℕ) (long : length he' ≡ length he) where
  step : {t e k : ℕ} → e < length he → Reached he' t e → around he' e ≡ k → Reached he' t k
  step {t} {e} l r q = subst (Reached he' t) q (onward (rw long l) r)

  -- r is taken out: what led to it leads to b, which followed it
  module _ (t t' r b : ℕ) (b-other : b ≢ r) (out : around he r ≡ b)
      (led : (e : ℕ) → Reached he t e → e < length he → e ≢ r → around he e ≡ r → around he' e ≡ b)
      (kept : (e : ℕ) → Reached he t e → e < length he → e ≢ r → around he e ≢ r → around he' e ≡ around he e)
      (start : ((t ≢ r) × (t' ≡ t)) ⊎ ((t ≡ r) × (t' ≡ b))) where
    pub taken_out : {e : ℕ} → Reached he t e → ((e ≢ r) × Reached he' t' e) ⊎ ((e ≡ r) × Reached he' t' b)
    taken_out here =
        ⊎_elim
        (λ w. inl (w.0, subst (λ k. Reached he' k t) (sym w.1) here))
        (λ w. inr (w.0, subst (λ k. Reached he' k b) (sym w.1) here))
        start
    taken_out (onward {e} l q) =
        ⊎_elim
        (λ w. ⊎_elim
        (λ z. inr (z, step l w.1 (led e q l w.0 z)))
        (λ z. inl (z, step l w.1 (kept e q l w.0 z)))
        (eq_or_ne (around he e) r))
        (λ w.
        let z : around he e ≡ b = ap (around he) w.0 ∙ out in
        inl ((λ y. b-other (sym z ∙ y)), subst (Reached he' t') (sym z) w.1))
        (taken_out q)

  -- l is put in after c: it leads to what followed c
  module _ (t l c : ℕ) (in_mesh : l < length he) (to : around he' c ≡ l) (on : around he' l ≡ around he c)
      (kept : (e : ℕ) → Reached he t e → e < length he → e ≢ c → around he' e ≡ around he e) where
    pub put_in : {e : ℕ} → Reached he t e → Reached he' t e
    put_in here = here
    put_in (onward {e} h q) =
        ⊎_elim
        (λ z. subst (λ k. Reached he' t (around he k)) (sym z) (step in_mesh (step h (put_in q) (ap (around he') z ∙ to)) on))
        (λ z. step h (put_in q) (kept e q h z))
        (eq_or_ne e c)

    pub put_there : c < length he → Reached he t c → Reached he' t l
    put_there h q = step h (put_in q) to
