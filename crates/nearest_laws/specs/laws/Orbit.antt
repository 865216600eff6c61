-- Trails of an injective step on finitely many numbers: one that never comes back to its start comes to an end, and of two with one end the one is a part of the other.
use Rattle.std.specs.Prelude.{◌≡◌, List, [], ◌∷◌, ◌⊎◌, length}
use Rattle.std.proofs.Math.Path.{refl, ap, subst}
use Rattle.std.proofs.Common.{sym, ◌∙◌, inl, inr}
use Rattle.std.proofs.Math.Logic.{⊎_elim}
use Prim.Native.Nat.{ℕ, zero, suc, ◌+◌, ◌≤◌, ◌<◌}
use native.Mathlib.Omega.{arith}
use Rattle.base.specs.common.laws.Decide.{lt_or_ge}
use Rattle.base.specs.common.Count.{occ}
use Rattle.base.specs.common.laws.Count.{same_cases, pigeonhole}

pub data Trail (G : ℕ → Type 0) (f : ℕ → ℕ) (x : ℕ) : ℕ → ℕ → Type 0 where
  stop : Trail G f x 0 x
  on : {k y : ℕ} (w : ℕ) → Trail G f x k y → G w → f y ≡ w → Trail G f x (suc k) w

module _ (G : ℕ → Type 0) (f : ℕ → ℕ) where
  pub good : {x k y : ℕ} → G x → Trail G f x k y → G y
  good g stop = g
  good g (on w t h q) = h

  pub off : {x : ℕ} (w : ℕ) {k z : ℕ} → G w → f x ≡ w → Trail G f w k z → Trail G f x (suc k) z
  off w g q stop = on w stop g q
  off w g q (on v t h p) = on v (off w g q t) h p

  module _ (inj : (a b : ℕ) → G a → G b → G (f a) → f a ≡ f b → a ≡ b) where
    -- the step before the last
    before : {x k z : ℕ} (y : ℕ) → G x → G y → Trail G f x (suc k) z → f y ≡ z → Trail G f x k y
    before y gx gy (on {y = u} w t h p) q = subst (Trail G f _ _) (inj u y (good gx t) gy (subst G (sym p) h) (p ∙ sym q)) t

    pull : {x i y j : ℕ} → G x → Trail G f x i y → Trail G f y (suc j) y → Trail G f x (suc j) x
    pull g stop c = c
    pull g (on {y = u} w t h p) c =
        let gu = good g t in
        pull g t (off w h p (before u h gu c p))

    last : {y j z : ℕ} → Trail G f y j z → (y ≡ z) ⊎ ((i : ℕ) × (r : ℕ) × Trail G f y i r × (f r ≡ z))
    last stop = inl refl
    last (on {k = k} {y = r} w u h q) = inr (k, r, u, q)

    pub join : {x i y j z : ℕ} → G x → G y → Trail G f x i z → Trail G f y j z → ((k : ℕ) × Trail G f x k y) ⊎ ((k : ℕ) × Trail G f y (suc k) x)
    join gx gy stop u = go u
      where
        go : {x y j : ℕ} → Trail G f y j x → ((k : ℕ) × Trail G f x k y) ⊎ ((k : ℕ) × Trail G f y (suc k) x)
        go stop = inl (0, stop)
        go (on {k = k} w u h q) = inr (k, on w u h q)
    join {y = y} gx gy (on {y = v} w t h p) u =
        ⊎_elim
        (λ e. inl (_, subst (Trail G f _ _) (sym e) (on w t h p)))
        (λ r. join {j = r.0} gx gy t (subst (Trail G f y _) (inj r.1 v (good gy r.2) (good gx t) (subst G (sym r.3) h) (r.3 ∙ sym p)) r.2))
        (last u)

    module _ (n : ℕ) (below : (e : ℕ) → G e → e < n) (x : ℕ) (gx : G x) (never : (k : ℕ) → Trail G f x (suc k) x → ⊥) where
      seen : {k y : ℕ} → Trail G f x k y → List ℕ
      seen stop = []
      seen (on {y = v} w t h p) = v ∷ seen t

      seen_length : {k y : ℕ} (t : Trail G f x k y) → length (seen t) ≡ k
      unfolding seen
      seen_length stop = refl
      seen_length (on w t h p) = ap suc (seen_length t)

      seen_there : {k y : ℕ} (t : Trail G f x k y) (v : ℕ) → 0 < occ v (seen t) → (i : ℕ) × (j : ℕ) × Trail G f x i v × Trail G f v (suc j) y
      unfolding seen
      seen_there stop v h = absurd (omega arith)
      seen_there (on {y = u} w t g p) v h =
          ⊎_elim
          (λ s. (_, 0, subst (Trail G f x _) (sym s.0) t, subst (λ a. Trail G f a 1 w) (sym s.0) (on w stop g p)))
          (λ s. let r = seen_there t v (omega arith) in (r.0, suc r.1, r.2, on w r.3 g p))
          (same_cases v u)

      seen_once : {k y : ℕ} (t : Trail G f x k y) (v : ℕ) → occ v (seen t) ≤ 1
      unfolding seen
      seen_once stop v = omega arith
      seen_once (on {y = u} w t g p) v =
          ⊎_elim
          (λ s. ⊎_elim
          (λ h. let r = seen_there t v h in absurd (never r.1 (pull gx r.2 (subst (Trail G f v _) (sym s.0) r.3))))
          (λ h. omega arith)
          (lt_or_ge 0 (occ v (seen t))))
          (λ s. omega (arith, seen_once t v))
          (same_cases v u)

      short : {k y : ℕ} → Trail G f x k y → k ≤ n
      short t =
          omega (arith, seen_length t, pigeonhole n (seen t) (λ v h. let r = seen_there t v h in below v (good gx r.2)) (seen_once t))

      module _ (StopsAt : ℕ → Type 0) (step : (e : ℕ) → G e → StopsAt e ⊎ G (f e)) where
        run : (fuel : ℕ) {k y : ℕ} → k + fuel ≡ suc n → Trail G f x k y → (j : ℕ) × (z : ℕ) × Trail G f x j z × StopsAt z
        run zero q t = absurd (omega (arith, short t))
        run (suc fuel) {k} {y} q t =
            ⊎_elim
            (λ e. (k, y, t, e))
            (λ g. run fuel (omega arith) (on (f y) t g refl))
            (step y (good gx t))

        pub ends : (j : ℕ) × (z : ℕ) × Trail G f x j z × StopsAt z
        ends = run (suc n) (omega arith) stop
