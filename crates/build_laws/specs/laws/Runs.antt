-- Runs: loops whose steps may be refused. Where one is refused, the steps before went through; where it went through, so did each part of it.
use Rattle.std.specs.Prelude.{◌≡◌, Bool, true, false}
use Rattle.std.proofs.Math.Path.{refl, ap}
use Rattle.std.proofs.Common.{sym, ◌∙◌}
use Rattle.std.proofs.Math.Logic.{⊎_elim}
use Prim.Native.Nat.{ℕ, zero, suc, ◌+◌, ◌≤◌, ◌<◌}
use native.Mathlib.Omega.{arith}
use Rattle.base.specs.common.laws.Decide.{lt_or_ge}
use Rattle.definition.specs.Fault.{Outcome, ok, refused, and_then}

-- ---- outcomes

pub true_false : {t : Bool} → t ≡ true → t ≡ false → ⊥
true_false e f = let z : ◌≡◌ {A = ℕ} 0 1 = cc in omega arith

pub ok_same : {F A : Type 0} {a b : A} → ◌≡◌ {A = Outcome F A} (ok a) (ok b) → a ≡ b
ok_same e = cc

pub refused_same : {F A : Type 0} {f g : F} → ◌≡◌ {A = Outcome F A} (refused f) (refused g) → f ≡ g
refused_same e = cc

pub not_both : {F A : Type 0} {a : A} {f : F} → ◌≡◌ {A = Outcome F A} (ok a) (refused f) → ⊥
not_both e = let z : ◌≡◌ {A = ℕ} 0 1 = cc in omega arith

pub then_ok : {F A B : Type 0} {o : Outcome F A} {a : A} (k : A → Outcome F B) → o ≡ ok a → and_then o k ≡ k a
unfolding and_then
then_ok k e = ap (λ o. and_then o k) e

pub then_refused : {F A B : Type 0} {o : Outcome F A} {f : F} (k : A → Outcome F B) → o ≡ refused f → and_then o k ≡ refused f
unfolding and_then
then_refused k e = ap (λ o. and_then o k) e

pub then_same : {F A B : Type 0} (o : Outcome F A) (k j : A → Outcome F B) → ((a : A) → k a ≡ j a) → and_then o k ≡ and_then o j
unfolding and_then
then_same (ok a) k j h = h a
then_same (refused f) k j h = refl

-- a step that went through, and the one after it
pub record Went {F A B : Type 0} (o : Outcome F A) (k : A → Outcome F B) (b : B) : Type 0 where
  pub value : A
  pub first : o ≡ ok value
  pub then : k value ≡ ok b

pub went : {F A B : Type 0} (o : Outcome F A) (k : A → Outcome F B) {b : B} → and_then o k ≡ ok b → Went o k b
unfolding and_then
went (ok a) k h = record { value = a; first = refl; then = h }
went (refused f) k h = absurd (not_both (sym h))

-- the first step is refused, or the one after it
pub data Halted {F A B : Type 0} (o : Outcome F A) (k : A → Outcome F B) (f : F) : Type 0 where
  halted_first : o ≡ refused f → Halted o k f
  halted_later : (a : A) → o ≡ ok a → k a ≡ refused f → Halted o k f

pub halted : {F A B : Type 0} (o : Outcome F A) (k : A → Outcome F B) {f : F} → and_then o k ≡ refused f → Halted o k f
unfolding and_then
halted (ok a) k h = halted_later a refl h
halted (refused g) k h = halted_first (ap refused (refused_same h))

-- ---- runs

module _ {F A : Type 0} (step : ℕ → A → Outcome F A) where
  -- the first k steps
  unfoldable pub run : ℕ → A → Outcome F A
  run zero a = ok a
  run (suc k) a = and_then (run k a) (step k)

  -- k steps from i on, as the definitions have it
  unfoldable pub loop : ℕ → ℕ → A → Outcome F A
  loop i zero a = ok a
  loop i (suc k) a = and_then (step i a) (λ r. loop (suc i) k r)

  loop_last : (k i : ℕ) (a : A) → loop i (suc k) a ≡ and_then (loop i k a) (step (i + k))
  unfolding loop and_then
  loop_last zero i a = by (step i a) refl
    where
      by : (o : Outcome F A) → step i a ≡ o → and_then (step i a) (λ r. ok r) ≡ step (i + 0) a
      by (ok r) e = let z : i + 0 ≡ i = omega arith in rw (z, e) refl
      by (refused f) e = let z : i + 0 ≡ i = omega arith in rw (z, e) refl
  loop_last (suc k) i a = by (step i a) (loop_last k (suc i))
    where
      by : (o : Outcome F A) → ((r : A) → loop (suc i) (suc k) r ≡ and_then (loop (suc i) k r) (step (suc i + k)))
          → and_then o (λ r. loop (suc i) (suc k) r) ≡ and_then (and_then o (λ r. loop (suc i) k r)) (step (i + suc k))
      by (ok r) h = let z : suc i + k ≡ i + suc k = omega arith in rw z at (h r)
      by (refused f) h = refl

  pub loop_run : (k : ℕ) (a : A) → loop 0 k a ≡ run k a
  unfolding loop run
  loop_run zero a = refl
  loop_run (suc k) a = let z : 0 + k ≡ k = omega arith in (rw z at (loop_last k 0 a)) ∙ ap (λ o. and_then o (step k)) (loop_run k a)

  -- a step is refused, and those before it went through
  pub run_refused : (k : ℕ) (a : A) {f : F} → run k a ≡ refused f → (j : ℕ) × (r : A) × (j < k) × (run j a ≡ ok r) × (step j r ≡ refused f)
  unfolding run
  run_refused zero a h = absurd (not_both h)
  run_refused (suc k) a {f} h = by (halted (run k a) (step k) h) (run_refused k a)
    where
      by : Halted (run k a) (step k) f → (run k a ≡ refused f → (j : ℕ) × (r : A) × (j < k) × (run j a ≡ ok r) × (step j r ≡ refused f))
          → (j : ℕ) × (r : A) × (j < suc k) × (run j a ≡ ok r) × (step j r ≡ refused f)
      by (halted_first e) ih = let w = ih e in (w.0, w.1, omega (arith, w.2), w.3, w.4)
      by (halted_later r e g) ih = (k, r, omega arith, e, g)

  pub refused_run : (k j : ℕ) (a r : A) {f : F} → j < k → run j a ≡ ok r → step j r ≡ refused f → run k a ≡ refused f
  unfolding run
  refused_run zero j a r l e g = absurd (omega arith)
  refused_run (suc k) j a r {f} l e g =
      ⊎_elim
      (λ m. then_refused (step k) (refused_run k j a r m e g))
      (λ m. let z : j ≡ k = omega arith in then_ok (step k) (rw z at e) ∙ (rw z at g))
      (lt_or_ge j k)

  pub run_before : (k j : ℕ) (a : A) {s : A} → j ≤ k → run k a ≡ ok s → (r : A) × (run j a ≡ ok r)
  unfolding run
  run_before zero j a {s} l h = let z : j ≡ 0 = omega arith in (s, rw z h)
  run_before (suc k) j a {s} l h =
      let w = went (run k a) (step k) h in
      ⊎_elim
      (λ m. run_before k j a (omega arith) w.first)
      (λ m. let z : j ≡ suc k = omega arith in (s, rw z h))
      (lt_or_ge j (suc k))

  -- what holds after j steps and is kept by each further one holds after k
  pub run_keeps : (P : ℕ → A → Type 0) (j : ℕ) (a : A) {r : A} → run j a ≡ ok r → P j r → (k : ℕ) → j ≤ k
      → ((i : ℕ) (u v : A) → j ≤ i → i < k → run i a ≡ ok u → step i u ≡ ok v → P i u → P (suc i) v) → {s : A} → run k a ≡ ok s → P k s
  unfolding run
  run_keeps P j a {r} e p zero l keep {s} h =
      let z : j ≡ 0 = omega arith in
      let q : r ≡ s = ok_same (sym (rw z at e) ∙ h) in
      rw (← q) (rw z at p)
  run_keeps P j a {r} e p (suc k) l keep {s} h =
      let w = went (run k a) (step k) h in
      ⊎_elim
      (λ m. keep k w.value s (omega arith) (omega arith) w.first w.then (run_keeps P j a e p k (omega arith) (λ i u v lo hi. keep i u v lo (omega arith)) w.first))
      (λ m. let z : j ≡ suc k = omega arith in let q : r ≡ s = ok_same (sym (rw z at e) ∙ h) in rw (← q) (rw z at p))
      (lt_or_ge j (suc k))

  -- each step of a run that went through did
  pub run_step : (k j : ℕ) (a : A) {r s : A} → j < k → run j a ≡ ok r → run k a ≡ ok s → (t : A) × (step j r ≡ ok t) × (run (suc j) a ≡ ok t)
  unfolding run
  run_step k j a {r} l e h =
      let w = run_before k (suc j) a (omega arith) h in
      let v = went (run j a) (step j) w.1 in
      let q : v.value ≡ r = ok_same (sym v.first ∙ e) in
      (w.0, rw q at v.then, w.1)
