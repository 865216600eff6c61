-- The step's cases as equations, what a kind that may follow is, and what is told where no more comes.
use Rattle.std.specs.Prelude.{◌≡◌, refl, Bool, true, false, ◌⊎◌, ◌≢◌, ℕ, ◌≤◌, ◌<◌, eqb, ltb}
use Rattle.std.proofs.Common.{sym, ◌∙◌, inl, inr, ⊎_elim, arith}
use borrow.Author.Tests.{eqb-true, eqb-false, ltb-true, ltb-false, ne_eqb}
use Rattle.base.specs.common.Pick.{pick}
use Rattle.base.specs.numbers.Numbers.{refused_form, refused_unclipped}
use Rattle.form.specs.Limits.{most_sites, most_triangles, most_hull}
use Rattle.form.specs.step.Reader.{opens, room_left, follows, number_for, refused, inside, outside, step, within, broken, finished, verdict, sound_of, broken_of}
use Rattle.form.specs.declared.step.Reader.{Reader}

pub by_test : (t : Bool) (a b : Bool) → pick t (λ _. a) (λ _. b) ≡ true → ((t ≡ true) × (a ≡ true)) ⊎ ((t ≡ false) × (b ≡ true))
by_test true a b e = inl (refl, e)
by_test false a b e = inr (refl, e)

never : {A : Type 0} → false ≡ true → A
never e = let z : ◌≡◌ {A = ℕ} 0 1 = cc in absurd (omega arith)

-- the kinds that open a form
pub data OpeningKind (old : Bool) : ℕ → Type 0 where
  box : OpeningKind old 1
  none : old ≡ true → OpeningKind old 6
  edges : OpeningKind old 7

pub opens_cases : (old : Bool) (k : ℕ) → opens old k ≡ true → OpeningKind old k
unfolding opens
opens_cases old k e =
    ⊎_elim (λ w. rw (eqb-true k 1 w.0) box)
    (λ v. ⊎_elim (λ w. rw (eqb-true k 6 w.0) (none w.1)) (λ w. rw (eqb-true k 7 w.1) edges) (by_test (eqb k 6) old (eqb k 7) v.1))
    (by_test (eqb k 1) true _ e)

-- a kind that there is room for
pub data RecordKind (r : Reader) : ℕ → Type 0 where
  site : r.sites < most_sites → RecordKind r 2
  triangle : r.triangles < most_triangles → RecordKind r 3
  hull : r.hull < most_hull → RecordKind r 4
  end : r.stage < 5 → RecordKind r 5

pub room_cases : (r : Reader) (k : ℕ) → room_left r k ≡ true → RecordKind r k
unfolding room_left
room_cases r k e =
    ⊎_elim (λ w. rw (eqb-true k 2 w.0) (site (ltb-true _ _ w.1)))
    (λ v. ⊎_elim (λ w. rw (eqb-true k 3 w.0) (triangle (ltb-true _ _ w.1)))
    (λ v. ⊎_elim (λ w. rw (eqb-true k 4 w.0) (hull (ltb-true _ _ w.1)))
    (λ v. ⊎_elim (λ w. rw (eqb-true k 5 w.0) (end (ltb-true _ _ w.1))) (λ w. never w.1) (by_test (eqb k 5) _ false v.1))
    (by_test (eqb k 4) _ _ v.1))
    (by_test (eqb k 3) _ _ v.1))
    (by_test (eqb k 2) _ _ e)

pub follows_cases : (r : Reader) (k : ℕ) → follows r k ≡ true → ((r.stage ≡ 0) × (opens r.old k ≡ true)) ⊎ ((r.stage ≢ 0) × (r.stage ≤ k) × RecordKind r k)
unfolding follows
follows_cases r k e =
    ⊎_elim (λ w. inl (eqb-true _ _ w.0, w.1))
    (λ v. ⊎_elim (λ w. never w.1) (λ w. inr (eqb-false _ _ v.0, ltb-false _ _ w.0, room_cases r k w.1)) (by_test (ltb k r.stage) false _ v.1))
    (by_test (eqb r.stage 0) _ _ e)

module _ (r : Reader) (b : ℕ) where
  pub step_broken : broken r ≡ true → step r b ≡ r
  unfolding step
  step_broken e = rw e

  pub step_outside : broken r ≡ false → r.left ≡ 0 → step r b ≡ outside r b
  unfolding step
  step_outside e z = rw (e, z)

  pub step_inside : broken r ≡ false → 0 < r.left → step r b ≡ inside r b
  unfolding step
  step_inside e p = rw (e, ne_eqb r.left 0 (λ z. omega arith))

pub within_is : (r : Reader) (k : ℕ) → broken r ≡ false → 0 < r.left → within r k ≡ eqb r.stage k
unfolding within
within_is r k e p = rw (e, ne_eqb r.left 0 (λ z. omega arith))

pub within_broken : (r : Reader) (k : ℕ) → broken r ≡ true → within r k ≡ false
unfolding within
within_broken r k e = rw e

pub within_outside : (r : Reader) (k : ℕ) → broken r ≡ false → r.left ≡ 0 → within r k ≡ false
unfolding within
within_outside r k e z = rw (e, z)

-- each number is one of a refusal
pub number_broken : (r : Reader) (b : ℕ) → broken (refused r (number_for r b)) ≡ true
unfolding refused number_for
number_broken r b = go (eqb b 6) (ltb r.stage 5)
  where
    go : (t u : Bool) → pick (eqb (pick t (λ _. pick u (λ _. refused_unclipped) (λ _. refused_form)) (λ _. refused_form)) 0) (λ _. false) (λ _. true) ≡ true
    go true true = refl
    go true false = refl
    go false u = refl

-- ---- what is told

pub verdict_broken : (r : Reader) → broken (finished r) ≡ true → verdict r ≡ broken_of (finished r).refusal (finished r).at
unfolding verdict finished refused
verdict_broken r e = go (broken r) (eqb r.stage 5) refl e
  where
    go :
        (t u : Bool) → broken r ≡ t
        → broken (pick t (λ _. r) (λ _. pick u (λ _. r) (λ _. refused r refused_form))) ≡ true
        → pick t (λ _. broken_of r.refusal r.at) (λ _. pick u (λ _. sound_of r.sites r.triangles r.hull r.clip) (λ _. broken_of refused_form r.at))
        ≡ (let n = pick t (λ _. r) (λ _. pick u (λ _. r) (λ _. refused r refused_form)) in broken_of n.refusal n.at)
    go true u p q = refl
    go false true p q = never (sym p ∙ q)
    go false false p q = refl

pub verdict_sound : (r : Reader) → broken (finished r) ≡ false
    → verdict r ≡ sound_of (finished r).sites (finished r).triangles (finished r).hull (finished r).clip
unfolding verdict finished refused
verdict_sound r e = go (broken r) (eqb r.stage 5) refl e
  where
    go :
        (t u : Bool) → broken r ≡ t
        → broken (pick t (λ _. r) (λ _. pick u (λ _. r) (λ _. refused r refused_form))) ≡ false
        → pick t (λ _. broken_of r.refusal r.at) (λ _. pick u (λ _. sound_of r.sites r.triangles r.hull r.clip) (λ _. broken_of refused_form r.at))
        ≡ (let n = pick t (λ _. r) (λ _. pick u (λ _. r) (λ _. refused r refused_form)) in sound_of n.sites n.triangles n.hull n.clip)
    go true u p q = never (sym q ∙ p)
    go false true p q = refl
    go false false p q = never (sym q)
