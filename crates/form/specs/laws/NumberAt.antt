-- The number of a refusal: 20 exactly where the word that there is no box stands as a kind before the end.
use Rattle.std.specs.Prelude.{◌≡◌, refl, Bool, true, false, ◌≢◌, ℕ, ◌≤◌, ◌<◌, eqb, length, get_or, take}
use Rattle.std.proofs.Common.{sym, ◌∙◌, subst, inl, inr, ne_eqb, lt-ltb, le-ltb}
use Rattle.std.proofs.Math.Path.{ap}
use mathlib.Core.List.{List, [], ◌∷◌, ◌++◌}
use Rattle.std.proofs.Math.Logic.{⊎_elim}
use native.Mathlib.Omega.{arith}
use Rattle.base.specs.common.Pick.{pick}
use Rattle.base.specs.common.laws.Decide.{eq_or_ne, lt_or_ge}
use Rattle.base.specs.numbers.Numbers.{refused_form, refused_unclipped}
use Rattle.octets.specs.Bytes.{Bytes}
use Rattle.form.specs.Form.{IsForm}
use Rattle.form.specs.Place.{Expects, NumberAt}
use Rattle.form.specs.step.Reader.{broken, start, number_for, refused, outside, step, steps, verdict, sound_of, broken_of}
use Rattle.form.specs.step.laws.Steps.{step_outside}
use Rattle.form.specs.step.laws.Standing.{ok_start, ok_steps, nothing, none_after_end}
use Rattle.octets.specs.laws.Bytes.{bytes_take}
use Rattle.form.specs.laws.Cut.{Ended, steps_append}
use Rattle.form.specs.laws.Tail.{after_end, refused_ends}
use Rattle.form.specs.laws.Exact.{sound_broken, accepts, only_forms}
use Rattle.form.specs.laws.Place.{SomeStop, stop, taken_all, five_ends, bytes_both, broken_at}
use Rattle.form.specs.declared.step.Reader.{Reader}

no_bytes : (s : List ℕ) → length s ≡ 0 → s ≡ []
no_bytes [] e = refl
no_bytes (b ∷ s) e = absurd (omega arith)

past : (s : List ℕ) → get_or s (length s) 0 ≡ 0
past [] = refl
past (b ∷ s) = past s

-- ---- where a kind is expected, as the state tells

module _ (old : Bool) (s : List ℕ) (h : Bytes s) (e : broken (steps (start old) s) ≡ false) where
  expects : (steps (start old) s).left ≡ 0 → (steps (start old) s).stage ≢ 5 → Expects old s
  expects z d = ⊎_elim (λ q. inl (none q)) (λ q. inr (ends q)) (eq_or_ne (steps (start old) s).stage 0)
    where
      none : (steps (start old) s).stage ≡ 0 → s ≡ []
      none q = no_bytes s (omega (arith, taken_all s (start old) refl e, (nothing (ok_steps s (start old) (ok_start old)) q z).at))

      ends : (steps (start old) s).stage ≢ 0 → IsForm old (s ++ 5 ∷ [])
      ends q =
          let o = ok_steps s (start old) (ok_start old) in
          only_forms old (s ++ 5 ∷ []) (bytes_both s h (5 ∷ []) (omega arith, tt))
          (subst Ended (sym (steps_append s (5 ∷ []) (start old))) (five_ends (steps (start old) s) e z (omega (arith, q)) (omega (arith, d, o.stage))))

  no_end : Expects old s → (steps (start old) s).stage ≢ 5
  unfolding steps outside
  no_end x q = ⊎_elim nothing_came unended x
    where
      nothing_came : s ≡ [] → ⊥
      nothing_came p = let z : (steps (start old) s).stage ≡ 0 = ap (λ (t : List ℕ). (steps (start old) t).stage) p in omega arith

      unended : IsForm old (s ++ 5 ∷ []) → ⊥
      unended f =
          let r = steps (start old) s in
          let i : step r 5 ≡ refused r (number_for r 5) = step_outside r 5 e (none_after_end (ok_steps s (start old) (ok_start old)) q) ∙ rw (after_end r 5 q) in
          refused_ends r 5 [] (subst Ended (steps_append s (5 ∷ []) (start old) ∙ i) (accepts old (s ++ 5 ∷ []) f))

-- ---- the number

number_six : (r : Reader) (b : ℕ) → b ≡ 6 → r.stage < 5 → number_for r b ≡ refused_unclipped
unfolding number_for
number_six r b e d = rw (e, lt-ltb r.stage 5 d)

number_other : (r : Reader) (b : ℕ) → (b ≡ 6 → r.stage < 5 → ⊥) → number_for r b ≡ refused_form
unfolding number_for
number_other r b n = ⊎_elim a_six no_six (eq_or_ne b 6)
  where
    no_six : b ≢ 6 → number_for r b ≡ refused_form
    no_six d = rw (ne_eqb b 6 d)

    ended : b ≡ 6 → 5 ≤ r.stage → number_for r b ≡ refused_form
    ended e q = rw (e, le-ltb r.stage 5 q)

    a_six : b ≡ 6 → number_for r b ≡ refused_form
    a_six e = ⊎_elim (λ d. absurd (n e d)) (ended e) (lt_or_ge r.stage 5)

number_refused : (old : Bool) (s : List ℕ) → Bytes s → broken (steps (start old) s) ≡ true → NumberAt old s (steps (start old) s).at (steps (start old) s).refusal
number_refused old s h e = go (stop s (start old) refl e)
  where
    go : SomeStop (start old) s → NumberAt old s (steps (start old) s).at (steps (start old) s).refusal
    go x =
        let t = x.stops in
        let j = x.place in
        let r = steps (start old) (take j s) in
        let b = bytes_take j s h in
        let o = ok_steps (take j s) (start old) (ok_start old) in
        let k : (steps (start old) s).at ≡ j = omega (arith, t.at) in
        rw (k, t.number)
        (record {
          six = λ g. number_six r (get_or s j 0) g.0 (let d = no_end old (take j s) b t.before g.1 in omega (arith, d, o.stage));
          other = λ n. number_other r (get_or s j 0) (λ q d. n (q, expects old (take j s) b t.before t.between (λ z. omega arith)));
        })

number_unended : (old : Bool) (s : List ℕ) → broken (steps (start old) s) ≡ false → NumberAt old s (steps (start old) s).at refused_form
number_unended old s e =
    let k : (steps (start old) s).at ≡ length s = omega (arith, taken_all s (start old) refl e) in
    rw k (record { six = λ g. absurd (omega (arith, past s, g.0)); other = λ n. refl })

pub number_at : (old : Bool) (s : List ℕ) → Bytes s → (n k : ℕ) → verdict (steps (start old) s) ≡ broken_of n k → NumberAt old s k n
unfolding verdict
number_at old s h n k e = go (broken (steps (start old) s)) (eqb (steps (start old) s).stage 5) refl e
  where
    go :
        (t u : Bool) → broken (steps (start old) s) ≡ t
        → (let r = steps (start old) s in
        pick t (λ _. broken_of r.refusal r.at) (λ _. pick u (λ _. sound_of r.sites r.triangles r.hull r.clip) (λ _. broken_of refused_form r.at)) ≡ broken_of n k)
        → NumberAt old s k n
    go true u p f = let i = broken_at _ _ _ _ f in rw (sym i.1, sym i.0) (number_refused old s h p)
    go false true p f = sound_broken (sym f)
    go false false p f = let i = broken_at _ _ _ _ f in rw (sym i.1, sym i.0) (number_unended old s p)
