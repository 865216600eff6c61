-- Where a run is refused: the state stands at the first byte after which no sound form can follow, or at the end of a form that has not ended; and there is one such place.
use Rattle.std.specs.Prelude.{◌≡◌, refl, Bool, true, false, List, [], ◌∷◌, ◌++◌, ◌⊎◌, ◌≢◌, ℕ, zero, suc, ◌+◌, ◌≤◌, ◌<◌, eqb, length, get_or, take, drop, replicate}
use Rattle.std.proofs.Common.{sym, ap, ◌∙◌, subst, append_assoc, inl, inr, ⊎_elim, arith, add-one, take-append-drop, take-take, eqb-true, lt-ltb}
use Rattle.std.proofs.lemmas.List.{length-replicate}
use Rattle.std.proofs.Math.Seq.{take-length}
use Rattle.std.proofs.lemmas.Bool.{eqb-false}
use Rattle.base.specs.common.laws.Decide.{eq_or_ne}
use Rattle.base.specs.common.Pick.{pick}
use Rattle.base.specs.numbers.Numbers.{refused_form}
use Rattle.octets.specs.Bytes.{Bytes}
use Rattle.octets.specs.laws.Bytes.{bytes_take}
use Rattle.form.specs.Form.{IsForm}
use Rattle.form.specs.step.Reader.{size_of, opens, room_left, follows, broken, start, number_for, refused, begun, inside, outside, step, steps, verdict, sound_of, broken_of}
use Rattle.form.specs.step.laws.Steps.{step_outside, number_broken}
use Rattle.form.specs.step.Standing.{Ok}
use Rattle.form.specs.step.laws.Standing.{ok_start, ok_steps}
use Rattle.form.specs.laws.Run.{kind_follows}
use Rattle.form.specs.laws.Cut.{Ended, steps_append, steps_broken, true_false, partway}
use Rattle.form.specs.laws.Exact.{sound_broken, accepts, only_forms}
use Rattle.form.specs.declared.step.Reader.{Reader}
use Rattle.form.specs.step.Holds.{form_number, form_place}
use Rattle.form.specs.Place.{StartsForm, Place}

-- ---- where a run is refused

pub record Stops (r : Reader) (s : List ℕ) (j : ℕ) : Type 0 where
  pub within : j < length s
  pub before : broken (steps r (take j s)) ≡ false
  pub between : (steps r (take j s)).left ≡ 0
  pub after : broken (steps r (take (suc j) s)) ≡ true
  pub at : (steps r s).at ≡ r.at + j
  pub number : (steps r s).refusal ≡ number_for (steps r (take j s)) (get_or s j 0)

-- one byte: refused where it stands, with its number, or one byte more
record Kept (r : Reader) (b : ℕ) (n : Reader) : Type 0 where
  broken : broken n ≡ true
  between : r.left ≡ 0
  at : n.at ≡ r.at
  number : n.refusal ≡ number_for r b

abbrev Moved : Reader → ℕ → Reader → Type 0
Moved r b n = Kept r b n ⊎ ((broken n ≡ false) × (n.at ≡ r.at + 1))

moved : (r : Reader) (b : ℕ) → broken r ≡ false → Moved r b (step r b)
unfolding step outside inside begun refused
moved r b e = go (broken r) (eqb r.left 0) (follows r b) e refl
  where
    go :
        (v t f : Bool) → v ≡ false → eqb r.left 0 ≡ t
        → Moved r b (pick v (λ _. r) (λ _. pick t (λ _. pick f (λ _. begun r b) (λ _. refused r (number_for r b))) (λ _. inside r b)))
    go true t f e z = true_false e
    go false true true e z = inr (refl, refl)
    go false true false e z = inl (record { broken = number_broken r b; between = eqb-true _ _ z; at = refl; number = refl })
    go false false f e z = inr (refl, refl)

pub record SomeStop (r : Reader) (s : List ℕ) : Type 0 where
  pub place : ℕ
  pub stops : Stops r s place

pub stop : (s : List ℕ) (r : Reader) → broken r ≡ false → broken (steps r s) ≡ true → SomeStop r s
unfolding steps
stop [] r e f = true_false (sym f ∙ e)
stop (b ∷ s) r e f = ⊎_elim here (λ v. on v (stop s (step r b) v.0 f)) (moved r b e)
  where
    here : Kept r b (step r b) → SomeStop r (b ∷ s)
    here v =
        record {
          place = 0;
          stops =
              record {
                within = omega arith;
                before = e;
                between = v.between;
                after = v.broken;
                at = ap (λ (n : Reader). n.at) (steps_broken s (step r b) v.broken) ∙ v.at ∙ omega arith;
                number = ap (λ (n : Reader). n.refusal) (steps_broken s (step r b) v.broken) ∙ v.number;
              };
        }

    on : (broken (step r b) ≡ false) × ((step r b).at ≡ r.at + 1) → SomeStop (step r b) s → SomeStop r (b ∷ s)
    on v w =
        let t = w.stops in
        record {
          place = suc w.place;
          stops =
              record {
                within = omega (arith, t.within);
                before = t.before;
                between = t.between;
                after = t.after;
                at = omega (arith, t.at, v.1);
                number = t.number;
              };
        }

pub taken_all : (s : List ℕ) (r : Reader) → broken r ≡ false → broken (steps r s) ≡ false → (steps r s).at ≡ r.at + length s
unfolding steps
taken_all [] r e f = omega arith
taken_all (b ∷ s) r e f =
    ⊎_elim (λ v. true_false (sym (ap broken (steps_broken s (step r b) v.broken) ∙ v.broken) ∙ f))
    (λ v. omega (arith, taken_all s (step r b) v.0 f, v.1))
    (moved r b e)

-- ---- every state that is not refused can be brought to an end

record Ending (r : Reader) : Type 0 where
  rest : List ℕ
  bytes : Bytes rest
  ends : Ended (steps r rest)

pub five_ends : (r : Reader) → broken r ≡ false → r.left ≡ 0 → 1 ≤ r.stage → r.stage < 5 → Ended (steps r (5 ∷ []))
unfolding steps outside room_left begun opens
five_ends r e z l h =
    let i : step r 5 ≡ begun r 5 = step_outside r 5 e z ∙ rw (kind_follows r 5 l (omega arith) (lt-ltb r.stage 5 h)) in
    subst Ended (sym i) (record { unbroken = refl; stage = refl })

five : (r : Reader) → broken r ≡ false → r.left ≡ 0 → 1 ≤ r.stage → r.stage < 5 → Ending r
five r e z l h = record { rest = 5 ∷ []; bytes = (omega arith, tt); ends = five_ends r e z l h }

pub bytes_both : (a : List ℕ) → Bytes a → (b : List ℕ) → Bytes b → Bytes (a ++ b)
bytes_both [] p b q = q
bytes_both (x ∷ a) p b q = (p.0, bytes_both a p.1 b q)

after : {r n : Reader} (s : List ℕ) → Bytes s → steps r s ≡ n → Ending n → Ending r
after {r} {n} s h e f =
    record {
      rest = s ++ f.rest;
      bytes = bytes_both s h f.rest f.bytes;
      ends = subst Ended (sym (steps_append s f.rest r ∙ ap (λ (m : Reader). steps m f.rest) e)) f.ends;
    }

zeros : (n : ℕ) → Bytes (replicate n 0)
zeros zero = tt
zeros (suc n) = (omega arith, zeros n)

between : (r : Reader) → broken r ≡ false → r.left ≡ 0 → r.stage ≤ 5 → Ending r
unfolding steps outside follows opens begun size_of
between r e z h = ⊎_elim first (λ d. ⊎_elim last (λ d'. five r e z (omega (arith, d)) (omega (arith, d'))) (eq_or_ne r.stage 5)) (eq_or_ne r.stage 0)
  where
    last : r.stage ≡ 5 → Ending r
    last q = record { rest = []; bytes = tt; ends = record { unbroken = e; stage = q } }

    first : r.stage ≡ 0 → Ending r
    first q =
        let i : steps r (1 ∷ []) ≡ begun r 1 = step_outside r 1 e z ∙ rw q in
        let t : List ℕ = replicate 32 0 in
        let p = partway t (begun r 1) refl (omega arith) in
        after (1 ∷ []) (omega arith, tt) i
        (after t (zeros 32) refl (five (steps (begun r 1) t) p.unbroken (omega (arith, p.left)) (omega (arith, p.stage)) (omega (arith, p.stage))))

ending : (r : Reader) → broken r ≡ false → Ok r → Ending r
ending r e o =
    let t : List ℕ = replicate r.left 0 in
    let l : length t ≡ r.left = length-replicate r.left 0 in
    let p = partway t r e (omega arith) in
    after t (zeros r.left) refl (between (steps r t) p.unbroken (omega (arith, p.left)) (omega (arith, p.stage, o.stage)))

-- ---- the theorem

begins_so : (old : Bool) (s : List ℕ) → Bytes s → broken (steps (start old) s) ≡ false → StartsForm old s
begins_so old s h e =
    let x = ending (steps (start old) s) e (ok_steps s (start old) (ok_start old)) in
    record {
      rest = x.rest;
      form = only_forms old (s ++ x.rest) (bytes_both s h x.rest x.bytes) (subst Ended (sym (steps_append s x.rest (start old))) x.ends);
    }

-- what is refused stays so, whatever follows
never_begins : (old : Bool) (s : List ℕ) → broken (steps (start old) s) ≡ true → StartsForm old s → ⊥
never_begins old s e f =
    true_false
    (sym (ap broken (steps_append s f.rest (start old) ∙ steps_broken f.rest (steps (start old) s) e) ∙ e)
    ∙ (accepts old (s ++ f.rest) f.form).unbroken)

refused_place : (old : Bool) (s : List ℕ) → Bytes s → broken (steps (start old) s) ≡ true → Place old s (steps (start old) s).at
refused_place old s h e = go (stop s (start old) refl e)
  where
    go : SomeStop (start old) s → Place old s (steps (start old) s).at
    go x =
        let t = x.stops in
        let j = x.place in
        let k : (steps (start old) s).at ≡ j = omega (arith, t.at) in
        subst (Place old s) (sym k)
        (record {
          within = omega (arith, t.within);
          before = begins_so old (take j s) (bytes_take j s h) t.before;
          at = λ l f. never_begins old (take (suc j) s) t.after (subst (λ (n : ℕ). StartsForm old (take n s)) (add-one j) f);
          ended = λ l f. absurd (omega (arith, t.within));
        })

unended_place : (old : Bool) (s : List ℕ) → Bytes s → broken (steps (start old) s) ≡ false → (steps (start old) s).stage ≢ 5 → Place old s (steps (start old) s).at
unended_place old s h e d =
    let k : (steps (start old) s).at ≡ length s = omega (arith, taken_all s (start old) refl e) in
    subst (Place old s) (sym k)
    (record {
      within = omega arith;
      before = subst (StartsForm old) (sym (take-length s)) (begins_so old s h e);
      at = λ l f. omega arith;
      ended = λ l f. d (accepts old s f).stage;
    })

pub broken_at : (m n a b : ℕ) → broken_of m a ≡ broken_of n b → (m ≡ n) × (a ≡ b)
broken_at m n a b e = (ap form_number e, ap form_place e)

pub refused_at_lem : (old : Bool) (s : List ℕ) → Bytes s → (n k : ℕ) → verdict (steps (start old) s) ≡ broken_of n k → Place old s k
unfolding verdict
refused_at_lem old s h n k e = go (broken (steps (start old) s)) (eqb (steps (start old) s).stage 5) refl refl e
  where
    go :
        (t u : Bool) → broken (steps (start old) s) ≡ t → eqb (steps (start old) s).stage 5 ≡ u
        → (let r = steps (start old) s in
        pick t (λ _. broken_of r.refusal r.at) (λ _. pick u (λ _. sound_of r.sites r.triangles r.hull r.clip) (λ _. broken_of refused_form r.at)) ≡ broken_of n k)
        → Place old s k
    go true u p q f = subst (Place old s) (broken_at _ _ _ _ f).1 (refused_place old s h p)
    go false true p q f = sound_broken (sym f)
    go false false p q f = subst (Place old s) (broken_at _ _ _ _ f).1 (unended_place old s h p (eqb-false _ _ q))

-- there is one such place
pub one_place : (old : Bool) (s : List ℕ) (j k : ℕ) → Place old s j → Place old s k → j < k → ⊥
one_place old s j k p q l =
    let b = q.before in
    let e : take (j + 1) (take k s) ≡ take (j + 1) s = take-take (j + 1) k s (omega arith) in
    let f : take (j + 1) s ++ drop (j + 1) (take k s) ≡ take k s = ap (λ (z : List ℕ). z ++ drop (j + 1) (take k s)) (sym e) ∙ take-append-drop (j + 1) (take k s) in
    p.at (omega (arith, q.within))
    (record {
      rest = drop (j + 1) (take k s) ++ b.rest;
      form = subst (IsForm old) (sym (ap (λ (z : List ℕ). z ++ b.rest) f) ∙ append_assoc (take (j + 1) s) (drop (j + 1) (take k s)) b.rest) b.form;
    })
