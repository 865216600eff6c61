-- Which byte led to a state of a reader: an empty state, a first record begun, and the bytes that refuse.
use Rattle.std.specs.Prelude.{◌≡◌, refl, Bool, true, false, List, [], ◌∷◌, ◌++◌, ◌≢◌, ℕ, ◌<◌, ltb}
use Rattle.std.proofs.Common.{sym, ap, ◌∙◌, subst, inl, ⊎_elim, arith, ne_eqb, lt-ltb}
use Rattle.base.specs.common.Pick.{pick}
use Rattle.base.specs.common.laws.Decide.{eq_or_ne}
use Rattle.base.specs.numbers.Numbers.{refused_form, refused_unclipped}
use Rattle.octets.specs.Bytes.{Bytes}
use Rattle.form.specs.step.Reader.{size_of, opens, room_left, number_for, follows, broken, start, refused, begun, outside, step, steps, finished}
use Rattle.form.specs.step.Standing.{under, body_of, kinds, bodies, Ok}
use Rattle.form.specs.step.laws.Steps.{step_outside}
use Rattle.form.specs.step.laws.Standing.{body_first, sizes, kinds_between}
use Rattle.form.specs.declared.step.Reader.{Reader}
use Rattle.reader_reached.specs.laws.Earlier.{same_state, body_of_kind, under_not, kinds_first, bodies_are}
use Rattle.reader_reached.specs.laws.Before.{outside_step}

pub small_more : (s : List ℕ) (b : ℕ) → Bytes s → b < 256 → Bytes (s ++ b ∷ [])
small_more [] b h l = (l, tt)
small_more (x ∷ s) b h l = (h.0, small_more s b h.1 l)

pub one_step : (r : Reader) (b : ℕ) → steps r (b ∷ []) ≡ step r b
unfolding steps
one_step r b = refl

pub first_counts : {r : Reader} → Ok r → r.stage < 2 → (r.sites ≡ 0) × (r.triangles ≡ 0) × (r.hull ≡ 0)
first_counts o l = (omega (arith, o.sites.before l), omega (arith, o.triangles.before (omega arith)), omega (arith, o.hull.before (omega arith)))

pub first_unders : (r : Reader) → r.stage < 2 → (under r 2 ≡ 0) × (under r 3 ≡ 0) × (under r 4 ≡ 0)
first_unders r l = (under_not r 2 (inl (λ z. omega arith)), under_not r 3 (inl (λ z. omega arith)), under_not r 4 (inl (λ z. omega arith)))

pub nothing_came : {r : Reader} → Ok r → r.old ≡ false → r.refusal ≡ 0 → r.stage ≡ 0 → start false ≡ r
nothing_came {r} o new f e =
    let (a, b, c) = first_counts o (omega arith) in
    let (u, v, w) = first_unders r (omega arith) in
    let k = o.no_clip e in
    let s : size_of r.clip ≡ 0 = ap size_of k ∙ sizes.0 in
    let l : r.left ≡ 0 = omega (arith, o.left, body_of_kind r 0 (λ q. omega arith) e, sizes.0) in
    let m : bodies r ≡ 0 = omega (arith, bodies_are r) in
    same_state (start false) r (sym new) (sym e) (sym l) (sym (o.no_word (omega arith))) (omega (arith, o.at, kinds_first r e)) (sym f) (sym k) (sym a) (sym b) (sym c)

pub follows_first : (k : ℕ) → opens false k ≡ true → follows (start false) k ≡ true
unfolding follows
follows_first k e = e

pub opened_so : {r : Reader} → Ok r → r.old ≡ false → r.refusal ≡ 0 → r.stage ≡ 1 → r.left ≡ body_of r → step (start false) r.clip ≡ r
unfolding begun
opened_so {r} o new f e h =
    let (a, b, c) = first_counts o (omega arith) in
    let (u, v, w) = first_unders r (omega arith) in
    let q : opens false r.clip ≡ true = subst (λ (t : Bool). opens t r.clip ≡ true) new (o.clip (λ z. omega arith)) in
    let z : r.left ≡ size_of r.clip = h ∙ body_first r e in
    let m : bodies r ≡ size_of r.clip = omega (arith, bodies_are r) in
    outside_step (start false) r.clip refl refl (follows_first r.clip q)
    ∙ rw q
    (same_state
    (record { old = false; stage = 1; left = size_of r.clip; word = 0; at = 1; refusal = 0; clip = r.clip; sites = 0; triangles = 0; hull = 0 }) r
    (sym new) (sym e) (sym z) (sym (o.no_word (omega arith)))
    (omega (arith, o.at, kinds_between r (λ i. omega arith) (λ i. omega arith))) (sym f) refl (sym a) (sym b) (sym c))

abbrev pub unrefused : Reader → Reader
unrefused r =
    record {
      old = r.old;
      stage = r.stage;
      left = r.left;
      word = r.word;
      at = r.at;
      refusal = 0;
      clip = r.clip;
      sites = r.sites;
      triangles = r.triangles;
      hull = r.hull;
    }

pub ok_unrefused : {r : Reader} → Ok r → Ok (unrefused r)
unfolding under body_of kinds bodies
ok_unrefused o =
    record {
      refusal = inl refl;
      by_name = λ q. absurd (omega arith);
      stage = o.stage;
      no_clip = o.no_clip;
      clip = o.clip;
      left = o.left;
      sites = o.sites;
      triangles = o.triangles;
      hull = o.hull;
      at = o.at;
      no_word = o.no_word;
      word = o.word;
    }

pub refused_is : (r : Reader) (n : ℕ) → r.refusal ≡ n → refused (unrefused r) n ≡ r
unfolding refused
refused_is r n f = same_state (refused (unrefused r) n) r refl refl refl refl refl (sym f) refl refl refl refl

-- no record is of kind 0
pub no_kind : (r : Reader) → follows r 0 ≡ false
unfolding follows opens
no_kind r = ⊎_elim (λ e. rw e) (λ d. rw (ne_eqb r.stage 0 d, lt-ltb 0 r.stage (omega (arith, d)))) (eq_or_ne r.stage 0)

pub refuses : (r : Reader) → broken r ≡ false → r.left ≡ 0 → step r 0 ≡ refused r refused_form
unfolding outside number_for
refuses r e z = step_outside r 0 e z ∙ rw (no_kind r)

-- nor of kind 6, which is refused by name before the end
pub no_six : (r : Reader) → r.old ≡ false → follows r 6 ≡ false
unfolding follows opens room_left
no_six r new = ⊎_elim (λ e. rw e new) (λ d. rw (ne_eqb r.stage 0 d) (either (ltb 6 r.stage))) (eq_or_ne r.stage 0)
  where
    either : (t : Bool) → pick {A = Bool} t (λ _. false) (λ _. false) ≡ false
    either true = refl
    either false = refl

pub refuses_six : (r : Reader) → broken r ≡ false → r.old ≡ false → r.left ≡ 0 → r.stage < 5 → step r 6 ≡ refused r refused_unclipped
unfolding outside number_for
refuses_six r e new z l = step_outside r 6 e z ∙ rw (no_six r new, lt-ltb r.stage 5 l)

pub ends_so : (r : Reader) → broken r ≡ false → r.stage ≢ 5 → finished r ≡ refused r refused_form
unfolding finished
ends_so r e d = rw (e, ne_eqb r.stage 5 d)
