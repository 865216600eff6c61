-- Theorem: a state that is not taken for a damaged one is one that bytes leave, or bytes and the end: each has a byte that led to it, from a state that is a byte
-- less far.
use Rattle.std.specs.Prelude.{◌≡◌, refl, true, false, List, [], ◌∷◌, ◌++◌, ◌⊎◌, ◌≢◌, ℕ, zero, suc, ◌+◌, ◌/◌, ◌^◌, ◌≤◌, ◌<◌, take, drop}
use Rattle.std.proofs.Common.{ap, ◌∙◌, subst, inl, inr, ⊎_elim, arith}
use Rattle.base.specs.common.laws.Decide.{eq_or_ne, lt_or_ge}
use Rattle.base.specs.numbers.Numbers.{refused_form, refused_unclipped}
use Rattle.octets.specs.Bytes.{Bytes}
use Rattle.form.specs.step.Reader.{start, step, steps, finished}
use Rattle.form.specs.step.Standing.{body_of, Ok}
use Rattle.form.specs.step.laws.Standing.{clip_small, sizes}
use Rattle.form.specs.laws.Cut.{steps_append}
use Rattle.form.specs.declared.step.Reader.{Reader}
use Rattle.reader.specs.standing.Stands.{both, is_valid}
use Rattle.reader.specs.standing.laws.Stands.{both_right, is_valid_ok}
use Rattle.reader.specs.state.Words.{reader_of}
use Rattle.reader.specs.state.Entered.{blank}
use Rattle.reader_reached.specs.laws.Earlier.{body_of_kind, earlier, at_first, ok_earlier, earlier_step}
use Rattle.reader_reached.specs.laws.Before.{before_kind, any_before}
use Rattle.reader_reached.specs.laws.Led.{small_more, one_step, nothing_came, opened_so, unrefused, ok_unrefused, refused_is, refuses, refuses_six, ends_so}

pub record ReachedState (r : Reader) : Type 0 where
  pub bytes : List ℕ
  pub small : Bytes bytes
  pub leads : steps (start false) bytes ≡ r

reached_more : {r n : Reader} (b : ℕ) → b < 256 → ReachedState r → step r b ≡ n → ReachedState n
reached_more {r} b l w e =
    record {
      bytes = w.bytes ++ b ∷ [];
      small = small_more w.bytes b w.small l;
      leads = steps_append w.bytes (b ∷ []) (start false) ∙ ap (λ (m : Reader). steps m (b ∷ [])) w.leads ∙ one_step r b ∙ e;
    }

-- ---- the theorem

reached_start : ReachedState (start false)
unfolding steps
reached_start = record { bytes = []; small = tt; leads = refl }

abbrev Below : ℕ → Type 0
Below n = (r : Reader) → r.at ≤ n → Ok r → r.old ≡ false → r.refusal ≡ 0 → r.word < 2 ^ 64 → ReachedState r

reached_by : (n : ℕ) → Below n → (r : Reader) → r.at ≤ n + 1 → Ok r → r.old ≡ false → r.refusal ≡ 0 → r.word < 2 ^ 64 → r.stage ≢ 0 → ReachedState r
reached_by n below r l o new f w d = ⊎_elim body kind (lt_or_ge r.left (body_of r))
  where
    body : r.left < body_of r → ReachedState r
    body h =
        reached_more (r.word / 2 ^ 56) (omega arith) (below (earlier r) (omega (arith, at_first o d)) (ok_earlier o d h) new refl (omega arith)) (earlier_step o d h f)

    kind : body_of r ≤ r.left → ReachedState r
    kind h =
        let e : r.left ≡ body_of r = omega (arith, o.left) in
        ⊎_elim (λ q. reached_more r.clip (omega (arith, clip_small o)) reached_start (opened_so o new f q e))
        (λ q. let b = any_before o f e d q in reached_more b.kind b.byte (below (before_kind r) (omega (arith, at_first o d)) b.ok new refl w) b.leads)
        (eq_or_ne r.stage 1)

reached_all : (n : ℕ) → Below n
reached_all zero r l o new f w = ⊎_elim (λ e. subst ReachedState (nothing_came o new f e) reached_start) (λ d. absurd (omega (arith, at_first o d))) (eq_or_ne r.stage 0)
reached_all (suc n) r l o new f w =
    ⊎_elim (λ e. subst ReachedState (nothing_came o new f e) reached_start) (λ d. reached_by n (reached_all n) r (omega arith) o new f w d) (eq_or_ne r.stage 0)

-- every state that its records give is left by bytes
pub reached : (r : Reader) → Ok r → r.old ≡ false → r.refusal ≡ 0 → r.word < 2 ^ 64 → ReachedState r
reached r o new f w = reached_all r.at r (omega arith) o new f w

-- ---- refused states too

pub record EndedSo (r : Reader) : Type 0 where
  pub from : Reader
  pub reached : ReachedState from
  pub ends : finished from ≡ r

pub is_left : (r : Reader) → Ok r → r.old ≡ false → r.word < 2 ^ 64 → ReachedState r ⊎ EndedSo r
is_left r o new w = ⊎_elim (λ f. inl (reached r o new f w)) (λ i. ⊎_elim no_more by_six i) o.refusal
  where
    n : ReachedState (unrefused r)
    n = reached (unrefused r) (ok_unrefused o) new refl w

    by_six : r.refusal ≡ refused_unclipped → ReachedState r ⊎ EndedSo r
    by_six f =
        let (z, l) = o.by_name f in
        inl (reached_more 6 (omega arith) n (refuses_six (unrefused r) refl new z l ∙ refused_is r refused_unclipped f))

    no_more : r.refusal ≡ refused_form → ReachedState r ⊎ EndedSo r
    no_more f =
        ⊎_elim (λ z. inl (reached_more 0 (omega arith) n (refuses (unrefused r) refl z ∙ refused_is r refused_form f)))
        (λ d. inr (record {
          from = unrefused r;
          reached = n;
          ends = ends_so (unrefused r) refl (λ e. d (omega (arith, o.left, body_of_kind r 5 (λ q. omega arith) e, sizes.4))) ∙ refused_is r refused_form f;
        }))
        (eq_or_ne r.left 0)

-- words that are taken for what they say are left by some reading
pub taken_left : (ws : List ℕ) → both (blank (take 7 (drop 9 ws))) (is_valid (reader_of ws)) ≡ true → (reader_of ws).word < 2 ^ 64 → ReachedState (reader_of ws) ⊎ EndedSo (reader_of ws)
taken_left ws e w = is_left (reader_of ws) (is_valid_ok (reader_of ws) (both_right (blank (take 7 (drop 9 ws))) (is_valid (reader_of ws)) e)) refl w
