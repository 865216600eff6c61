-- The test is right: it holds of a state exactly where the state is one that its records give.
use Rattle.std.specs.Prelude.{◌≡◌, refl, Bool, true, false, ◌⊎◌, ◌≢◌, ℕ, ◌+◌, ◌-◌, ◌%◌, ◌^◌, ◌≤◌, ◌<◌, eqb, ltb}
use Rattle.std.proofs.lemmas.Bool.{false≢true, eqb-false}
use Rattle.std.proofs.Common.{inl, inr, ⊎_elim, arith, eqb-true, ne_eqb, eq-eqb, ltb-true, ltb-false, lt-ltb, le-ltb}
use Rattle.std.proofs.Math.Nat.{zero-mod, mod-one}
use Rattle.base.specs.common.Pick.{pick}
use Rattle.base.specs.common.laws.Decide.{eq_or_ne, lt_or_ge}
use Rattle.base.specs.numbers.Numbers.{refused_form, refused_unclipped}
use Rattle.form.specs.Limits.{most_sites, most_triangles, most_hull}
use Rattle.form.specs.step.Reader.{opens}
use Rattle.form.specs.step.Standing.{sites_begun, triangles_begun, body_of, kinds, bodies, CountAt, IsNumber, Ok}
use Rattle.form.specs.step.laws.Steps.{by_test}
use Rattle.form.specs.step.laws.Standing.{at_small, few_counts, left_small}
use Rattle.form.specs.declared.step.Reader.{Reader}
use Rattle.reader.specs.standing.Stands.{both, valid_counts, valid_refusal, valid_kind, count_at, valid_records, valid_place, valid_register, valid_parts, is_valid}

-- ---- tests

both_left : (a b : Bool) → both a b ≡ true → a ≡ true
both_left true b e = refl
both_left false b e = e

pub both_right : (a b : Bool) → both a b ≡ true → b ≡ true
both_right true b e = e
both_right false b e = absurd (false≢true e)

pub both_true : (a b : Bool) → a ≡ true → b ≡ true → both a b ≡ true
both_true a b p q = rw (p, q)

-- a test that must fail, and then another
pub past : (t : Bool) (b : Bool) → pick t (λ _. false) (λ _. b) ≡ true → (t ≡ false) × (b ≡ true)
past true b e = absurd (false≢true e)
past false b e = (refl, e)

-- ---- what each test tells

pub record WithinForm (r : Reader) : Type 0 where
  pub stage : r.stage ≤ 5
  pub sites : r.sites ≤ most_sites
  pub triangles : r.triangles ≤ most_triangles
  pub hull : r.hull ≤ most_hull
  pub left : r.left ≤ 32
  pub at : r.at < 7000

pub valid_counts_told : (r : Reader) → valid_counts r ≡ true → WithinForm r
unfolding valid_counts
valid_counts_told r e =
    let a = past (ltb 5 r.stage) _ e in
    let b = past (ltb most_sites r.sites) _ a.1 in
    let c = past (ltb most_triangles r.triangles) _ b.1 in
    let d = past (ltb most_hull r.hull) _ c.1 in
    let f = past (ltb 32 r.left) _ d.1 in
    record {
      stage = ltb-false _ _ a.0;
      sites = ltb-false _ _ b.0;
      triangles = ltb-false _ _ c.0;
      hull = ltb-false _ _ d.0;
      left = ltb-false _ _ f.0;
      at = ltb-true _ _ f.1;
    }

valid_counts_true : (r : Reader) → WithinForm r → valid_counts r ≡ true
unfolding valid_counts
valid_counts_true r f = rw (le-ltb _ _ f.stage, le-ltb _ _ f.sites, le-ltb _ _ f.triangles, le-ltb _ _ f.hull, le-ltb _ _ f.left, lt-ltb _ _ f.at)

valid_refusal_told : (n s l : ℕ) → valid_refusal n s l ≡ true → ((n ≡ 0) ⊎ IsNumber n) × (n ≡ refused_unclipped → (l ≡ 0) × (s < 5))
unfolding valid_refusal
valid_refusal_told n s l e =
    ⊎_elim (λ w. let z = eqb-true n 0 w.0 in (inl z, λ q. absurd (omega arith)))
    (λ w. ⊎_elim
    (λ v. (inr (inr (eqb-true _ _ v.0)), λ q. (eqb-true _ _ (both_left (eqb l 0) (ltb s 5) v.1), ltb-true _ _ (both_right (eqb l 0) (ltb s 5) v.1))))
    (λ v. (inr (inl (eqb-true _ _ v.1)), λ q. absurd (eqb-false _ _ v.0 q)))
    (by_test (eqb n refused_unclipped) (both (eqb l 0) (ltb s 5)) (eqb n refused_form) w.1))
    (by_test (eqb n 0) true _ e)

valid_refusal_true : (n s l : ℕ) → (n ≡ 0) ⊎ IsNumber n → (n ≡ refused_unclipped → (l ≡ 0) × (s < 5)) → valid_refusal n s l ≡ true
unfolding valid_refusal
valid_refusal_true n s l (inl e) f = rw e
valid_refusal_true n s l (inr (inl e)) f = rw e
valid_refusal_true n s l (inr (inr e)) f = let (z, h) = f e in rw (e, z, lt-ltb s 5 h)

valid_kind_told : (old : Bool) (s c : ℕ) → valid_kind old s c ≡ true → (s ≡ 0 → c ≡ 0) × (s ≢ 0 → opens old c ≡ true)
unfolding valid_kind
valid_kind_told old s c e =
    ⊎_elim (λ w. (λ z. eqb-true _ _ w.1, λ d. absurd (d (eqb-true _ _ w.0)))) (λ w. (λ z. absurd (eqb-false _ _ w.0 z), λ d. w.1))
    (by_test (eqb s 0) (eqb c 0) (opens old c) e)

valid_kind_true : (old : Bool) (s c : ℕ) → (s ≡ 0 → c ≡ 0) → (s ≢ 0 → opens old c ≡ true) → valid_kind old s c ≡ true
unfolding valid_kind
valid_kind_true old s c f g = ⊎_elim (λ z. let e = f z in rw (z, e)) (λ d. rw (ne_eqb s 0 d) (g d)) (eq_or_ne s 0)

count_told : (s k n l : ℕ) → count_at s k n l ≡ true → CountAt s k n l
unfolding count_at
count_told s k n l e =
    let a = past (ltb l n) _ e in
    let h : n ≤ l = ltb-false _ _ a.0 in
    ⊎_elim
    (λ w. let z = ltb-true s k w.0 in record { few = h; before = λ i. eqb-true _ _ w.1; in_it = λ i. absurd (omega arith) })
    (λ w. let z = ltb-false s k w.0 in ⊎_elim
    (λ v. record { few = h; before = λ i. absurd (omega arith); in_it = λ i. ltb-true _ _ v.1 })
    (λ v. record { few = h; before = λ i. absurd (omega arith); in_it = λ i. absurd (eqb-false _ _ v.0 i) })
    (by_test (eqb s k) (ltb 0 n) true w.1))
    (by_test (ltb s k) (eqb n 0) _ a.1)

count_true : (s k n l : ℕ) → CountAt s k n l → count_at s k n l ≡ true
unfolding count_at
count_true s k n l c =
    ⊎_elim (λ h. let e = c.before h in rw (le-ltb l n c.few, lt-ltb s k h, e))
    (λ h. ⊎_elim (λ e. rw (le-ltb l n c.few, le-ltb s k h, eq-eqb s k e, lt-ltb 0 n (c.in_it e)))
    (λ d. rw (le-ltb l n c.few, le-ltb s k h, ne_eqb s k d))
    (eq_or_ne s k))
    (lt_or_ge s k)

valid_place_told : (r : Reader) → valid_place r ≡ true → (r.left ≤ body_of r) × (r.at + r.left ≡ kinds r + bodies r)
unfolding valid_place
valid_place_told r e = let a = past (ltb (body_of r) r.left) _ e in (ltb-false _ _ a.0, eqb-true _ _ a.1)

valid_place_true : (r : Reader) → r.left ≤ body_of r → r.at + r.left ≡ kinds r + bodies r → valid_place r ≡ true
unfolding valid_place
valid_place_true r l e = rw (le-ltb _ _ l, eq-eqb _ _ e)

valid_register_told : (w n : ℕ) → valid_register w n ≡ true → (n ≡ 0 → w ≡ 0) × (w % 256 ^ (8 - n) ≡ 0)
unfolding valid_register
valid_register_told w n e = ⊎_elim none (λ v. ⊎_elim (some v.0) (many v.0) (by_test (ltb n 8) _ true v.1)) (by_test (eqb n 0) (eqb w 0) _ e)
  where
    none : (eqb n 0 ≡ true) × (eqb w 0 ≡ true) → (n ≡ 0 → w ≡ 0) × (w % 256 ^ (8 - n) ≡ 0)
    none v = let z : w ≡ 0 = eqb-true _ _ v.1 in (λ i. z, rw z (zero-mod (256 ^ (8 - n))))

    some : eqb n 0 ≡ false → (ltb n 8 ≡ true) × (eqb (w % 256 ^ (8 - n)) 0 ≡ true) → (n ≡ 0 → w ≡ 0) × (w % 256 ^ (8 - n) ≡ 0)
    some f v = (λ i. absurd (eqb-false _ _ f i), eqb-true _ _ v.1)

    many : eqb n 0 ≡ false → (ltb n 8 ≡ false) × (true ≡ true) → (n ≡ 0 → w ≡ 0) × (w % 256 ^ (8 - n) ≡ 0)
    many f v =
        let h = ltb-false n 8 v.0 in
        let z : 8 - n ≡ 0 = omega arith in
        (λ i. absurd (eqb-false _ _ f i), rw z (mod-one w))

valid_register_true : (w n : ℕ) → (n ≡ 0 → w ≡ 0) → w % 256 ^ (8 - n) ≡ 0 → valid_register w n ≡ true
unfolding valid_register
valid_register_true w n f e =
    ⊎_elim (λ z. let v = f z in rw (z, v))
    (λ d. ⊎_elim (λ h. rw (ne_eqb n 0 d, lt-ltb n 8 h, eq-eqb _ _ e)) (λ h. rw (ne_eqb n 0 d, le-ltb n 8 h)) (lt_or_ge n 8))
    (eq_or_ne n 0)

-- ---- the whole test

pub is_valid_ok : (r : Reader) → is_valid r ≡ true → Ok r
unfolding is_valid valid_parts valid_records
is_valid_ok r e =
    let f = valid_counts_told r (both_left (valid_counts r) (valid_parts r) e) in
    let g = both_right (valid_counts r) (valid_parts r) e in
    let h = both_left (both (valid_refusal r.refusal r.stage r.left) (valid_kind r.old r.stage r.clip)) _ g in
    let i = both_right (both (valid_refusal r.refusal r.stage r.left) (valid_kind r.old r.stage r.clip)) _ g in
    let c = both_left (valid_records r) _ i in
    let j = both_right (valid_records r) _ i in
    let k = both_right (count_at r.stage 2 (sites_begun r) most_sites) _ c in
    let p = valid_place_told r (both_left (valid_place r) _ j) in
    let w = valid_register_told r.word (bodies r - r.left) (both_right (valid_place r) _ j) in
    let n = valid_refusal_told r.refusal r.stage r.left (both_left (valid_refusal r.refusal r.stage r.left) _ h) in
    let o = valid_kind_told r.old r.stage r.clip (both_right (valid_refusal r.refusal r.stage r.left) _ h) in
    record {
      refusal = n.0;
      by_name = n.1;
      stage = f.stage;
      no_clip = o.0;
      clip = o.1;
      left = p.0;
      sites = count_told _ _ _ _ (both_left (count_at r.stage 2 (sites_begun r) most_sites) _ c);
      triangles = count_told _ _ _ _ (both_left (count_at r.stage 3 (triangles_begun r) most_triangles) _ k);
      hull = count_told _ _ _ _ (both_right (count_at r.stage 3 (triangles_begun r) most_triangles) _ k);
      at = p.1;
      no_word = w.0;
      word = w.1;
    }

pub ok_is_valid : (r : Reader) → Ok r → is_valid r ≡ true
unfolding is_valid valid_parts valid_records
ok_is_valid r o =
    let n = few_counts o in
    let f = valid_counts_true r (record { stage = o.stage; sites = n.0; triangles = n.1; hull = n.2; left = left_small o; at = omega (arith, at_small o) }) in
    both_true _ _ f
    (both_true _ _ (both_true _ _ (valid_refusal_true r.refusal r.stage r.left o.refusal o.by_name) (valid_kind_true r.old r.stage r.clip o.no_clip o.clip))
    (both_true _ _ (both_true _ _ (count_true _ _ _ _ o.sites) (both_true _ _ (count_true _ _ _ _ o.triangles) (count_true _ _ _ _ o.hull)))
    (both_true _ _ (valid_place_true r o.left o.at) (valid_register_true r.word (bodies r - r.left) o.no_word o.word))))
