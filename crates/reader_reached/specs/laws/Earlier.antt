-- A state whose last byte was one of a body: the state before that byte, and that the byte leads back.
use Rattle.std.specs.Prelude.{◌≡◌, Bool, true, false, ◌⊎◌, ◌≢◌, ℕ, zero, suc, ◌+◌, ◌-◌, ◌*◌, ◌/◌, ◌%◌, ◌^◌, ◌≤◌, ◌<◌, eqb}
use Rattle.std.proofs.Math.Path.{refl}
use Rattle.std.proofs.Common.{sym, ap, ◌∙◌, subst, inl, inr, ⊎_elim, arith, ne_eqb, eq-eqb}
use Rattle.std.proofs.Math.Nat.{mod-one}
use Rattle.base.specs.common.Pick.{pick}
use Rattle.base.specs.common.laws.Decide.{eq_or_ne}
use Rattle.form.specs.Limits.{most_sites, most_triangles, most_hull}
use Rattle.form.specs.step.Reader.{size_of, tally, inside, step}
use Rattle.form.specs.step.Standing.{under, sites_begun, triangles_begun, hull_begun, body_of, kinds, bodies, CountAt, Ok}
use Rattle.form.specs.step.laws.Steps.{step_inside}
use Rattle.form.specs.step.laws.Standing.{left_begun, under_none, under_one, body_first, body_later, sizes, kinds_between}
use Rattle.form.specs.declared.step.Reader.{Reader}

-- two states with the same numbers
pub same_state :
    (r n : Reader) → r.old ≡ n.old → r.stage ≡ n.stage → r.left ≡ n.left → r.word ≡ n.word → r.at ≡ n.at → r.refusal ≡ n.refusal → r.clip ≡ n.clip
    → r.sites ≡ n.sites → r.triangles ≡ n.triangles → r.hull ≡ n.hull → r ≡ n
same_state r n o a b c d e f g h k =
    λ i. record { old = o i; stage = a i; left = b i; word = c i; at = d i; refusal = e i; clip = f i; sites = g i; triangles = h i; hull = k i }

-- ---- what the numbers are

pub body_of_kind : (r : Reader) (k : ℕ) → k ≢ 1 → r.stage ≡ k → body_of r ≡ size_of k
body_of_kind r k d e = body_later r (λ z. d (sym e ∙ z)) ∙ ap size_of e

pub under_not : (r : Reader) (k : ℕ) → (r.stage ≢ k) ⊎ (r.left ≡ 0) → under r k ≡ 0
unfolding under
under_not r k w = ⊎_elim (λ d. rw (ne_eqb r.stage k d)) (under_none r k) w

pub kinds_first : (r : Reader) → r.stage ≡ 0 → kinds r ≡ sites_begun r + triangles_begun r + hull_begun r
unfolding kinds
kinds_first r e = rw (eq-eqb r.stage 0 e, ne_eqb r.stage 5 (λ z. omega arith)) (omega arith)

pub kinds_last : (r : Reader) → r.stage ≡ 5 → kinds r ≡ 2 + sites_begun r + triangles_begun r + hull_begun r
unfolding kinds
kinds_last r e = rw (ne_eqb r.stage 0 (λ z. omega arith), eq-eqb r.stage 5 e) (omega arith)

pub bodies_are : (r : Reader) → bodies r ≡ size_of r.clip + 16 * sites_begun r + 24 * triangles_begun r + 4 * hull_begun r
unfolding bodies
bodies_are r = refl

-- ---- a body's byte came last

-- what a record that has become whole added
unfoldable pub whole_added : Reader → ℕ → ℕ
whole_added r k = pick (eqb r.stage k) (λ _. pick (eqb r.left 0) (λ _. 1) (λ _. 0)) (λ _. 0)

abbrev pub earlier : Reader → Reader
earlier r =
    record {
      old = r.old;
      stage = r.stage;
      left = r.left + 1;
      word = r.word % 2 ^ 56 * 256;
      at = r.at - 1;
      refusal = 0;
      clip = r.clip;
      sites = r.sites - whole_added r 2;
      triangles = r.triangles - whole_added r 3;
      hull = r.hull - whole_added r 4;
    }

added_one : (r : Reader) (k : ℕ) → r.stage ≡ k → r.left ≡ 0 → whole_added r k ≡ 1
unfolding whole_added
added_one r k e z = rw (eq-eqb r.stage k e, eq-eqb r.left 0 z)

added_none : (r : Reader) (k : ℕ) → (r.stage ≢ k) ⊎ (r.left ≢ 0) → whole_added r k ≡ 0
unfolding whole_added
added_none r k w = ⊎_elim (λ d. rw (ne_eqb r.stage k d)) (λ d. go d (eqb r.stage k)) w
  where
    go : r.left ≢ 0 → (t : Bool) → pick {A = ℕ} t (λ _. pick (eqb r.left 0) (λ _. 1) (λ _. 0)) (λ _. 0) ≡ 0
    go d true = rw (ne_eqb r.left 0 d)
    go d false = refl

tally_one : (r : Reader) (k n : ℕ) → r.stage ≡ k → r.left ≡ 1 → tally r k n ≡ n + 1
unfolding tally
tally_one r k n e l = rw (eq-eqb r.stage k e, eq-eqb r.left 1 l)

tally_none : (r : Reader) (k n : ℕ) → (r.stage ≢ k) ⊎ (r.left ≢ 1) → tally r k n ≡ n
unfolding tally
tally_none r k n w = ⊎_elim (λ d. rw (ne_eqb r.stage k d)) (λ d. go d (eqb r.stage k)) w
  where
    go : r.left ≢ 1 → (t : Bool) → pick t (λ _. pick (eqb r.left 1) (λ _. n + 1) (λ _. n)) (λ _. n) ≡ n
    go d true = rw (ne_eqb r.left 1 d)
    go d false = refl

module _ (r : Reader) (k n : ℕ) (in_it : r.stage ≡ k → 0 < n + under r k) where
  -- the count with the record under way is the same, and is whole again after the byte
  earlier_count : (n - whole_added r k + under (earlier r) k ≡ n + under r k) × (tally (earlier r) k (n - whole_added r k) ≡ n)
  earlier_count = ⊎_elim there other (eq_or_ne r.stage k)
    where
      other : r.stage ≢ k → (n - whole_added r k + under (earlier r) k ≡ n + under r k) × (tally (earlier r) k (n - whole_added r k) ≡ n)
      other d =
          let a = added_none r k (inl d) in
          (omega (arith, a, under_not r k (inl d), under_not (earlier r) k (inl d)), tally_none (earlier r) k (n - whole_added r k) (inl d) ∙ omega (arith, a))

      there : r.stage ≡ k → (n - whole_added r k + under (earlier r) k ≡ n + under r k) × (tally (earlier r) k (n - whole_added r k) ≡ n)
      there e =
          let u = under_one (earlier r) k e (omega arith) in
          ⊎_elim
          (λ z. let a = added_one r k e z in let v = under_not r k (inr z) in
          (omega (arith, a, u, v, in_it e), tally_one (earlier r) k (n - whole_added r k) e (omega arith) ∙ omega (arith, a, v, in_it e)))
          (λ d. let a = added_none r k (inr d) in
          (omega (arith, a, u, under_one r k e (omega (arith, d))), tally_none (earlier r) k (n - whole_added r k) (inr (λ i. omega (arith, d))) ∙ omega (arith, a)))
          (eq_or_ne r.left 0)

-- the register without its last byte
low_earlier : (w n : ℕ) → w % 256 ^ (8 - (n + 1)) ≡ 0 → (n ≡ 0 → w % 2 ^ 56 * 256 ≡ 0) × (w % 2 ^ 56 * 256 % 256 ^ (8 - n) ≡ 0)
low_earlier w zero h = (λ e. omega arith, omega arith)
low_earlier w (suc zero) h = (λ e. absurd (omega arith), omega arith)
low_earlier w (suc (suc zero)) h = (λ e. absurd (omega arith), omega arith)
low_earlier w (suc (suc (suc zero))) h = (λ e. absurd (omega arith), omega arith)
low_earlier w (suc (suc (suc (suc zero)))) h = (λ e. absurd (omega arith), omega arith)
low_earlier w (suc (suc (suc (suc (suc zero))))) h = (λ e. absurd (omega arith), omega arith)
low_earlier w (suc (suc (suc (suc (suc (suc zero)))))) h = (λ e. absurd (omega arith), omega arith)
low_earlier w (suc (suc (suc (suc (suc (suc (suc zero))))))) h = (λ e. absurd (omega arith), omega arith)
low_earlier w (suc (suc (suc (suc (suc (suc (suc (suc n)))))))) h =
    let z : 8 - suc (suc (suc (suc (suc (suc (suc (suc n))))))) ≡ 0 = omega arith in
    (λ e. absurd (omega arith), rw z (mod-one _))

-- a body that has begun is one of the bodies
body_begun : {r : Reader} → Ok r → r.stage ≢ 0 → body_of r ≤ bodies r
body_begun {r} o d =
    let b = bodies_are r in
    ⊎_elim (λ e. omega (arith, b, body_first r e))
    (λ n₁. ⊎_elim (λ e. omega (arith, b, body_of_kind r 2 (omega arith) e, sizes.1, o.sites.in_it e))
    (λ n₂. ⊎_elim (λ e. omega (arith, b, body_of_kind r 3 (omega arith) e, sizes.2, o.triangles.in_it e))
    (λ n₃. ⊎_elim (λ e. omega (arith, b, body_of_kind r 4 (omega arith) e, sizes.3, o.hull.in_it e))
    (λ n₄. let e : r.stage ≡ 5 = omega (arith, o.stage) in omega (arith, body_of_kind r 5 (omega arith) e, sizes.4))
    (eq_or_ne r.stage 4))
    (eq_or_ne r.stage 3))
    (eq_or_ne r.stage 2))
    (eq_or_ne r.stage 1)

-- a byte has come
pub at_first : {r : Reader} → Ok r → r.stage ≢ 0 → 1 ≤ r.at
at_first {r} o d =
    ⊎_elim (λ e. omega (arith, o.at, kinds_last r e, o.left, body_begun o d)) (λ n. omega (arith, o.at, kinds_between r d n, o.left, body_begun o d)) (eq_or_ne r.stage 5)

module _ {r : Reader} (o : Ok r) (d : r.stage ≢ 0) (h : r.left < body_of r) where
  earlier_body : body_of (earlier r) ≡ body_of r
  unfolding body_of
  earlier_body = refl

  in_sites : (sites_begun (earlier r) ≡ sites_begun r) × (tally (earlier r) 2 (r.sites - whole_added r 2) ≡ r.sites)
  in_sites = earlier_count r 2 r.sites o.sites.in_it

  in_triangles : (triangles_begun (earlier r) ≡ triangles_begun r) × (tally (earlier r) 3 (r.triangles - whole_added r 3) ≡ r.triangles)
  in_triangles = earlier_count r 3 r.triangles o.triangles.in_it

  in_hulls : (hull_begun (earlier r) ≡ hull_begun r) × (tally (earlier r) 4 (r.hull - whole_added r 4) ≡ r.hull)
  in_hulls = earlier_count r 4 r.hull o.hull.in_it

  earlier_bodies : bodies (earlier r) ≡ bodies r
  unfolding bodies
  earlier_bodies = omega (arith, in_sites.0, in_triangles.0, in_hulls.0)

  earlier_kinds : kinds (earlier r) ≡ kinds r
  unfolding kinds
  earlier_kinds = omega (arith, in_sites.0, in_triangles.0, in_hulls.0)

  pub ok_earlier : Ok (earlier r)
  ok_earlier =
      let l = left_begun o in
      let e : bodies (earlier r) - (r.left + 1) + 1 ≡ bodies r - r.left = omega (arith, earlier_bodies, body_begun o d, o.left, h) in
      let w = low_earlier r.word (bodies (earlier r) - (r.left + 1)) (subst (λ (n : ℕ). r.word % 256 ^ (8 - n) ≡ 0) (sym e) o.word) in
      record {
        refusal = inl refl;
        by_name = λ q. absurd (omega arith);
        stage = o.stage;
        no_clip = o.no_clip;
        clip = o.clip;
        left = omega (arith, earlier_body, h);
        sites = subst (λ (n : ℕ). CountAt r.stage 2 n most_sites) (sym in_sites.0) o.sites;
        triangles = subst (λ (n : ℕ). CountAt r.stage 3 n most_triangles) (sym in_triangles.0) o.triangles;
        hull = subst (λ (n : ℕ). CountAt r.stage 4 n most_hull) (sym in_hulls.0) o.hull;
        at = omega (arith, o.at, earlier_kinds, earlier_bodies, at_first o d);
        no_word = w.0;
        word = w.1;
      }

  -- and its next byte leads here
  inside_back : r.refusal ≡ 0 → inside (earlier r) (r.word / 2 ^ 56) ≡ r
  unfolding inside
  inside_back f =
      same_state (inside (earlier r) (r.word / 2 ^ 56)) r refl refl (omega arith) (omega arith) (omega (arith, at_first o d)) (sym f) refl in_sites.1 in_triangles.1 in_hulls.1

  pub earlier_step : r.refusal ≡ 0 → step (earlier r) (r.word / 2 ^ 56) ≡ r
  earlier_step f = step_inside (earlier r) (r.word / 2 ^ 56) refl (omega arith) ∙ inside_back f
