-- Every step keeps a state one that its records give; and what such a state's numbers are at most.
use Rattle.std.specs.Prelude.{◌≡◌, refl, Bool, true, false, List, [], ◌∷◌, ◌≢◌, ℕ, zero, suc, ◌+◌, ◌-◌, ◌%◌, ◌^◌, ◌≤◌, ◌<◌, eqb, ltb}
use Rattle.std.proofs.Common.{sym, ap, ◌∙◌, subst, inr, eqb-true, ne_eqb, ltb-true}
use Rattle.std.proofs.Math.Logic.{inl, ⊎_elim}
use native.Mathlib.Omega.{arith}
use Rattle.std.proofs.Math.Nat.{zero-mod, mod-one}
use Rattle.std.proofs.lemmas.Bool.{eqb-false}
use Rattle.base.specs.common.Pick.{pick}
use Rattle.base.specs.numbers.Numbers.{refused_form, refused_unclipped}
use Rattle.base.specs.common.laws.Decide.{eq_or_ne}
use Rattle.form.specs.Limits.{most_sites, most_triangles, most_hull}
use Rattle.form.specs.step.Register.{shift}
use Rattle.form.specs.step.Reader.{size_of, opens, follows, number_for, refused, begun, tally, inside, outside, step, steps, start, broken, finished}
use Rattle.form.specs.step.Standing.{under, sites_begun, triangles_begun, hull_begun, body_of, kinds, bodies, CountAt, IsNumber, Ok}
use Rattle.form.specs.step.laws.Steps.{OpeningKind, box, none, edges, opens_cases, RecordKind, site, triangle, hull, end, follows_cases}
use Rattle.form.specs.declared.step.Reader.{Reader}

-- ---- what the numbers are at most

-- no body is longer than a box
pub size_small : (k : ℕ) → size_of k ≤ 32
unfolding size_of
size_small k = go (eqb k 1) (eqb k 2) (eqb k 3) (eqb k 4) (eqb k 7)
  where
    go : (a b c d e : Bool)
        → pick a (λ _. 32) (λ _. pick b (λ _. 16) (λ _. pick c (λ _. 24) (λ _. pick d (λ _. 4) (λ _. pick e (λ _. 32) (λ _. 0))))) ≤ 32
    go true b c d e = omega arith
    go false true c d e = omega arith
    go false false true d e = omega arith
    go false false false true e = omega arith
    go false false false false true = omega arith
    go false false false false false = omega arith

opening_small : (old : Bool) (k : ℕ) → OpeningKind old k → k ≤ 7
opening_small old k box = omega arith
opening_small old k (none e) = omega arith
opening_small old k edges = omega arith

pub under_none : (r : Reader) (k : ℕ) → r.left ≡ 0 → under r k ≡ 0
unfolding under
under_none r k z = go (eqb r.stage k)
  where
    go : (t : Bool) → pick {A = ℕ} t (λ _. pick (eqb r.left 0) (λ _. 0) (λ _. 1)) (λ _. 0) ≡ 0
    go true = rw z
    go false = refl

pub under_one : (r : Reader) (k : ℕ) → r.stage ≡ k → 0 < r.left → under r k ≡ 1
unfolding under
under_one r k e p = go (eqb r.stage k) refl
  where
    go : (t : Bool) → eqb r.stage k ≡ t → pick {A = ℕ} t (λ _. pick (eqb r.left 0) (λ _. 0) (λ _. 1)) (λ _. 0) ≡ 1
    go true h = rw (ne_eqb r.left 0 (λ z. omega arith))
    go false h = absurd (eqb-false _ _ h e)

at_most_one : (t : Bool) → (pick t (λ _. 0) (λ _. 1) ≤ 1) × (pick t (λ _. 1) (λ _. 0) ≤ 1)
at_most_one true = (omega arith, omega arith)
at_most_one false = (omega arith, omega arith)

pub clip_small : {r : Reader} → Ok r → r.clip ≤ 7
clip_small {r} o = ⊎_elim (λ e. omega (arith, o.no_clip e)) (λ d. opening_small r.old r.clip (opens_cases r.old r.clip (o.clip d))) (eq_or_ne r.stage 0)

pub at_small : {r : Reader} → Ok r → r.at < 7000
unfolding kinds bodies
at_small {r} o =
    let p = at_most_one (eqb r.stage 0) in
    let q = at_most_one (eqb r.stage 5) in
    omega (arith, o.at, p.0, q.1, size_small r.clip, o.sites.few, o.triangles.few, o.hull.few)

pub few_counts : {r : Reader} → Ok r → (r.sites ≤ most_sites) × (r.triangles ≤ most_triangles) × (r.hull ≤ most_hull)
few_counts o = (omega (arith, o.sites.few), omega (arith, o.triangles.few), omega (arith, o.hull.few))

-- ---- within a body

pub body_first : (r : Reader) → r.stage ≡ 1 → body_of r ≡ size_of r.clip
unfolding body_of
body_first r e = rw e

pub body_later : (r : Reader) → r.stage ≢ 1 → body_of r ≡ size_of r.stage
unfolding body_of
body_later r d = rw (ne_eqb r.stage 1 d)

pub sizes : (size_of 0 ≡ 0) × (size_of 2 ≡ 16) × (size_of 3 ≡ 24) × (size_of 4 ≡ 4) × (size_of 5 ≡ 0)
unfolding size_of
sizes = (refl, refl, refl, refl, refl)

module _ {r : Reader} (o : Ok r) where
  body_is : (k : ℕ) → k ≢ 1 → r.stage ≡ k → body_of r ≡ size_of k
  body_is k d e = body_later r (λ z. d (sym e ∙ z)) ∙ ap size_of e

  pub in_box_lem : r.stage ≡ 1 → r.left ≤ 32
  in_box_lem e = omega (arith, o.left, body_first r e, size_small r.clip)

  pub in_site : r.stage ≡ 2 → 0 < r.left → (r.left ≤ 16) × (r.sites < most_sites)
  in_site e p = (omega (arith, o.left, body_is 2 (omega arith) e, sizes.1), omega (arith, o.sites.few, under_one r 2 e p))

  pub in_triangle : r.stage ≡ 3 → 0 < r.left → (r.left ≤ 24) × (r.triangles < most_triangles)
  in_triangle e p = (omega (arith, o.left, body_is 3 (omega arith) e, sizes.2), omega (arith, o.triangles.few, under_one r 3 e p))

  pub in_hull : r.stage ≡ 4 → 0 < r.left → (r.left ≤ 4) × (r.hull < most_hull)
  in_hull e p = (omega (arith, o.left, body_is 4 (omega arith) e, sizes.3), omega (arith, o.hull.few, under_one r 4 e p))

  -- the end has no body
  pub none_after_end : r.stage ≡ 5 → r.left ≡ 0
  none_after_end e = omega (arith, o.left, body_is 5 (omega arith) e, sizes.4)

  -- what is to come of a body is a part of the bodies that have begun
  pub left_begun : r.left ≤ bodies r
  unfolding bodies
  left_begun =
      ⊎_elim (λ e. omega (arith, o.left, body_is 0 (omega arith) e, sizes.0))
      (λ a. ⊎_elim (λ e. omega (arith, o.left, body_first r e))
      (λ b. ⊎_elim (λ e. omega (arith, o.left, body_is 2 (omega arith) e, sizes.1, o.sites.in_it e))
      (λ c. ⊎_elim (λ e. omega (arith, o.left, body_is 3 (omega arith) e, sizes.2, o.triangles.in_it e))
      (λ d. ⊎_elim (λ e. omega (arith, o.left, body_is 4 (omega arith) e, sizes.3, o.hull.in_it e))
      (λ f. omega (arith, none_after_end (omega (arith, o.stage))))
      (eq_or_ne r.stage 4))
      (eq_or_ne r.stage 3))
      (eq_or_ne r.stage 2))
      (eq_or_ne r.stage 1))
      (eq_or_ne r.stage 0)

pub left_small : {r : Reader} → Ok r → r.left ≤ 32
unfolding body_of
left_small {r} o = go (eqb r.stage 1) o.left
  where
    go : (t : Bool) → r.left ≤ pick t (λ _. size_of r.clip) (λ _. size_of r.stage) → r.left ≤ 32
    go true h = omega (arith, size_small r.clip)
    go false h = omega (arith, size_small r.stage)

-- ---- a step keeps it

pub ok_start : (old : Bool) → Ok (start old)
unfolding kinds bodies body_of under size_of
ok_start old =
    record {
      refusal = inl refl;
      by_name = λ e. absurd (omega arith);
      stage = omega arith;
      no_clip = λ e. refl;
      clip = λ d. absurd (d refl);
      left = omega arith;
      sites = record { few = omega arith; before = λ h. refl; in_it = λ e. absurd (omega arith) };
      triangles = record { few = omega arith; before = λ h. refl; in_it = λ e. absurd (omega arith) };
      hull = record { few = omega arith; before = λ h. refl; in_it = λ e. absurd (omega arith) };
      at = refl;
      no_word = λ e. refl;
      word = refl;
    }

pub ok_refused : {r : Reader} (n : ℕ) → IsNumber n → (n ≡ refused_unclipped → (r.left ≡ 0) × (r.stage < 5)) → Ok r → Ok (refused r n)
unfolding refused under body_of kinds bodies
ok_refused n i f o =
    record {
      refusal = inr i;
      by_name = f;
      stage = o.stage;
      no_clip = o.no_clip;
      clip = o.clip;
      left = o.left;
      sites = o.sites;
      triangles = o.triangles;
      hull = o.hull;
      at = o.at;
      no_word = o.no_word;
      word = o.word;
    }

-- each refusal has one of the two numbers
pub number_is : (r : Reader) (k : ℕ) → IsNumber (number_for r k)
unfolding number_for
number_is r k = go (eqb k 6) (ltb r.stage 5)
  where
    go : (t u : Bool) → IsNumber (pick t (λ _. pick u (λ _. refused_unclipped) (λ _. refused_form)) (λ _. refused_form))
    go true true = inr refl
    go true false = inl refl
    go false u = inl refl

-- 20 only before the end
number_early : (r : Reader) (k : ℕ) → number_for r k ≡ refused_unclipped → r.stage < 5
unfolding number_for
number_early r k = go (eqb k 6) (ltb r.stage 5) refl
  where
    go : (t u : Bool) → ltb r.stage 5 ≡ u → pick t (λ _. pick u (λ _. refused_unclipped) (λ _. refused_form)) (λ _. refused_form) ≡ refused_unclipped → r.stage < 5
    go true true h e = ltb-true _ _ h
    go true false h e = absurd (omega arith)
    go false u h e = absurd (omega arith)

pub refusal_small : {r : Reader} → Ok r → r.refusal ≤ 20
refusal_small o = ⊎_elim (λ e. omega arith) (λ i. ⊎_elim (λ e. omega arith) (λ e. omega arith) i) o.refusal

pub ok_finished : (r : Reader) → Ok r → Ok (finished r)
unfolding finished
ok_finished r o = go (broken r) (eqb r.stage 5)
  where
    go : (t u : Bool) → Ok (pick t (λ _. r) (λ _. pick u (λ _. r) (λ _. refused r refused_form)))
    go true u = o
    go false true = o
    go false false = ok_refused refused_form (inl refl) (λ e. absurd (omega arith)) o

-- nothing has come
pub record Nothing (r : Reader) : Type 0 where
  pub sites : r.sites ≡ 0
  pub triangles : r.triangles ≡ 0
  pub hull : r.hull ≡ 0
  pub at : r.at ≡ 0
  pub word : r.word ≡ 0

pub nothing : {r : Reader} → Ok r → r.stage ≡ 0 → r.left ≡ 0 → Nothing r
unfolding kinds bodies
nothing {r} o e z =
    let s = o.sites.before (omega arith) in
    let t = o.triangles.before (omega arith) in
    let h = o.hull.before (omega arith) in
    let c : size_of r.clip ≡ 0 = ap size_of (o.no_clip e) ∙ sizes.0 in
    let k : pick {A = ℕ} (eqb r.stage 0) (λ _. 0) (λ _. 1) ≡ 0 = rw e in
    let l : pick {A = ℕ} (eqb r.stage 5) (λ _. 1) (λ _. 0) ≡ 0 = rw e in
    record {
      sites = omega arith;
      triangles = omega arith;
      hull = omega arith;
      at = omega (arith, o.at);
      word = o.no_word (omega arith);
    }

-- the kinds' bytes between the first record and the end
pub kinds_between : (r : Reader) → r.stage ≢ 0 → r.stage ≢ 5 → kinds r ≡ 1 + sites_begun r + triangles_begun r + hull_begun r
unfolding kinds
kinds_between r d e = rw (ne_eqb r.stage 0 d, ne_eqb r.stage 5 e) (omega arith)

ok_open : {r : Reader} (k : ℕ) → Ok r → r.left ≡ 0 → r.stage ≡ 0 → opens r.old k ≡ true → Ok (begun r k)
unfolding begun under body_of kinds bodies
ok_open {r} k o z e f =
    let n = nothing o e z in
    rw f
    (record {
      refusal = inl refl;
      by_name = λ e. absurd (omega arith);
      stage = omega arith;
      no_clip = λ h. absurd (omega arith);
      clip = λ h. f;
      left = omega arith;
      sites = record { few = omega (arith, n.sites); before = λ h. omega (arith, n.sites); in_it = λ h. absurd (omega arith) };
      triangles = record { few = omega (arith, n.triangles); before = λ h. omega (arith, n.triangles); in_it = λ h. absurd (omega arith) };
      hull = record { few = omega (arith, n.hull); before = λ h. omega (arith, n.hull); in_it = λ h. absurd (omega arith) };
      at = omega (arith, n.at, n.sites, n.triangles, n.hull);
      no_word = λ h. n.word;
      word = low_none _ _ n.word;
    })
  where
    low_none : (w e : ℕ) → w ≡ 0 → w % 256 ^ e ≡ 0
    low_none w e z = rw z (zero-mod (256 ^ e))

-- a record begins: the numbers of the bodies taken and of the kinds are these
module _ {r : Reader} (o : Ok r) (z : r.left ≡ 0) (d : r.stage ≢ 0) where
  same_word : (n : ℕ) → n ≡ bodies r → (n ≡ 0 → r.word ≡ 0) × (r.word % 256 ^ (8 - n) ≡ 0)
  same_word n e =
      let i : bodies r - r.left ≡ n = omega arith in
      (λ h. o.no_word (i ∙ h), subst (λ (m : ℕ). r.word % 256 ^ (8 - m) ≡ 0) i o.word)

  ok_site_lem : r.stage ≤ 2 → r.sites < most_sites → Ok (begun r 2)
  unfolding begun opens size_of under body_of kinds bodies
  ok_site_lem l m =
      let a = under_none r 2 z in
      let b = under_none r 3 z in
      let c = under_none r 4 z in
      let t = o.triangles.before (omega arith) in
      let h = o.hull.before (omega arith) in
      let w = same_word (bodies (begun r 2) - 16) (omega arith) in
      record {
        refusal = inl refl;
        by_name = λ e. absurd (omega arith);
        stage = omega arith;
        no_clip = λ i. absurd (omega arith);
        clip = λ i. o.clip d;
        left = omega arith;
        sites = record { few = omega (arith, o.sites.few); before = λ i. absurd (omega arith); in_it = λ i. omega arith };
        triangles = record { few = omega (arith, o.triangles.few); before = λ i. omega arith; in_it = λ i. absurd (omega arith) };
        hull = record { few = omega (arith, o.hull.few); before = λ i. omega arith; in_it = λ i. absurd (omega arith) };
        at = omega (arith, o.at, kinds_between r d (λ e. omega arith));
        no_word = w.0;
        word = w.1;
      }

  ok_triangle : r.stage ≤ 3 → r.triangles < most_triangles → Ok (begun r 3)
  unfolding begun opens size_of under body_of kinds bodies
  ok_triangle l m =
      let a = under_none r 2 z in
      let b = under_none r 3 z in
      let c = under_none r 4 z in
      let h = o.hull.before (omega arith) in
      let w = same_word (bodies (begun r 3) - 24) (omega arith) in
      record {
        refusal = inl refl;
        by_name = λ e. absurd (omega arith);
        stage = omega arith;
        no_clip = λ i. absurd (omega arith);
        clip = λ i. o.clip d;
        left = omega arith;
        sites = record { few = omega (arith, o.sites.few); before = λ i. absurd (omega arith); in_it = λ i. absurd (omega arith) };
        triangles = record { few = omega (arith, o.triangles.few); before = λ i. absurd (omega arith); in_it = λ i. omega arith };
        hull = record { few = omega (arith, o.hull.few); before = λ i. omega arith; in_it = λ i. absurd (omega arith) };
        at = omega (arith, o.at, kinds_between r d (λ e. omega arith));
        no_word = w.0;
        word = w.1;
      }

  ok_hull : r.stage ≤ 4 → r.hull < most_hull → Ok (begun r 4)
  unfolding begun opens size_of under body_of kinds bodies
  ok_hull l m =
      let a = under_none r 2 z in
      let b = under_none r 3 z in
      let c = under_none r 4 z in
      let w = same_word (bodies (begun r 4) - 4) (omega arith) in
      record {
        refusal = inl refl;
        by_name = λ e. absurd (omega arith);
        stage = omega arith;
        no_clip = λ i. absurd (omega arith);
        clip = λ i. o.clip d;
        left = omega arith;
        sites = record { few = omega (arith, o.sites.few); before = λ i. absurd (omega arith); in_it = λ i. absurd (omega arith) };
        triangles = record { few = omega (arith, o.triangles.few); before = λ i. absurd (omega arith); in_it = λ i. absurd (omega arith) };
        hull = record { few = omega (arith, o.hull.few); before = λ i. absurd (omega arith); in_it = λ i. omega arith };
        at = omega (arith, o.at, kinds_between r d (λ e. omega arith));
        no_word = w.0;
        word = w.1;
      }

  ok_end : r.stage < 5 → Ok (begun r 5)
  unfolding begun opens size_of under body_of kinds bodies
  ok_end l =
      let a = under_none r 2 z in
      let b = under_none r 3 z in
      let c = under_none r 4 z in
      let w = same_word (bodies (begun r 5) - 0) (omega arith) in
      record {
        refusal = inl refl;
        by_name = λ e. absurd (omega arith);
        stage = omega arith;
        no_clip = λ i. absurd (omega arith);
        clip = λ i. o.clip d;
        left = omega arith;
        sites = record { few = omega (arith, o.sites.few); before = λ i. absurd (omega arith); in_it = λ i. absurd (omega arith) };
        triangles = record { few = omega (arith, o.triangles.few); before = λ i. absurd (omega arith); in_it = λ i. absurd (omega arith) };
        hull = record { few = omega (arith, o.hull.few); before = λ i. absurd (omega arith); in_it = λ i. absurd (omega arith) };
        at = omega (arith, o.at, kinds_between r d (λ e. omega arith));
        no_word = w.0;
        word = w.1;
      }

ok_begun : {r : Reader} (k : ℕ) → Ok r → r.left ≡ 0 → follows r k ≡ true → Ok (begun r k)
ok_begun {r} k o z f = ⊎_elim (λ v. ok_open k o z v.0 v.1) (λ v. by k v.0 v.1 v.2) (follows_cases r k f)
  where
    by : (k : ℕ) → r.stage ≢ 0 → r.stage ≤ k → RecordKind r k → Ok (begun r k)
    by k d l (site m) = ok_site_lem o z d l m
    by k d l (triangle m) = ok_triangle o z d l m
    by k d l (hull m) = ok_hull o z d l m
    by k d l (end m) = ok_end o z d m

-- a body's byte: the record under way is one of those that have begun, or has become whole
kept : (r : Reader) (b k n : ℕ) → 0 < r.left → tally r k n + under (inside r b) k ≡ n + under r k
unfolding tally under inside
kept r b k n p = go (eqb r.stage k)
  where
    last : r.left ≡ 1
        → pick (eqb r.left 1) (λ _. n + 1) (λ _. n) + pick (eqb (r.left - 1) 0) (λ _. 0) (λ _. 1) ≡ n + pick (eqb r.left 0) (λ _. 0) (λ _. 1)
    last e = rw e (omega arith)

    on : r.left ≢ 1
        → pick (eqb r.left 1) (λ _. n + 1) (λ _. n) + pick (eqb (r.left - 1) 0) (λ _. 0) (λ _. 1) ≡ n + pick (eqb r.left 0) (λ _. 0) (λ _. 1)
    on d = rw (ne_eqb r.left 1 d, ne_eqb (r.left - 1) 0 (λ z. omega arith), ne_eqb r.left 0 (λ z. omega arith)) refl

    go : (t : Bool)
        → pick t (λ _. pick (eqb r.left 1) (λ _. n + 1) (λ _. n)) (λ _. n) + pick t (λ _. pick (eqb (r.left - 1) 0) (λ _. 0) (λ _. 1)) (λ _. 0)
        ≡ n + pick t (λ _. pick (eqb r.left 0) (λ _. 0) (λ _. 1)) (λ _. 0)
    go true = ⊎_elim last on (eq_or_ne r.left 1)
    go false = refl

-- a byte more in the register
shift_low : (w b n : ℕ) → (n ≡ 0 → w ≡ 0) → w % 256 ^ (8 - n) ≡ 0 → shift w b % 256 ^ (8 - (n + 1)) ≡ 0
shift_low w b zero e h = let z = e refl in omega arith
shift_low w b (suc zero) e h = omega arith
shift_low w b (suc (suc zero)) e h = omega arith
shift_low w b (suc (suc (suc zero))) e h = omega arith
shift_low w b (suc (suc (suc (suc zero)))) e h = omega arith
shift_low w b (suc (suc (suc (suc (suc zero))))) e h = omega arith
shift_low w b (suc (suc (suc (suc (suc (suc zero)))))) e h = omega arith
shift_low w b (suc (suc (suc (suc (suc (suc (suc n))))))) e h =
    let z : 8 - (suc (suc (suc (suc (suc (suc (suc n)))))) + 1) ≡ 0 = omega arith in
    rw z (mod-one (shift w b))

kept_kinds : (r : Reader) (b : ℕ) → 0 < r.left → kinds (inside r b) ≡ kinds r
unfolding inside kinds
kept_kinds r b p = omega (arith, kept r b 2 r.sites p, kept r b 3 r.triangles p, kept r b 4 r.hull p)

kept_bodies : (r : Reader) (b : ℕ) → 0 < r.left → bodies (inside r b) ≡ bodies r
unfolding inside bodies
kept_bodies r b p = omega (arith, kept r b 2 r.sites p, kept r b 3 r.triangles p, kept r b 4 r.hull p)

kept_at_lem : (r : Reader) (b : ℕ) → 0 < r.left → r.at + r.left ≡ kinds r + bodies r → r.at + 1 + (r.left - 1) ≡ kinds (inside r b) + bodies (inside r b)
kept_at_lem r b p e = omega (arith, kept_kinds r b p, kept_bodies r b p)

ok_inside : {r : Reader} (b : ℕ) → Ok r → 0 < r.left → Ok (inside r b)
unfolding inside body_of
ok_inside {r} b o p =
    let s = kept r b 2 r.sites p in
    let t = kept r b 3 r.triangles p in
    let h = kept r b 4 r.hull p in
    let i : bodies (inside r b) - (r.left - 1) ≡ bodies r - r.left + 1 = omega (arith, kept_bodies r b p, left_begun o) in
    record {
      refusal = inl refl;
      by_name = λ e. absurd (omega arith);
      stage = o.stage;
      no_clip = o.no_clip;
      clip = o.clip;
      left = omega (arith, o.left);
      sites = subst (λ (n : ℕ). CountAt r.stage 2 n most_sites) (sym s) o.sites;
      triangles = subst (λ (n : ℕ). CountAt r.stage 3 n most_triangles) (sym t) o.triangles;
      hull = subst (λ (n : ℕ). CountAt r.stage 4 n most_hull) (sym h) o.hull;
      at = kept_at_lem r b p o.at;
      no_word = λ e. absurd (omega arith);
      word = subst (λ (n : ℕ). shift r.word b % 256 ^ (8 - n) ≡ 0) (sym i) (shift_low r.word b (bodies r - r.left) o.no_word o.word);
    }

pub ok_step : (r : Reader) (b : ℕ) → Ok r → Ok (step r b)
unfolding step outside
ok_step r b o = go (broken r) (eqb r.left 0) (follows r b) refl refl
  where
    go :
        (t u f : Bool)
        → eqb r.left 0 ≡ u
        → follows r b ≡ f
        → Ok (pick t (λ _. r) (λ _. pick u (λ _. pick f (λ _. begun r b) (λ _. refused r (number_for r b))) (λ _. inside r b)))
    go true u f h e = o
    go false true true h e = ok_begun b o (eqb-true _ _ h) e
    go false true false h e = ok_refused (number_for r b) (number_is r b) (λ n. (eqb-true _ _ h, number_early r b n)) o
    go false false f h e = let z = eqb-false r.left 0 h in ok_inside b o (omega (arith, z))

pub ok_steps : (s : List ℕ) (r : Reader) → Ok r → Ok (steps r s)
unfolding steps
ok_steps [] r o = o
ok_steps (b ∷ s) r o = ok_steps s (step r b) (ok_step r b o)

-- ---- the flag stays

old_step : (r : Reader) (b : ℕ) → (step r b).old ≡ r.old
unfolding step outside inside begun refused
old_step r b = go (broken r) (eqb r.left 0) (follows r b)
  where
    go : (t u f : Bool) → (pick t (λ _. r) (λ _. pick u (λ _. pick f (λ _. begun r b) (λ _. refused r (number_for r b))) (λ _. inside r b))).old ≡ r.old
    go true u f = refl
    go false true true = refl
    go false true false = refl
    go false false f = refl

pub old_steps : (s : List ℕ) (r : Reader) → (steps r s).old ≡ r.old
unfolding steps
old_steps [] r = refl
old_steps (b ∷ s) r = old_steps s (step r b) ∙ old_step r b

pub old_finished : (r : Reader) → (finished r).old ≡ r.old
unfolding finished refused
old_finished r = go (broken r) (eqb r.stage 5)
  where
    go : (t u : Bool) → (pick t (λ _. r) (λ _. pick u (λ _. r) (λ _. refused r refused_form))).old ≡ r.old
    go true u = refl
    go false true = refl
    go false false = refl
