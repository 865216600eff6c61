-- A state whose last byte was a kind: the state before it, at the highest stage of which there is a record, and that the kind leads back.
use Rattle.std.specs.Prelude.{◌≡◌, Bool, true, false, ◌⊎◌, ◌≢◌, ℕ, ◌+◌, ◌-◌, ◌*◌, ◌%◌, ◌^◌, ◌≤◌, ◌<◌, eqb}
use Rattle.std.proofs.Math.Path.{refl}
use Rattle.std.proofs.Common.{sym, ◌∙◌, subst, inl, inr, ⊎_elim, eqb-true, lt-ltb}
use native.Mathlib.Omega.{arith}
use Rattle.std.proofs.lemmas.Bool.{eqb-false}
use Rattle.base.specs.common.Pick.{pick}
use Rattle.base.specs.common.laws.Decide.{eq_or_ne}
use Rattle.form.specs.Limits.{most_sites, most_triangles, most_hull}
use Rattle.form.specs.step.Reader.{size_of, opens, room_left, follows, broken, begun, outside, step}
use Rattle.form.specs.step.Standing.{under, body_of, kinds, bodies, CountAt, Ok}
use Rattle.form.specs.step.laws.Steps.{step_outside}
use Rattle.form.specs.step.laws.Standing.{few_counts, under_one, kinds_between}
use Rattle.form.specs.laws.Run.{kind_follows}
use Rattle.form.specs.declared.step.Reader.{Reader}
use Rattle.reader_reached.specs.laws.Earlier.{same_state, body_of_kind, under_not, kinds_last, bodies_are, at_first}

-- ---- a kind came last

-- the highest stage of which there is a record
unfoldable pub last : ℕ → ℕ → ℕ → ℕ
last n t h = pick (eqb h 0) (λ _. pick (eqb t 0) (λ _. pick (eqb n 0) (λ _. 1) (λ _. 2)) (λ _. 3)) (λ _. 4)

pub record Last (n t h k : ℕ) : Type 0 where
  low : 1 ≤ k
  high : k ≤ 4
  sites : CountAt k 2 n most_sites
  triangles : CountAt k 3 t most_triangles
  hull : CountAt k 4 h most_hull

last_is : (n t h : ℕ) → n ≤ most_sites → t ≤ most_triangles → h ≤ most_hull → Last n t h (last n t h)
unfolding last
last_is n t h a b c = go (eqb h 0) (eqb t 0) (eqb n 0) refl refl refl
  where
    go : (x y z : Bool) → eqb h 0 ≡ x → eqb t 0 ≡ y → eqb n 0 ≡ z
        → Last n t h (pick x (λ _. pick y (λ _. pick z (λ _. 1) (λ _. 2)) (λ _. 3)) (λ _. 4))
    go false y z p q w =
        let u = eqb-false h 0 p in
        record {
          low = omega arith;
          high = omega arith;
          sites = record { few = a; before = λ i. absurd (omega arith); in_it = λ i. absurd (omega arith) };
          triangles = record { few = b; before = λ i. absurd (omega arith); in_it = λ i. absurd (omega arith) };
          hull = record { few = c; before = λ i. absurd (omega arith); in_it = λ i. omega (arith, u) };
        }
    go true false z p q w =
        let u = eqb-true h 0 p in
        let v = eqb-false t 0 q in
        record {
          low = omega arith;
          high = omega arith;
          sites = record { few = a; before = λ i. absurd (omega arith); in_it = λ i. absurd (omega arith) };
          triangles = record { few = b; before = λ i. absurd (omega arith); in_it = λ i. omega (arith, v) };
          hull = record { few = c; before = λ i. u; in_it = λ i. absurd (omega arith) };
        }
    go true true false p q w =
        let u = eqb-true h 0 p in
        let v = eqb-true t 0 q in
        let x = eqb-false n 0 w in
        record {
          low = omega arith;
          high = omega arith;
          sites = record { few = a; before = λ i. absurd (omega arith); in_it = λ i. omega (arith, x) };
          triangles = record { few = b; before = λ i. v; in_it = λ i. absurd (omega arith) };
          hull = record { few = c; before = λ i. u; in_it = λ i. absurd (omega arith) };
        }
    go true true true p q w =
        let u = eqb-true h 0 p in
        let v = eqb-true t 0 q in
        let x = eqb-true n 0 w in
        record {
          low = omega arith;
          high = omega arith;
          sites = record { few = a; before = λ i. x; in_it = λ i. absurd (omega arith) };
          triangles = record { few = b; before = λ i. v; in_it = λ i. absurd (omega arith) };
          hull = record { few = c; before = λ i. u; in_it = λ i. absurd (omega arith) };
        }

abbrev pub before_kind : Reader → Reader
before_kind r =
    record {
      old = r.old;
      stage = last r.sites r.triangles r.hull;
      left = 0;
      word = r.word;
      at = r.at - 1;
      refusal = 0;
      clip = r.clip;
      sites = r.sites;
      triangles = r.triangles;
      hull = r.hull;
    }

module _ {r : Reader} (o : Ok r) (d : r.stage ≢ 0) (d₁ : r.stage ≢ 1) (h : r.left ≡ body_of r) where
  few : (r.sites ≤ most_sites) × (r.triangles ≤ most_triangles) × (r.hull ≤ most_hull)
  few = few_counts o

  is_last : Last r.sites r.triangles r.hull (before_kind r).stage
  is_last = last_is r.sites r.triangles r.hull few.0 few.1 few.2

  none_under : (k : ℕ) → under (before_kind r) k ≡ 0
  none_under k = under_not (before_kind r) k (inr refl)

  before_kinds : kinds (before_kind r) ≡ 1 + r.sites + r.triangles + r.hull
  before_kinds =
      let l = is_last in
      omega (arith, kinds_between (before_kind r) (λ z. omega (arith, l.low)) (λ z. omega (arith, l.high)), none_under 2, none_under 3, none_under 4)

  before_bodies : bodies (before_kind r) ≡ size_of r.clip + 16 * r.sites + 24 * r.triangles + 4 * r.hull
  before_bodies = omega (arith, bodies_are (before_kind r), none_under 2, none_under 3, none_under 4)

  -- the record that has just begun, of kind k and with a body of so many bytes
  module _ (k size : ℕ) (e : r.stage ≡ k) (z : r.left ≡ size)
      (b : bodies r ≡ size_of r.clip + 16 * r.sites + 24 * r.triangles + 4 * r.hull + size)
      (n : kinds r ≡ 2 + r.sites + r.triangles + r.hull)
    where
      ok_before : Ok (before_kind r)
      ok_before =
          let l = is_last in
          let i : bodies (before_kind r) - 0 ≡ bodies r - r.left = omega (arith, before_bodies) in
          record {
            refusal = inl refl;
            by_name = λ q. absurd (omega arith);
            stage = omega (arith, l.high);
            no_clip = λ q. absurd (omega (arith, l.low));
            clip = λ q. o.clip d;
            left = omega arith;
            sites = subst (λ (m : ℕ). CountAt (before_kind r).stage 2 m most_sites) (omega (arith, none_under 2)) l.sites;
            triangles = subst (λ (m : ℕ). CountAt (before_kind r).stage 3 m most_triangles) (omega (arith, none_under 3)) l.triangles;
            hull = subst (λ (m : ℕ). CountAt (before_kind r).stage 4 m most_hull) (omega (arith, none_under 4)) l.hull;
            at = omega (arith, o.at, before_kinds, before_bodies, at_first o d);
            no_word = λ q. o.no_word (sym i ∙ q);
            word = subst (λ (m : ℕ). r.word % 256 ^ (8 - m) ≡ 0) (sym i) o.word;
          }

pub outside_step : (r : Reader) (k : ℕ) → broken r ≡ false → r.left ≡ 0 → follows r k ≡ true → step r k ≡ begun r k
unfolding outside
outside_step r k e z f = step_outside r k e z ∙ rw f

-- a stage above which there are no records
last_low : {n t h k : ℕ} (m : ℕ) → Last n t h k → (4 ≤ m) ⊎ (h ≡ 0) → (3 ≤ m) ⊎ (t ≡ 0) → 2 ≤ m → k ≤ m
last_low {n} {t} {h} {k} m l p q c =
    ⊎_elim (λ e. ⊎_elim (λ a. omega arith) (λ z. absurd (omega (arith, l.hull.in_it e))) p)
    (λ d₄. ⊎_elim (λ e. ⊎_elim (λ a. omega arith) (λ z. absurd (omega (arith, l.triangles.in_it e))) q)
    (λ d₃. omega (arith, l.high))
    (eq_or_ne k 3))
    (eq_or_ne k 4)

-- so a kind leads from there here
pub record KindBefore (r : Reader) : Type 0 where
  pub kind : ℕ
  pub byte : kind < 256
  pub ok : Ok (before_kind r)
  pub leads : step (before_kind r) kind ≡ r

module _ {r : Reader} (o : Ok r) (f : r.refusal ≡ 0) (h : r.left ≡ body_of r) where
  before_site : r.stage ≡ 2 → KindBefore r
  unfolding begun opens size_of room_left
  before_site e =
      let d : r.stage ≢ 0 = λ z. omega arith in
      let d₁ : r.stage ≢ 1 = λ z. omega arith in
      let z : r.left ≡ 16 = h ∙ body_of_kind r 2 (λ q. omega arith) e in
      let u₂ = under_one r 2 e (omega arith) in
      let u₃ = under_not r 3 (inl (λ q. omega arith)) in
      let u₄ = under_not r 4 (inl (λ q. omega arith)) in
      let l = is_last o d d₁ h in
      let t : r.triangles ≡ 0 = omega (arith, o.triangles.before (omega arith)) in
      let g : r.hull ≡ 0 = omega (arith, o.hull.before (omega arith)) in
      record {
        kind = 2;
        byte = omega arith;
        ok =
            ok_before o d d₁ h 2 16 e z (omega (arith, bodies_are r, u₂, u₃, u₄)) (omega (arith, kinds_between r d (λ q. omega arith), u₂, u₃, u₄));
        leads =
            outside_step (before_kind r) 2 refl refl
            (kind_follows (before_kind r) 2 l.low (last_low 2 l (inr g) (inr t) (omega arith)) (lt-ltb r.sites most_sites (omega (arith, o.sites.few, u₂))))
            ∙ same_state (begun (before_kind r) 2) r refl (sym e) (sym z) refl (omega (arith, at_first o d)) (sym f) refl refl refl refl;
      }

  before_triangle : r.stage ≡ 3 → KindBefore r
  unfolding begun opens size_of room_left
  before_triangle e =
      let d : r.stage ≢ 0 = λ z. omega arith in
      let d₁ : r.stage ≢ 1 = λ z. omega arith in
      let z : r.left ≡ 24 = h ∙ body_of_kind r 3 (λ q. omega arith) e in
      let u₂ = under_not r 2 (inl (λ q. omega arith)) in
      let u₃ = under_one r 3 e (omega arith) in
      let u₄ = under_not r 4 (inl (λ q. omega arith)) in
      let l = is_last o d d₁ h in
      let g : r.hull ≡ 0 = omega (arith, o.hull.before (omega arith)) in
      record {
        kind = 3;
        byte = omega arith;
        ok =
            ok_before o d d₁ h 3 24 e z (omega (arith, bodies_are r, u₂, u₃, u₄)) (omega (arith, kinds_between r d (λ q. omega arith), u₂, u₃, u₄));
        leads =
            outside_step (before_kind r) 3 refl refl
            (kind_follows (before_kind r) 3 l.low (last_low 3 l (inr g) (inl (omega arith)) (omega arith)) (lt-ltb r.triangles most_triangles (omega (arith, o.triangles.few, u₃))))
            ∙ same_state (begun (before_kind r) 3) r refl (sym e) (sym z) refl (omega (arith, at_first o d)) (sym f) refl refl refl refl;
      }

  before_hull : r.stage ≡ 4 → KindBefore r
  unfolding begun opens size_of room_left
  before_hull e =
      let d : r.stage ≢ 0 = λ z. omega arith in
      let d₁ : r.stage ≢ 1 = λ z. omega arith in
      let z : r.left ≡ 4 = h ∙ body_of_kind r 4 (λ q. omega arith) e in
      let u₂ = under_not r 2 (inl (λ q. omega arith)) in
      let u₃ = under_not r 3 (inl (λ q. omega arith)) in
      let u₄ = under_one r 4 e (omega arith) in
      let l = is_last o d d₁ h in
      record {
        kind = 4;
        byte = omega arith;
        ok =
            ok_before o d d₁ h 4 4 e z (omega (arith, bodies_are r, u₂, u₃, u₄)) (omega (arith, kinds_between r d (λ q. omega arith), u₂, u₃, u₄));
        leads =
            outside_step (before_kind r) 4 refl refl (kind_follows (before_kind r) 4 l.low l.high (lt-ltb r.hull most_hull (omega (arith, o.hull.few, u₄))))
            ∙ same_state (begun (before_kind r) 4) r refl (sym e) (sym z) refl (omega (arith, at_first o d)) (sym f) refl refl refl refl;
      }

  before_end : r.stage ≡ 5 → KindBefore r
  unfolding begun opens size_of room_left
  before_end e =
      let d : r.stage ≢ 0 = λ z. omega arith in
      let d₁ : r.stage ≢ 1 = λ z. omega arith in
      let z : r.left ≡ 0 = h ∙ body_of_kind r 5 (λ q. omega arith) e in
      let u₂ = under_not r 2 (inr z) in
      let u₃ = under_not r 3 (inr z) in
      let u₄ = under_not r 4 (inr z) in
      let l = is_last o d d₁ h in
      record {
        kind = 5;
        byte = omega arith;
        ok = ok_before o d d₁ h 5 0 e z (omega (arith, bodies_are r, u₂, u₃, u₄)) (omega (arith, kinds_last r e, u₂, u₃, u₄));
        leads =
            outside_step (before_kind r) 5 refl refl (kind_follows (before_kind r) 5 l.low (omega (arith, l.high)) (lt-ltb (before_kind r).stage 5 (omega (arith, l.high))))
            ∙ same_state (begun (before_kind r) 5) r refl (sym e) (sym z) refl (omega (arith, at_first o d)) (sym f) refl refl refl refl;
      }

  pub any_before : r.stage ≢ 0 → r.stage ≢ 1 → KindBefore r
  any_before d d₁ =
      ⊎_elim before_site
      (λ n₂. ⊎_elim before_triangle
      (λ n₃. ⊎_elim before_hull (λ n₄. before_end (omega (arith, o.stage))) (eq_or_ne r.stage 4))
      (eq_or_ne r.stage 3))
      (eq_or_ne r.stage 2)
