-- The marks: what a site's mark tells, and which half-edge takes it off.
use Rattle.std.proofs.Math.Path.{◌≡◌, sym, ap}
use Rattle.std.specs.Prelude.{refl, List, Bool, not, ◌⊎◌, ◌≢◌, length, set}
use Rattle.std.proofs.Common.{◌∙◌, inl, inr, le_antisymm, length-set, get_or-set_same}
use Rattle.std.proofs.Math.Bool.{true, false}
use Rattle.std.proofs.Math.Logic.{⊎_elim}
use Prim.Native.Nat.{ℕ, zero, suc, ◌≤◌, ◌<◌}
use native.Mathlib.Omega.{arith}
use Rattle.std.proofs.Math.ListN.{get_or}
use Rattle.std.proofs.lemmas.List.{length-replicate, get_or-replicate}
use Rattle.std.proofs.Math.Seq.{get_or-set_other}
use borrow.Author.Tests.{eq-eqb, ne_eqb, lt-ltb, le-ltb, not-true, not-false}
use Rattle.base.specs.common.laws.Decide.{lt_or_ge, eq_or_ne}
use Rattle.base.specs.numbers.Numbers.{EMPTY}
use Rattle.mesh.specs.Mesh.{start_of, end_of, pair_of}
use Rattle.mesh.specs.Hull.{next_site, OpenEdge, FreshAt}
use Rattle.mesh_check.specs.border.Marks.{marks_to, Leads, leads_of, unmark_at, left_to, TakesAt}

set_hit : (l : List ℕ) (k v s : ℕ) → k ≡ s → s < length l → get_or (set l k v) s 0 ≡ v
set_hit l k v s q h = rw q (get_or-set_same l s v 0 h)

-- what the marks hold of site s
pub record MarkAt (hull : List ℕ) (n s r : ℕ) : Type 0 where
  pub none : r ≡ EMPTY → (j : ℕ) → j < n → get_or hull j 0 ≢ s
  pub some : r ≢ EMPTY → (r < n) × (get_or hull r 0 ≡ s)

pub marks_length : (hull : List ℕ) (w n : ℕ) → length (marks_to hull w n) ≡ w
unfolding marks_to
marks_length hull w zero = length-replicate w EMPTY
marks_length hull w (suc n) = length-set (marks_to hull w n) _ _ ∙ marks_length hull w n

pub marks_at : (hull : List ℕ) (w n s : ℕ) → n ≤ EMPTY → s < w → MarkAt hull n s (get_or (marks_to hull w n) s 0)
unfolding marks_to
marks_at hull w zero s small l = rw (get_or-replicate w s EMPTY 0 l) (record { none = λ q j h. absurd (omega arith); some = λ q. absurd (q refl) })
marks_at hull w (suc n) s small l =
    let g = marks_at hull w n s (omega arith) l in
    ⊎_elim
    (λ q. rw (set_hit (marks_to hull w n) (get_or hull n 0) n s q (rw (marks_length hull w n) l)) (record { none = λ z. absurd (omega arith); some = λ _. (omega arith, q) }))
    (λ q. rw (get_or-set_other (marks_to hull w n) (get_or hull n 0) s n 0 (λ z. q (sym z))) (record {
      none = λ z j h. ⊎_elim (λ u. rw u q) (λ u. g.none z j (omega arith)) (eq_or_ne j n);
      some = λ z. (omega (arith, (g.some z).0), (g.some z).1);
    }))
    (eq_or_ne (get_or hull n 0) s)

-- fresh sites keep their own places
pub marked : (hull : List ℕ) (sites w n : ℕ) → sites ≤ w → n ≤ EMPTY → ((i : ℕ) → i < n → FreshAt hull sites i) → (i : ℕ) → i < n
    → get_or (marks_to hull w n) (get_or hull i 0) 0 ≡ i
marked hull sites w n fits small fresh i l =
    let r : ℕ = get_or (marks_to hull w n) (get_or hull i 0) 0 in
    let g = marks_at hull w n (get_or hull i 0) small (omega (arith, (fresh i l).0)) in
    ⊎_elim
    (λ q. absurd (g.none q i l refl))
    (λ q. ⊎_elim
    (λ h. absurd ((fresh i l).1 r h (g.some q).1))
    (λ h. ⊎_elim (λ k. absurd ((fresh r (g.some q).0).1 i k (sym (g.some q).1))) (λ k. le_antisymm k h) (lt_or_ge i r))
    (lt_or_ge r i))
    (eq_or_ne r EMPTY)

pub leads_cases : (hull : List ℕ) (m b : ℕ) → (Leads hull m b × (leads_of hull m b ≡ true)) ⊎ ((Leads hull m b → ⊥) × (leads_of hull m b ≡ false))
unfolding leads_of
leads_cases hull m b =
    ⊎_elim
    (λ k. ⊎_elim
    (λ l. inl ((k, l), rw (lt-ltb m (length hull) k) (eq-eqb (next_site hull m) b l)))
    (λ l. inr (λ z. l z.1, rw (lt-ltb m (length hull) k) (ne_eqb (next_site hull m) b l)))
    (eq_or_ne (next_site hull m) b))
    (λ k. inr (λ z. omega (arith, z.0), rw (le-ltb m (length hull) k)))
    (lt_or_ge m (length hull))

pub unmark_cases : (tri he hull t : List ℕ) (e : ℕ) → ((pair_of he e ≡ EMPTY) × Leads hull (get_or t (start_of tri e) 0) (end_of tri e)
    × (unmark_at tri he hull t e ≡ set t (start_of tri e) EMPTY)) ⊎ ((pair_of he e ≡ EMPTY → Leads hull (get_or t (start_of tri e) 0) (end_of tri e) → ⊥) × (unmark_at tri he hull t e ≡ t))
unfolding unmark_at
unmark_cases tri he hull t e =
    ⊎_elim
    (λ p. ⊎_elim
    (λ g. inl (p, g.0, rw (eq-eqb (pair_of he e) EMPTY p, g.1)))
    (λ g. inr (λ _. g.0, rw (eq-eqb (pair_of he e) EMPTY p, g.1)))
    (leads_cases hull (get_or t (start_of tri e) 0) (end_of tri e)))
    (λ p. inr (λ z. absurd (p z), rw (ne_eqb (pair_of he e) EMPTY p)))
    (eq_or_ne (pair_of he e) EMPTY)

-- the three answers of a half-edge: a is where it starts, m the mark there, b where it ends, r whether m leads to b
module _ (tri he hull t : List ℕ) (e : ℕ) where
  pub unmark_paired : pair_of he e ≢ EMPTY → (t ≡ unmark_at tri he hull t e) × TakesAt tri he hull t e
  unfolding unmark_at
  unmark_paired p = (rw (ne_eqb (pair_of he e) EMPTY p), λ z. absurd (p z))

  module _ (a m b : ℕ) (r : Bool) (p : pair_of he e ≡ EMPTY) (qa : a ≡ start_of tri e) (qm : m ≡ get_or t a 0) (qb : b ≡ end_of tri e) (qr : r ≡ leads_of hull m b) where
    here : leads_of hull (get_or t (start_of tri e) 0) (end_of tri e) ≡ r
    here = cc

    pub unmark_stray : not r ≡ true → (t ≡ unmark_at tri he hull t e) × (TakesAt tri he hull t e → ⊥)
    unfolding unmark_at
    unmark_stray n =
        let f = here ∙ not-true r n in (
          rw (eq-eqb (pair_of he e) EMPTY p, f),
          λ k. ⊎_elim (λ g. let z : ◌≡◌ {A = Bool} true false = sym g.1 ∙ f in let y : ◌≡◌ {A = ℕ} 0 1 = cc in omega arith) (λ g. g.0 (k p))
              (leads_cases hull (get_or t (start_of tri e) 0) (end_of tri e)),
        )

    pub unmark_taken : not r ≡ false → (set t a EMPTY ≡ unmark_at tri he hull t e) × TakesAt tri he hull t e
    unfolding unmark_at
    unmark_taken n =
        let f = here ∙ not-false r n in (
          rw (eq-eqb (pair_of he e) EMPTY p, f, qa),
          λ _. ⊎_elim (λ g. g.0) (λ g. let z : ◌≡◌ {A = Bool} true false = sym f ∙ g.1 in let y : ◌≡◌ {A = ℕ} 0 1 = cc in absurd (omega arith))
              (leads_cases hull (get_or t (start_of tri e) 0) (end_of tri e)),
        )

pub left_length : (tri he hull t : List ℕ) (n : ℕ) → length (left_to tri he hull t n) ≡ length t
unfolding left_to
left_length tri he hull t zero = refl
left_length tri he hull t (suc n) =
    let u = left_to tri he hull t n in
    ⊎_elim
    (λ w. ap length w.2 ∙ length-set u _ _ ∙ left_length tri he hull t n)
    (λ w. ap length w.1 ∙ left_length tri he hull t n)
    (unmark_cases tri he hull u n)

-- what is left of a mark is the mark
pub left_same : (tri he hull t : List ℕ) (n a : ℕ) → a < length t → get_or (left_to tri he hull t n) a 0 ≢ EMPTY → get_or (left_to tri he hull t n) a 0 ≡ get_or t a 0
unfolding left_to
left_same tri he hull t zero a l h = refl
left_same tri he hull t (suc n) a l h =
    let u = left_to tri he hull t n in
    ⊎_elim
    (λ w. ⊎_elim
    (λ q. absurd (h (rw w.2 (set_hit u (start_of tri n) EMPTY a q (rw (left_length tri he hull t n) l)))))
    (λ q.
    let o = ap (λ v. get_or v a 0) w.2 ∙ get_or-set_other u (start_of tri n) a EMPTY 0 (λ z. q (sym z)) in
    o ∙ left_same tri he hull t n a l (λ z. h (o ∙ z)))
    (eq_or_ne (start_of tri n) a))
    (λ w.
    let o = ap (λ v. get_or v a 0) w.1 in
    o ∙ left_same tri he hull t n a l (λ z. h (o ∙ z)))
    (unmark_cases tri he hull u n)

-- the mark i of site a is gone exactly where there is an unpaired half-edge to the site at the place after i
pub record LeftAt (tri he : List ℕ) (n a b i r : ℕ) : Type 0 where
  pub gone : r ≡ EMPTY → OpenEdge tri he n a b
  pub kept : r ≢ EMPTY → (r ≡ i) × (OpenEdge tri he n a b → ⊥)

module _ (tri he hull t : List ℕ) (a i : ℕ) (la : a < length t) (li : i < length hull) (small : length hull < EMPTY) (q : get_or t a 0 ≡ i) where
  more : (n : ℕ) → OpenEdge tri he n a (next_site hull i) → OpenEdge tri he (suc n) a (next_site hull i)
  more n o = (o.0, omega (arith, o.1), o.2, o.3, o.4)

  -- one more half-edge, which is no such one
  pass : (n r : ℕ) → (r ≢ EMPTY → r ≡ i → (pair_of he n ≡ EMPTY) → (start_of tri n ≡ a) → (end_of tri n ≡ next_site hull i) → ⊥)
      → LeftAt tri he n a (next_site hull i) i r → LeftAt tri he (suc n) a (next_site hull i) i r
  pass n r h g = record {
    gone = λ z. more n (g.gone z);
    kept = λ z. (
      (g.kept z).0,
      λ o.
          ⊎_elim
          (λ w. h z (g.kept z).0 (rw (← w) o.2) (rw (← w) o.3) (rw (← w) o.4))
          (λ w. (g.kept z).1 (o.0, omega (arith, o.1), o.2, o.3, o.4))
          (eq_or_ne o.0 n),
    );
  }

  pub left_at : (n : ℕ) → LeftAt tri he n a (next_site hull i) i (get_or (left_to tri he hull t n) a 0)
  unfolding left_to
  left_at zero = record { gone = λ z. absurd (omega arith); kept = λ z. (q, λ o. omega (arith, o.1)) }
  left_at (suc n) =
      let u = left_to tri he hull t n in
      let r = get_or u a 0 in
      let g = left_at n in
      ⊎_elim
      (λ w. ⊎_elim
      (λ h.
      let k = set_hit u (start_of tri n) EMPTY a h (rw (left_length tri he hull t n) la) in
      let there : r ≢ EMPTY = λ z. omega (arith, w.1.0, ap (λ s. get_or u s 0) h) in
      rw (w.2, k) (record {
        gone = λ _. (
          n,
          omega arith,
          w.0,
          h,
          sym w.1.1 ∙ ap (λ s. next_site hull (get_or u s 0)) h
              ∙ ap (next_site hull) (g.kept there).0,
        );
        kept = λ z. absurd (z refl);
      }))
      (λ h. rw (w.2, get_or-set_other u (start_of tri n) a EMPTY 0 (λ z. h (sym z))) (pass n r (λ _ _ _ s _. h s) g))
      (eq_or_ne (start_of tri n) a))
      (λ w. rw w.1 (pass n r (λ _ e p s b. w.0 p (rw (s, e) li, rw (s, e) (sym b))) g))
      (unmark_cases tri he hull u n)
