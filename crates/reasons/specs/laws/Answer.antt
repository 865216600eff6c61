-- What was asked, by the tests that the code makes; and a dropped neighbour shares fewer than two entries.
use Rattle.std.specs.Prelude.{◌≡◌, refl, Bool, not, ℕ, suc, ◌+◌, ◌-◌, ◌≤◌, ◌<◌, eqb, leb, length, get_or, take, drop}
use Rattle.std.proofs.Math.Path.{sym}
use Rattle.std.proofs.Common.{ap, ◌∙◌, length-take, length-drop, eq-eqb, ne_eqb, lt-ltb, le-ltb, ltb-true, le-leb}
use Rattle.std.proofs.Math.Bool.{true, false}
use mathlib.Core.List.{List, [], ◌∷◌}
use Rattle.std.proofs.Math.Logic.{⊎_elim}
use native.Mathlib.Omega.{arith}
use Rattle.base.specs.common.Pick.{pick}
use Rattle.base.specs.common.Count.{occ, same}
use Rattle.base.specs.common.laws.Count.{occ_append, same_cases}
use Rattle.base.specs.common.laws.Decide.{eq_or_ne, lt_or_ge}
use Rattle.base.specs.numbers.Numbers.{EMPTY}
use Rattle.mesh.specs.Mesh.{start_of, pair_of, leftmost_of, whole_of}
use Rattle.mesh.specs.Accepted.{Topology}
use Rattle.mesh.specs.laws.Facts.{tab_used, tab_unused, tab_length}
use Rattle.mesh.specs.laws.Occurs.{occ_there}
use Rattle.walks.specs.shared.Cells.{Cells, cell_of, holds_of, shared_of, share_edge_of}
use Rattle.walks.specs.neighbours.Neighbours.{last_end, starts_of, neighbours_of}
use Rattle.walks.specs.neighbours.laws.Neighbours.{sites_from, starts_cons}
use Rattle.queries.specs.clipped.Clipped.{kept_of, clipped_from, clipped_first, clipped_of}
use Rattle.queries.specs.clipped.Clippable.{Clippable}
use Rattle.queries.specs.clipped.laws.Clippable.{clippable}
use Rattle.reasons.specs.declared.Question.TheVariants.{About, Between}
use Rattle.reasons.specs.declared.Reason.{Reason}
use Rattle.reasons.specs.declared.Reason.TheVariants.{NoFault, Dropped}
use Rattle.reasons.specs.Answer.{is_none, empty_answer, dropped_answer, staying, answer_to, Askable}

-- ---- tests
pub not_true : (b : Bool) → not b ≡ true → b ≡ false
not_true true e = sym e
not_true false e = refl

pub not_false : (b : Bool) → not b ≡ false → b ≡ true
not_false true e = refl
not_false false e = sym e

-- what is counted, by the cells that were taken
pub shared_cells : (off ix : List ℕ) {a b : List ℕ} {s t u v k : ℕ} → u ≡ s → v ≡ t → a ≡ cell_of off ix u → b ≡ cell_of off ix v → k ≡ shared_of a b
    → k ≡ shared_of (cell_of off ix s) (cell_of off ix t)
shared_cells off ix p q x y e = cc

-- ---- a site in use

-- a number that stands in a list has a place there
pub place_of : (v : ℕ) (l : List ℕ) → 0 < occ v l → (k : ℕ) × (k < length l) × (get_or l k 0 ≡ v)
place_of v [] h = absurd (omega arith)
place_of v (x ∷ l) h =
    ⊎_elim
    (λ w. (0, omega arith, sym w.0))
    (λ w. let p = place_of v l (omega (arith, w.1)) in (suc p.0, omega (arith, p.1), p.2))
    (same_cases v x)

-- the site's leftmost half-edge is none exactly where no triangle names it
pub used_test : {tri he hull : List ℕ} {n : ℕ} (t : Topology tri he hull n) (s : ℕ) → s < n
    → not (eqb (get_or (leftmost_of tri he n) s 0) EMPTY) ≡ holds_of tri s
used_test {tri} {he} {hull} {n} t s l =
    ⊎_elim
    (λ h. let p = place_of s tri h in
    let u = tab_used t s l p in
    rw (ne_eqb (get_or (leftmost_of tri he n) s 0) EMPTY (λ e. omega (arith, u.0, t.small, t.same)), lt-ltb 0 (occ s tri) h))
    (λ h. rw (eq-eqb (get_or (leftmost_of tri he n) s 0) EMPTY (tab_unused t s l (λ (k, m, q). omega (arith, h, rw q at (occ_there tri k m)))), le-ltb 0 (occ s tri) h))
    (lt_or_ge 0 (occ s tri))

-- ---- an empty cell
none_length : (l : List ℕ) → is_none l ≡ eqb (length l) 0
none_length [] = refl
none_length (x ∷ l) = sym (ne_eqb (length (x ∷ l)) 0 (λ z. omega arith))

pub empty_test : (off ix : List ℕ) (s : ℕ) → Cells off (length ix) → s + 1 < length off → eqb (get_or off s 0) (get_or off (s + 1) 0) ≡ is_none (cell_of off ix s)
unfolding cell_of
empty_test off ix s c l =
    let a = get_or off s 0 in
    let b = get_or off (s + 1) 0 in
    let long : length (take (b - a) (drop a ix)) ≡ b - a = simp (length-take, length-drop) (omega (arith, c.rising s l, c.within (s + 1) l)) in
    ⊎_elim
    (λ q. rw (eq-eqb a b q, none_length (take (b - a) (drop a ix)), long) (sym (eq-eqb (b - a) 0 (omega arith))))
    (λ q. rw (ne_eqb a b q, none_length (take (b - a) (drop a ix)), long) (sym (ne_eqb (b - a) 0 (λ z. q (omega (arith, c.rising s l))))))
    (eq_or_ne a b)

-- ---- a neighbour that is kept stays
module _ (tri he : List ℕ) (keeps : ℕ → Bool) (t : ℕ) (yes : keeps t ≡ true) where
  kept_in : (l : List ℕ) → 0 < occ t l → 0 < occ t (kept_of keeps l)
  unfolding kept_of
  kept_in [] h = h
  kept_in (x ∷ l) h =
      ⊎_elim
      (λ w. rw (ap keeps (sym w.0) ∙ yes) (omega (arith, w.1)))
      (λ w. go (keeps x) (kept_in l (omega (arith, w.1))))
      (same_cases t x)
    where
      go : (b : Bool) → 0 < occ t (kept_of keeps l) → 0 < occ t (pick {A = List ℕ} b (λ _. x ∷ kept_of keeps l) (λ _. kept_of keeps l))
      go true g = omega arith
      go false g = g

  from_in : (l : ℕ) (es : List ℕ) → 0 < occ t (sites_from tri he l es) → 0 < occ t (clipped_from tri he keeps l es)
  unfolding sites_from clipped_from
  from_in l [] h = kept_in (last_end tri he l) h
  from_in l (e ∷ es) h =
      ⊎_elim (λ w. omega (arith, w.1)) (λ w. omega (arith, from_in e es (omega (arith, w.1)))) (same_cases t (start_of tri e))

  first_in : (e : ℕ) → 0 < occ t (start_of tri e ∷ []) → 0 < occ t (clipped_first tri he keeps e)
  unfolding clipped_first
  first_in e h = go (eqb (pair_of he e) EMPTY)
    where
      go : (b : Bool) → 0 < occ t (pick {A = List ℕ} b (λ _. kept_of keeps (start_of tri e ∷ [])) (λ _. start_of tri e ∷ []))
      go true = kept_in (start_of tri e ∷ []) h
      go false = h

  stays_in : (es : List ℕ) → 0 < occ t (starts_of tri he es) → 0 < occ t (clipped_of tri he keeps es)
  unfolding starts_of clipped_of
  stays_in [] h = h
  stays_in (e ∷ es) h =
      let g : 0 < same t (start_of tri e) + occ t (sites_from tri he e es) = rw (starts_cons tri he e es) at h in
      let q = occ_append t (clipped_first tri he keeps e) (clipped_from tri he keeps e es) in
      ⊎_elim
      (λ w. omega (arith, q, first_in e (omega (arith, w.1))))
      (λ w. omega (arith, q, from_in e es (omega (arith, w.1))))
      (same_cases t (start_of tri e))

-- so a neighbour that does not stay is not kept: fewer than two entries are shared
pub dropped_few : (tri he table : List ℕ) (cell : ℕ → List ℕ) (s t : ℕ) → holds_of (neighbours_of tri he table s) t ≡ true → holds_of (staying tri he table cell s) t ≡ false
    → shared_of (cell s) (cell t) < 2
unfolding neighbours_of
dropped_few tri he table cell s t n g =
    ⊎_elim
    (λ l. l)
    (λ l. absurd (no (sym (lt-ltb 0 _ (stays_in tri he (λ x. leb 2 (shared_of (cell s) (cell x))) t (yes l) (whole_of he (get_or table s 0)) (ltb-true 0 _ n))) ∙ g)))
    (lt_or_ge (shared_of (cell s) (cell t)) 2)
  where
    no : true ≡ false → ⊥
    no e = let z : ◌≡◌ {A = ℕ} 0 1 = cc in omega arith

    yes : 2 ≤ shared_of (cell s) (cell t) → leb 2 (shared_of (cell s) (cell t)) ≡ true
    yes l = le-leb 2 _ l

-- ---- the answers by the tests
module _ {tri he table off ix : List ℕ} (a : Askable tri he table off ix) where
  pub sites_many : length table ≡ a.n
  sites_many = ap length a.table_is ∙ tab_length a.mesh

  pub can_clip : Clippable tri he off ix
  can_clip = clippable a.mesh a.many a.cut

  pub has_cell : {s : ℕ} → s < length table → s + 1 < length off
  has_cell l = omega (arith, sites_many, a.many)

  pub about_answer : {s : ℕ} → s < length table → {r : Reason} → r ≡ empty_answer s (eqb (get_or off s 0) (get_or off (s + 1) 0)) (not (eqb (get_or table s 0) EMPTY))
      → r ≡ answer_to tri he table (cell_of off ix) (About s)
  about_answer {s} l q =
      let used : not (eqb (get_or table s 0) EMPTY) ≡ holds_of tri s = rw a.table_is (used_test a.mesh s (omega (arith, sites_many))) in
      q ∙ rw (empty_test off ix s a.cut (has_cell l), used)

module _ (tri he table off ix : List ℕ) (s t : ℕ) {start : ℕ} (is : start ≡ get_or table s 0) {n : Bool} (asks : n ≡ holds_of (starts_of tri he (whole_of he start)) t) where
  neighbour : n ≡ holds_of (neighbours_of tri he table s) t
  unfolding neighbours_of
  neighbour = rw (← is) asks

  pub no_neighbour_lem : n ≡ false → NoFault ≡ answer_to tri he table (cell_of off ix) (Between s t)
  unfolding dropped_answer
  no_neighbour_lem z = rw (sym neighbour ∙ z)

  module _ (yes : n ≡ true) {m : Bool} (stays : m ≡ holds_of (clipped_of tri he (share_edge_of off ix s) (whole_of he start)) t) where
    stays_there : m ≡ holds_of (staying tri he table (cell_of off ix) s) t
    unfolding share_edge_of
    stays_there = rw (← is) stays

    pub still_neighbour : m ≡ true → NoFault ≡ answer_to tri he table (cell_of off ix) (Between s t)
    unfolding dropped_answer
    still_neighbour z = rw (sym neighbour ∙ yes, sym stays_there ∙ z)

    module _ (gone : m ≡ false) where
      pub few_shared : shared_of (cell_of off ix s) (cell_of off ix t) < 2
      few_shared = dropped_few tri he table (cell_of off ix) s t (sym neighbour ∙ yes) (sym stays_there ∙ gone)

      pub dropped_answer_lem : {k : ℕ} → k ≡ shared_of (cell_of off ix s) (cell_of off ix t) → Dropped s t k ≡ answer_to tri he table (cell_of off ix) (Between s t)
      unfolding dropped_answer
      dropped_answer_lem q = rw (sym neighbour ∙ yes, sym stays_there ∙ gone, q)
