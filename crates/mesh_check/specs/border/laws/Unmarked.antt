-- The marks that are left decide rule 9: the lowest place that kept its mark, and the lowest unpaired half-edge that took none off, are the
-- lowest offenders.
use Rattle.std.specs.Prelude.{◌≡◌, List, ◌≢◌, ℕ, ◌≤◌, ◌<◌, length, get_or, Ok, Err}
use Rattle.std.proofs.Common.{sym, ap, ◌∙◌, ⊎_elim, arith}
use Rattle.base.specs.common.laws.Decide.{lt_or_ge, eq_or_ne, first_all}
use Rattle.base.specs.common.Decide.{First}
use Rattle.mesh.specs.Mesh.{start_of}
use Rattle.mesh.specs.Hull.{next_site, FreshAt, EdgeAt, PlaceAt, BorderAt}
use Rattle.mesh.specs.declared.MeshFault.TheVariants.{HullPlace, HullEdge}
use Rattle.base.specs.common.laws.Refusals.{offends, all_keep, nothing}
use Rattle.base.specs.numbers.Numbers.{EMPTY}
use Rattle.mesh_check.specs.border.Answer.{HullAnswer}
use Rattle.mesh_check.specs.border.Marks.{marks_to, left_to, TakesAt, GoneAt}
use Rattle.mesh_check.specs.border.laws.Marks.{LeftAt, marked, marks_at, marks_length, left_at, left_same}

-- the places below n are fresh and were marked
module _ (tri he hull : List ℕ) (sites w n : ℕ) (fits : sites ≤ w) (small : length hull < EMPTY) (all : n ≤ length hull) (fresh : (i : ℕ) → i < n → FreshAt hull sites i) where
  left : (i : ℕ) → i < n → (k : ℕ) → LeftAt tri he k (get_or hull i 0) (next_site hull i) i (get_or (left_to tri he hull (marks_to hull w n) k) (get_or hull i 0) 0)
  left i l = left_at tri he hull (marks_to hull w n) (get_or hull i 0) i (rw (marks_length hull w n) (omega (arith, (fresh i l).0))) (omega arith) small
      (marked hull sites w n fits (omega arith) fresh i l)

  gone_edge : (i : ℕ) → i < n → GoneAt hull (left_to tri he hull (marks_to hull w n) (length he)) i → EdgeAt tri he hull i
  gone_edge i l q = (left i l (length he)).gone q

  edge_gone : (i : ℕ) → i < n → EdgeAt tri he hull i → GoneAt hull (left_to tri he hull (marks_to hull w n) (length he)) i
  edge_gone i l o = ⊎_elim (λ q. q) (λ q. absurd (((left i l (length he)).kept q).1 o)) (eq_or_ne _ EMPTY)

  -- half-edge e takes a mark off exactly where it is sound
  takes_border : n ≡ length hull → (e : ℕ) → start_of tri e < w → TakesAt tri he hull (left_to tri he hull (marks_to hull w n) e) e → BorderAt tri he hull e
  takes_border q e l t u =
      let a : ℕ = start_of tri e in
      let m : ℕ = get_or (left_to tri he hull (marks_to hull w n) e) a 0 in
      let k = t u in
      let some : m ≢ EMPTY = λ z. omega (arith, k.0) in
      let s = left_same tri he hull (marks_to hull w n) e a (rw (marks_length hull w n) l) some in
      let g = (marks_at hull w n a (omega arith) l).some (λ z. some (s ∙ z)) in
      let stands : get_or hull m 0 ≡ a = ap (λ j. get_or hull j 0) s ∙ g.1 in
      let kept = (left m (omega (arith, g.0)) e).kept (λ z. some (ap (λ j. get_or (left_to tri he hull (marks_to hull w n) e) j 0) (sym stands) ∙ z)) in
      ((m, k.0, sym stands, sym k.1), λ d h ud x y. kept.1 (d, h, ud, x ∙ sym stands, y ∙ sym k.1))

  border_takes : n ≡ length hull → (e : ℕ) → BorderAt tri he hull e → TakesAt tri he hull (left_to tri he hull (marks_to hull w n) e) e
  border_takes q e b u =
      let h = (b u).0 in
      let i : ℕ = h.0 in
      let g = left i (omega (arith, h.1)) e in
      ⊎_elim
      (λ z. let o = g.gone z in absurd ((b u).1 o.0 o.1 o.2 (o.3 ∙ sym h.2) (o.4 ∙ sym h.3)))
      (λ z.
      let v = ap (λ j. get_or (left_to tri he hull (marks_to hull w n) e) j 0) h.2 ∙ (g.kept z).0 in
      (omega (arith, h.1), ap (next_site hull) v ∙ sym h.3))
      (eq_or_ne (get_or (left_to tri he hull (marks_to hull w n) e) (get_or hull i 0) 0) EMPTY)

-- what rule 9 knows after its loops: n is the first place whose site is not fresh, r the first below n that kept its mark, e the first
-- unpaired half-edge that took no mark off
pub record Unmarked (tri he hull : List ℕ) (sites w n r e : ℕ) : Type 0 where
  pub fits : sites ≤ w
  pub small : length hull < EMPTY
  pub starts : (d : ℕ) → d < length he → start_of tri d < w
  pub fresh : First (FreshAt hull sites) (length hull) n
  pub kept : First (GoneAt hull (left_to tri he hull (marks_to hull w n) (length he))) n r
  pub stray : First (λ d. TakesAt tri he hull (left_to tri he hull (marks_to hull w n) d) d) (length he) e

module _ (tri he hull : List ℕ) (sites w n r e : ℕ) (u : Unmarked tri he hull sites w n r e) where
  places : First (PlaceAt tri he hull sites) (length hull) r
  places = record {
    within = omega (arith, u.fresh.within, u.kept.within);
    before = λ i l. (
      u.fresh.before i (omega (arith, u.kept.within)),
      gone_edge tri he hull sites w n u.fits u.small u.fresh.within
          u.fresh.before i (omega (arith, u.kept.within)) (u.kept.before i l),
    );
    at = λ l p.
        ⊎_elim
        (λ h. u.kept.at h (edge_gone tri he hull sites w n u.fits u.small u.fresh.within u.fresh.before r h p.1))
        (λ h. let q : r ≡ n = omega (arith, u.kept.within) in u.fresh.at (omega arith) (rw (← q) p.0))
        (lt_or_ge r n);
  }

  borders : length hull ≤ r → First (BorderAt tri he hull) (length he) e
  borders l =
      let q : n ≡ length hull = omega (arith, u.kept.within, u.fresh.within) in
      record {
        within = u.stray.within;
        before = λ d h. takes_border tri he hull sites w n u.fits u.small u.fresh.within u.fresh.before q d (u.starts d (omega (arith, u.stray.within))) (u.stray.before d h);
        at = λ h b. u.stray.at h (border_takes tri he hull sites w n u.fits u.small u.fresh.within u.fresh.before q e b);
      }

  pub answer_place : r < length hull → HullAnswer tri he hull sites (Err (HullPlace r))
  answer_place l = offends places l

  pub answer_edge : length hull ≤ r → e < length he → HullAnswer tri he hull sites (Err (HullEdge e))
  answer_edge l h = all_keep (first_all places l) (offends (borders l) h)

  pub answer_right : length hull ≤ r → length he ≤ e → HullAnswer tri he hull sites (Ok tt)
  answer_right l h = all_keep (first_all places l) (all_keep (first_all (borders l) h) nothing)
