-- What a state that comes to a form's end has been given: from any place between two records, records in their order and the end.
use Rattle.std.specs.Prelude.{◌≡◌, Bool, true, false, ℕ, zero, suc, ◌+◌, ◌≤◌, ◌<◌, length}
use Rattle.std.proofs.Math.Path.{refl, sym, ap}
use Rattle.std.proofs.Common.{◌∙◌, subst, ⊎_elim, arith}
use mathlib.Core.List.{List, [], ◌∷◌, ◌++◌}
use Rattle.octets.specs.Bytes.{Bytes, each, All}
use Rattle.form.specs.Limits.{most_sites, most_triangles, most_hull}
use Rattle.form.specs.Form.{Site, Triangle, SiteFits, TriangleFits, HullFits, site_bytes, triangle_bytes, hull_bytes}
use Rattle.form.specs.step.Reader.{size_of, opens, follows, broken, number_for, refused, begun, outside, step, steps, Reading, reading}
use Rattle.form.specs.step.laws.Steps.{RecordKind, site, triangle, hull, end, follows_cases, step_outside, number_broken}
use Rattle.form.specs.laws.Run.{AtRecord, Ran, Goes, ready_up, takes_reader, site_run, triangle_run, hull_run}
use Rattle.form.specs.laws.Cut.{Ended, CutOff, steps_append, steps_broken, true_false, partway, body_there, cut_site, cut_triangle, cut_hull}
use Rattle.form.specs.declared.step.Reader.{Reader}

pub record FewRecords (r : Reader) : Type 0 where
  pub sites : r.sites ≤ most_sites
  pub triangles : r.triangles ≤ most_triangles
  pub hull : r.hull ≤ most_hull

pub record Tail (r : Reader) (t : List ℕ) : Type 0 where
  pub sites : List Site
  pub triangles : List Triangle
  pub hull : List ℕ
  pub site_fits : All SiteFits sites
  pub triangle_fits : All TriangleFits triangles
  pub hull_fits : All HullFits hull
  pub bytes : t ≡ each site_bytes sites ++ each triangle_bytes triangles ++ each hull_bytes hull ++ 5 ∷ []
  pub no_sites : 2 < r.stage → sites ≡ []
  pub no_triangles : 3 < r.stage → triangles ≡ []
  pub few_sites : r.sites + length sites ≤ most_sites
  pub few_triangles : r.triangles + length triangles ≤ most_triangles
  pub few_hull : r.hull + length hull ≤ most_hull

few_on : {r n : Reader} {k a b c : ℕ} → Ran r n k a b c → r.sites + a ≤ most_sites → r.triangles + b ≤ most_triangles → r.hull + c ≤ most_hull → FewRecords n
few_on v l m o = record { sites = omega (arith, v.sites); triangles = omega (arith, v.triangles); hull = omega (arith, v.hull) }

-- ---- a record, and what follows it

-- the state after a record's bytes
module _ {r : Reader} {k a b c : ℕ} (s : List ℕ) (g : Goes r k a b c [] [] [] [] [] [] [] [] [] [] s) where
  goes_to : steps r s ≡ g.to
  goes_to = sym (takes_reader s (reading r [] [] [] [] [])) ∙ ap (λ (d : Reading). d.reader) g.lists

  then_on : (t : List ℕ) → Ended (steps r (s ++ t)) → Ended (steps g.to t)
  then_on t e = subst Ended (steps_append s t r ∙ ap (λ (n : Reader). steps n t) goes_to) e

module _ (r : Reader) (k : ℕ) (q : AtRecord r 4) (f : follows r k ≡ true) where
  begins : (t : List ℕ) → steps r (k ∷ t) ≡ steps (begun r k) t
  unfolding steps outside
  begins t = ap (λ (n : Reader). steps n t) (step_outside r k q.unbroken q.left ∙ rw f)

  stage_of : (s : List ℕ) → length s ≤ (begun r k).left → (steps r (k ∷ s)).stage ≡ (begun r k).stage
  unfolding begun
  stage_of s h = ap (λ (n : Reader). n.stage) (begins s) ∙ (partway s (begun r k) refl h).stage

-- the same of the fewer bytes that are left
abbrev Below : ℕ → Type 0
Below n = (r : Reader) (t : List ℕ) → length t ≤ n → Bytes t → AtRecord r 4 → FewRecords r → Ended (steps r t) → Tail r t

module _ (r : Reader) (t : List ℕ) (w : FewRecords r) where
  site_before : (x : CutOff site_bytes SiteFits 2 t) (n : Reader) → Ran r n 2 1 0 0 → r.stage ≤ 2 → Tail n x.rest → Tail r (2 ∷ t)
  site_before x n v o u =
      record {
        sites = x.value ∷ u.sites;
        triangles = u.triangles;
        hull = u.hull;
        site_fits = (x.fits, u.site_fits);
        triangle_fits = u.triangle_fits;
        hull_fits = u.hull_fits;
        bytes = x.joined ∙ ap (λ (z : List ℕ). site_bytes x.value ++ z) u.bytes;
        no_sites = λ p. absurd (omega arith);
        no_triangles = λ p. absurd (omega arith);
        few_sites = omega (arith, v.sites, u.few_sites);
        few_triangles = omega (arith, v.triangles, u.few_triangles);
        few_hull = omega (arith, v.hull, u.few_hull);
      }

  triangle_before : (x : CutOff triangle_bytes TriangleFits 3 t) (n : Reader) → Ran r n 3 0 1 0 → n.stage ≡ 3 → r.stage ≤ 3 → Tail n x.rest → Tail r (3 ∷ t)
  triangle_before x n v i o u =
      let none : u.sites ≡ [] = u.no_sites (omega arith) in
      record {
        sites = [];
        triangles = x.value ∷ u.triangles;
        hull = u.hull;
        site_fits = tt;
        triangle_fits = (x.fits, u.triangle_fits);
        hull_fits = u.hull_fits;
        bytes =
            x.joined
            ∙ ap (λ (z : List ℕ). triangle_bytes x.value ++ z)
            (u.bytes ∙ ap (λ (z : List Site). each site_bytes z ++ each triangle_bytes u.triangles ++ each hull_bytes u.hull ++ 5 ∷ []) none);
        no_sites = λ p. refl;
        no_triangles = λ p. absurd (omega arith);
        few_sites = omega (arith, w.sites);
        few_triangles = omega (arith, v.triangles, u.few_triangles);
        few_hull = omega (arith, v.hull, u.few_hull);
      }

  hull_before : (x : CutOff hull_bytes HullFits 4 t) (n : Reader) → Ran r n 4 0 0 1 → n.stage ≡ 4 → Tail n x.rest → Tail r (4 ∷ t)
  hull_before x n v i u =
      let none : u.sites ≡ [] = u.no_sites (omega arith) in
      let none' : u.triangles ≡ [] = u.no_triangles (omega arith) in
      record {
        sites = [];
        triangles = [];
        hull = x.value ∷ u.hull;
        site_fits = tt;
        triangle_fits = tt;
        hull_fits = (x.fits, u.hull_fits);
        bytes =
            x.joined
            ∙ ap (λ (z : List ℕ). hull_bytes x.value ++ z)
            (u.bytes
            ∙ ap (λ (z : List Site). each site_bytes z ++ each triangle_bytes u.triangles ++ each hull_bytes u.hull ++ 5 ∷ []) none
            ∙ ap (λ (z : List Triangle). each triangle_bytes z ++ each hull_bytes u.hull ++ 5 ∷ []) none');
        no_sites = λ p. refl;
        no_triangles = λ p. refl;
        few_sites = omega (arith, w.sites);
        few_triangles = omega (arith, w.triangles);
        few_hull = omega (arith, v.hull, u.few_hull);
      }

module _ (n : ℕ) (below : Below n) (r : Reader) (t : List ℕ) (l : length t ≤ n) (h : Bytes t) (q : AtRecord r 4) (w : FewRecords r) where
  whole_body : (k : ℕ) → follows r k ≡ true → ((begun r k).stage ≡ 5 → ⊥) → Ended (steps r (k ∷ t)) → (begun r k).left ≤ length t
  unfolding begun
  whole_body k f d e = body_there t (begun r k) refl d (subst Ended (begins r k q f t) e)

  site_tail : follows r 2 ≡ true → r.stage ≤ 2 → r.sites < most_sites → Ended (steps r (2 ∷ t)) → Tail r (2 ∷ t)
  unfolding begun opens size_of
  site_tail f o m e = go (cut_site t h (whole_body 2 f (λ z. omega arith) e))
    where
      go : CutOff site_bytes SiteFits 2 t → Tail r (2 ∷ t)
      go x =
          let g = site_run r [] [] [] [] [] x.value x.fits (record { unbroken = q.unbroken; left = q.left; low = q.low; high = o; word = q.word }) m in
          site_before r t w x g.to g.ran o
          (below g.to x.rest (omega (arith, x.shorter)) x.bytes (ready_up 4 (omega arith) g.ran.ready)
          (few_on g.ran (omega arith) (omega (arith, w.triangles)) (omega (arith, w.hull)))
          (then_on (site_bytes x.value) g x.rest (subst (λ (z : List ℕ). Ended (steps r z)) x.joined e)))

  triangle_tail : follows r 3 ≡ true → r.stage ≤ 3 → r.triangles < most_triangles → Ended (steps r (3 ∷ t)) → Tail r (3 ∷ t)
  unfolding begun opens size_of
  triangle_tail f o m e = go (cut_triangle t h (whole_body 3 f (λ z. omega arith) e))
    where
      go : CutOff triangle_bytes TriangleFits 3 t → Tail r (3 ∷ t)
      go x =
          let g = triangle_run r [] [] [] [] [] x.value x.fits (record { unbroken = q.unbroken; left = q.left; low = q.low; high = o; word = q.word }) m in
          let i : g.to.stage ≡ 3 = sym (ap (λ (y : Reader). y.stage) (goes_to (triangle_bytes x.value) g)) ∙ stage_of r 3 q f _ (omega arith) in
          triangle_before r t w x g.to g.ran i o
          (below g.to x.rest (omega (arith, x.shorter)) x.bytes (ready_up 4 (omega arith) g.ran.ready)
          (few_on g.ran (omega (arith, w.sites)) (omega arith) (omega (arith, w.hull)))
          (then_on (triangle_bytes x.value) g x.rest (subst (λ (z : List ℕ). Ended (steps r z)) x.joined e)))

  hull_tail : follows r 4 ≡ true → r.hull < most_hull → Ended (steps r (4 ∷ t)) → Tail r (4 ∷ t)
  unfolding begun opens size_of
  hull_tail f m e = go (cut_hull t h (whole_body 4 f (λ z. omega arith) e))
    where
      go : CutOff hull_bytes HullFits 4 t → Tail r (4 ∷ t)
      go x =
          let g = hull_run r [] [] [] [] [] x.value x.fits q m in
          let i : g.to.stage ≡ 4 = sym (ap (λ (y : Reader). y.stage) (goes_to (hull_bytes x.value) g)) ∙ stage_of r 4 q f _ (omega arith) in
          hull_before r t w x g.to g.ran i
          (below g.to x.rest (omega (arith, x.shorter)) x.bytes g.ran.ready
          (few_on g.ran (omega (arith, w.sites)) (omega (arith, w.triangles)) (omega arith))
          (then_on (hull_bytes x.value) g x.rest (subst (λ (z : List ℕ). Ended (steps r z)) x.joined e)))

-- ---- the end

no_kind : (r : Reader) (k : ℕ) → RecordKind r k → r.stage ≡ 5 → r.stage ≤ k → ⊥
no_kind r k (site p) e h = omega arith
no_kind r k (triangle p) e h = omega arith
no_kind r k (hull p) e h = omega arith
no_kind r k (end p) e h = omega arith

-- nothing follows it
pub after_end : (r : Reader) (b : ℕ) → r.stage ≡ 5 → follows r b ≡ false
after_end r b e = go (follows r b) refl
  where
    go : (t : Bool) → follows r b ≡ t → t ≡ false
    go false f = refl
    go true f = absurd (⊎_elim (λ v. omega (arith, v.0)) (λ v. no_kind r b v.2 e v.1) (follows_cases r b f))

pub refused_ends : (r : Reader) (b : ℕ) (t : List ℕ) → Ended (steps (refused r (number_for r b)) t) → ⊥
refused_ends r b t e = true_false (sym (ap broken (steps_broken t (refused r (number_for r b)) (number_broken r b)) ∙ number_broken r b) ∙ e.unbroken)

end_tail : (r : Reader) (t : List ℕ) → AtRecord r 4 → FewRecords r → follows r 5 ≡ true → Ended (steps r (5 ∷ t)) → Tail r (5 ∷ t)
unfolding steps begun opens size_of outside
end_tail r [] q w f e =
    record {
      sites = [];
      triangles = [];
      hull = [];
      site_fits = tt;
      triangle_fits = tt;
      hull_fits = tt;
      bytes = refl;
      no_sites = λ p. refl;
      no_triangles = λ p. refl;
      few_sites = omega (arith, w.sites);
      few_triangles = omega (arith, w.triangles);
      few_hull = omega (arith, w.hull);
    }
end_tail r (c ∷ t) q w f e =
    let e' : Ended (steps (begun r 5) (c ∷ t)) = subst Ended (begins r 5 q f (c ∷ t)) e in
    let i : step (begun r 5) c ≡ refused (begun r 5) (number_for (begun r 5) c) = step_outside (begun r 5) c refl refl ∙ rw (after_end (begun r 5) c refl) in
    absurd (refused_ends (begun r 5) c t (subst (λ (n : Reader). Ended (steps n t)) i e'))

by_kind :
    (n : ℕ) → Below n → (r : Reader) (t : List ℕ) → length t ≤ n → Bytes t → AtRecord r 4 → FewRecords r
    → (k : ℕ) → RecordKind r k → r.stage ≤ k → follows r k ≡ true → Ended (steps r (k ∷ t)) → Tail r (k ∷ t)
by_kind n below r t l h q w k (site p) o f e = site_tail n below r t l h q w f o p e
by_kind n below r t l h q w k (triangle p) o f e = triangle_tail n below r t l h q w f o p e
by_kind n below r t l h q w k (hull p) o f e = hull_tail n below r t l h q w f p e
by_kind n below r t l h q w k (end p) o f e = end_tail r t q w f e

one_more : (n : ℕ) → Below n → (r : Reader) (b : ℕ) (t : List ℕ) → length t ≤ n → Bytes t → AtRecord r 4 → FewRecords r → Ended (steps r (b ∷ t)) → Tail r (b ∷ t)
unfolding steps outside
one_more n below r b t l h q w e = go (follows r b) refl
  where
    go : (u : Bool) → follows r b ≡ u → Tail r (b ∷ t)
    go true f = ⊎_elim (λ v. absurd (omega (arith, v.0, q.low))) (λ v. by_kind n below r t l h q w b v.2 v.1 f e) (follows_cases r b f)
    go false f =
        let i : step r b ≡ refused r (number_for r b) = step_outside r b q.unbroken q.left ∙ rw f in
        absurd (refused_ends r b t (subst (λ (m : Reader). Ended (steps m t)) i e))

pub tail : (n : ℕ) → Below n
unfolding steps
tail zero r [] l h q w e = absurd (omega (arith, q.high, e.stage))
tail zero r (b ∷ t) l h q w e = absurd (omega arith)
tail (suc n) r [] l h q w e = absurd (omega (arith, q.high, e.stage))
tail (suc n) r (b ∷ t) l h q w e = one_more n (tail n) r b t (omega arith) h.1 q w e
