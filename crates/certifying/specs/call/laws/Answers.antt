-- The answer from the verdict, and beside a refusal.
use Rattle.std.specs.Prelude.{◌≡◌, refl, List, ◌≢◌, ℕ, ◌≤◌, ◌<◌, Float, Ok, Err, length, replicate}
use Rattle.std.proofs.Math.Path.{sym, subst}
use Rattle.std.proofs.Common.{ap, ◌∙◌}
use borrow.Author.Tests.{ne_eqb, lt-ltb, le-ltb}
use Rattle.base.specs.numbers.Numbers.{EMPTY, refused_triangle}
use Rattle.base.specs.declared.refusal.Refusal.{Refusal}
use Rattle.base.specs.refusal.Number.{number_of}
use Rattle.base.specs.refusal.laws.Number.{some_number}
use Rattle.plane.specs.given.Finite.{Fits}
use Rattle.plane.specs.declared.given.Given.{Given}
use Rattle.mesh_check.specs.whole.AtExit.{at_exit}
use Rattle.auditing.specs.Promise.{unless_refused}
use Rattle.certifying.specs.rules.Kept.{admitted}
use Rattle.certifying.specs.rules.Rules.{CertifyNumber}
use Rattle.certifying.specs.call.Promise.{CertifyAnswer}
use Rattle.certifying.specs.call.Steps.{JudgeSafe, VerdictTold, CertifyJudged, RefusedAnswer}
use Rattle.certifying.specs.call.Verdict.{CertifyVerdict, certify_kind, certify_site, certify_vertex, certify_other}

-- beside a refusal the work is cleared, or not
module _ (n : ℕ) (old : List ℕ) {r : ℕ} (e : r ≡ n) where
  pub refused_cleared : {new : List ℕ} → refused_triangle ≤ r → new ≡ replicate (length old) EMPTY → RefusedAnswer n old new r EMPTY EMPTY EMPTY EMPTY
  refused_cleared h w = record { number = e; none = (refl, refl, refl, refl); work = rw (le-ltb n refused_triangle (subst (λ (k : ℕ). refused_triangle ≤ k) e h)) w }

  pub refused_kept : r < refused_triangle → RefusedAnswer n old old r EMPTY EMPTY EMPTY EMPTY
  refused_kept h = record { number = e; none = (refl, refl, refl, refl); work = rw (lt-ltb n refused_triangle (subst (λ (k : ℕ). k < refused_triangle) e h)) refl }

module _ (g : Given) (sites v : List Float) (off ix : List ℕ) (bits : ℕ) (old : List ℕ) where
  pub judge_safe : {n : ℕ} → CertifyNumber g.sound sites v off ix bits (length old) n → n ≡ 0 → Fits g → JudgeSafe g.bounds bits sites v off ix old
  judge_safe a z f = let k = admitted a z in record { box = f.bounded k.box; fine = k.fine; room = k.room; near = k.near }

  -- the numbers of a verdict, with the work cleared
  pub told_certify : (t : CertifyVerdict) {mid new : List ℕ} {r kind site vertex other : ℕ} → CertifyJudged g sites v off ix bits old mid (Ok t) → new ≡ replicate (length mid) EMPTY
      → VerdictTold t r kind site vertex other → CertifyAnswer g sites v off ix bits old new r kind site vertex other
  unfolding unless_refused at_exit
  told_certify t j w k = record {
    number = subst (CertifyNumber g.sound sites v off ix bits (length old)) (sym k.none) j.number;
    kind_is = rw k.none (k.kind_is ∙ ap certify_kind j.judged.0);
    site_is = rw k.none (k.site_is ∙ ap certify_site j.judged.0);
    vertex_is = rw k.none (k.vertex_is ∙ ap certify_vertex j.judged.0);
    other_is = rw k.none (k.other_is ∙ ap certify_other j.judged.0);
    work_is = rw k.none (w ∙ ap (λ (n : ℕ). replicate n EMPTY) j.judged.1);
  }

  pub refused_certify : {n : ℕ} → CertifyNumber g.sound sites v off ix bits (length old) n → n ≢ 0 → {new : List ℕ} {r kind site vertex other : ℕ}
      → RefusedAnswer n old new r kind site vertex other → CertifyAnswer g sites v off ix bits old new r kind site vertex other
  unfolding unless_refused at_exit
  refused_certify {n} a z t =
      let e = ne_eqb n 0 z in
      record {
        number = rw t.number a;
        kind_is = rw (t.number, e) t.none.0;
        site_is = rw (t.number, e) t.none.1;
        vertex_is = rw (t.number, e) t.none.2;
        other_is = rw (t.number, e) t.none.3;
        work_is = rw (t.number, e) t.work;
      }

  -- the same of what was judged
  pub refused_judged : (e : Refusal) {mid new : List ℕ} {r kind site vertex other : ℕ} → CertifyJudged g sites v off ix bits old mid (Err e)
      → RefusedAnswer (number_of e) mid new r kind site vertex other → CertifyAnswer g sites v off ix bits old new r kind site vertex other
  refused_judged e j k = refused_certify j.number (some_number e) (rw (← j.kept) k)
