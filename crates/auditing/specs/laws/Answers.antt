-- The answer from the verdict, and beside a refusal.
use Rattle.std.specs.Prelude.{◌≡◌, Bool, true, List, ◌≢◌, ℕ, ◌/◌, ◌^◌, Float, Result, Ok, Err}
use Rattle.std.proofs.Math.Path.{refl, sym, subst}
use Rattle.std.proofs.Common.{ap, ◌∙◌}
use borrow.Author.Tests.{ne_eqb}
use Rattle.base.specs.common.Binary64 as B
use Rattle.base.specs.declared.refusal.Refusal.{Refusal}
use Rattle.base.specs.refusal.Number.{number_of}
use Rattle.base.specs.refusal.laws.Number.{some_number}
use Rattle.plane.specs.boxes.Finite.{BoundedBox}
use Rattle.plane.specs.declared.boxes.BoundingBox.{BoundingBox}
use Rattle.plane.specs.given.Finite.{Fits}
use Rattle.plane.specs.declared.given.Given.{Given}
use Rattle.ring_area.specs.long.Amount.{amount}
use Rattle.ring_area.specs.limits.Long.{LongOf}
use Rattle.auditing.specs.limit.Limit.{box_twice}
use Rattle.auditing.specs.total.Total.{missing_of, total_whole}
use Rattle.auditing.specs.rules.Kept.{AuditKept, kept}
use Rattle.auditing.specs.rules.Rules.{AuditNumber}
use Rattle.auditing.specs.Verdict.{AuditVerdict, rings_stage, verdict_on, audit_kind, audit_site, audit_vertex, audit_other}
use Rattle.auditing.specs.Promise.{unless_refused, share_unless_refused, AuditAnswer}
use Rattle.auditing.specs.Steps.{AuditJudged, ToldOf}
use Rattle.auditing.specs.declared.AuditJudgement.{AuditJudgement}

-- the limit, with the tolerance as a length
pub limit_of : {l : List ℕ} (b : BoundingBox) (bits : ℕ) {w : ℕ} → w ≡ bits → LongOf l (box_twice b / 2 ^ w) → amount l ≡ box_twice b / 2 ^ bits
limit_of b bits e a = a.value ∙ ap (λ (k : ℕ). box_twice b / 2 ^ k) e

pub verdict_is : (b : BoundingBox) (sites v : List Float) (off ix starts others : List ℕ) (bits : ℕ) {whole : Bool} {t : AuditVerdict}
    → whole ≡ total_whole (box_twice b) bits b v off ix → t ≡ rings_stage (box_twice b) whole b bits sites starts others v off ix → t ≡ verdict_on b bits sites starts others v off ix
unfolding verdict_on
verdict_is b sites v off ix starts others bits w e = e ∙ ap (λ (x : Bool). rings_stage (box_twice b) x b bits sites starts others v off ix) w

-- what an admitted call has
module _ (g : Given) (sites v : List Float) (off ix starts others : List ℕ) (bits : ℕ) where
  pub admitted : {r : ℕ} → AuditNumber g.sound sites v off ix starts others bits r → r ≡ 0 → Fits g → BoundedBox 101 g.bounds × AuditKept true sites v off ix starts others bits
  admitted a z f =
      let k = kept a z in
      (f.bounded k.box, record { box = refl; fine = k.fine; rings = k.rings; pieces = k.pieces; held = k.held; many = k.many })

  -- the numbers of an answer
  pub audited : (a : Result AuditJudgement Refusal) {r kind site vertex other : ℕ} {missing : Float} → AuditJudged g sites v off ix starts others bits a
      → ToldOf a r kind site vertex other missing → AuditAnswer g sites v off ix starts others bits r kind site vertex other missing
  unfolding unless_refused share_unless_refused
  audited (Ok j) h t = record {
    number = rw t.number_is h.number;
    kind_is = rw t.number_is (t.kind_is ∙ ap audit_kind h.judged.0);
    site_is = rw t.number_is (t.site_is ∙ ap audit_site h.judged.0);
    vertex_is = rw t.number_is (t.vertex_is ∙ ap audit_vertex h.judged.0);
    other_is = rw t.number_is (t.other_is ∙ ap audit_other h.judged.0);
    missing_is = rw t.number_is (t.missing_is ∙ h.judged.1);
  }
  audited (Err e) h t =
      let n = ne_eqb (number_of e) 0 (some_number e) in
      record {
        number = rw t.number_is h.number;
        kind_is = rw (t.number_is, n) t.kind_is;
        site_is = rw (t.number_is, n) t.site_is;
        vertex_is = rw (t.number_is, n) t.vertex_is;
        other_is = rw (t.number_is, n) t.other_is;
        missing_is = rw (t.number_is, n) t.missing_is;
      }
