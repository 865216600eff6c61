-- Theorem: any two results that are allowed, number, kind, site, vertex, other and missing share, are equal.
use Rattle.std.specs.Prelude.{◌≡◌, List, ℕ, Float}
use Rattle.std.proofs.Common.{sym, ap, ◌∙◌}
use Rattle.base.specs.common.laws.Refusals.{finds_one}
use Rattle.plane.specs.declared.given.Given.{Given}
use Rattle.auditing.specs.total.Total.{missing_of}
use Rattle.auditing.specs.Verdict.{verdict_on, audit_kind, audit_site, audit_vertex, audit_other}
use Rattle.auditing.specs.Promise.{unless_refused, share_unless_refused, AuditAnswer}

pub one_audit : (g : Given) (sites v : List Float) (off ix starts others : List ℕ) (bits : ℕ) {r r' k k' s s' e e' o o' : ℕ} {m m' : Float}
    → AuditAnswer g sites v off ix starts others bits r k s e o m → AuditAnswer g sites v off ix starts others bits r' k' s' e' o' m'
    → (r ≡ r') × (k ≡ k') × (s ≡ s') × (e ≡ e') × (o ≡ o') × (m ≡ m')
one_audit g sites v off ix starts others bits a b =
    let t = verdict_on g.bounds bits sites starts others v off ix in
    let n = finds_one a.number.found b.number.found in (
      n,
      a.kind_is ∙ ap (λ (x : ℕ). unless_refused x (audit_kind t)) n ∙ sym b.kind_is,
      a.site_is ∙ ap (λ (x : ℕ). unless_refused x (audit_site t)) n ∙ sym b.site_is,
      a.vertex_is ∙ ap (λ (x : ℕ). unless_refused x (audit_vertex t)) n ∙ sym b.vertex_is,
      a.other_is ∙ ap (λ (x : ℕ). unless_refused x (audit_other t)) n ∙ sym b.other_is,
      a.missing_is ∙ ap (λ (x : ℕ). share_unless_refused x (missing_of g.bounds v off ix)) n ∙ sym b.missing_is,
    )
