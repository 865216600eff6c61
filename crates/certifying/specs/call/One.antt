-- Theorem: any two results that are allowed, number, kind, site, vertex, other and work, are equal.
use Rattle.std.specs.Prelude.{◌≡◌, List, ℕ, Float, length, replicate}
use Rattle.std.proofs.Common.{sym, ap, ◌∙◌}
use Rattle.base.specs.common.laws.Refusals.{finds_one}
use Rattle.base.specs.numbers.Numbers.{EMPTY}
use Rattle.plane.specs.declared.given.Given.{Given}
use Rattle.mesh_check.specs.whole.AtExit.{at_exit}
use Rattle.auditing.specs.Promise.{unless_refused}
use Rattle.certifying.specs.call.Verdict.{certify_on, certify_kind, certify_site, certify_vertex, certify_other}
use Rattle.certifying.specs.call.Promise.{CertifyAnswer}

pub one_certify : (g : Given) (sites v : List Float) (off ix : List ℕ) (bits : ℕ) (old : List ℕ) {w w' : List ℕ} {r r' k k' s s' e e' o o' : ℕ}
    → CertifyAnswer g sites v off ix bits old w r k s e o → CertifyAnswer g sites v off ix bits old w' r' k' s' e' o'
    → (r ≡ r') × (k ≡ k') × (s ≡ s') × (e ≡ e') × (o ≡ o') × (w ≡ w')
one_certify g sites v off ix bits old a b =
    let t = certify_on g.bounds bits sites v off ix in
    let n = finds_one a.number.found b.number.found in (
      n,
      a.kind_is ∙ ap (λ (x : ℕ). unless_refused x (certify_kind t)) n ∙ sym b.kind_is,
      a.site_is ∙ ap (λ (x : ℕ). unless_refused x (certify_site t)) n ∙ sym b.site_is,
      a.vertex_is ∙ ap (λ (x : ℕ). unless_refused x (certify_vertex t)) n ∙ sym b.vertex_is,
      a.other_is ∙ ap (λ (x : ℕ). unless_refused x (certify_other t)) n ∙ sym b.other_is,
      a.work_is ∙ ap (at_exit EMPTY (replicate (length old) EMPTY) old) n ∙ sym b.work_is,
    )
