-- Theorem: no two texts may be printed for one input.
use Rattle.std.specs.Prelude.{◌≡◌, List, ℕ, ◌+◌, Float, take, replicate}
use Rattle.std.proofs.Common.{sym, ◌∙◌, subst}
use Rattle.plane.specs.declared.given.Given.{Given}
use Rattle.mesh.specs.Accepted.{Mesh, site_count}
use Rattle.cutting_calls.specs.cut_admission.CutSlices.{CutSlices}
use Rattle.cutting_calls.specs.call.laws.Answer.{cut_one}
use Rattle.certifying.specs.call.One.{one_certify}
use Rattle.printing.specs.One.{of_form_one}
use Rattle.certify.specs.Rooms.{certify_work}
use Rattle.certify.specs.text.CertifyLine.{certify_text}
use Rattle.certify.specs.Printed.{PiecesTold, CertifyTold, CertifyPrints}

pieces_one : (g : Given) (cut : ℕ) (sites v : List Float) (off ix a b : List ℕ) → PiecesTold g cut sites v off ix a → PiecesTold g cut sites v off ix b → a ≡ b
pieces_one g cut sites v off ix a b x y =
    let q = one_certify g sites v off ix 32 (replicate certify_work 0) x.answer y.answer in
    x.line ∙ same q.0 q.1 q.2 q.3 q.4 ∙ sym y.line
  where
    same : {n n' k k' s s' e e' o o' : ℕ} → n ≡ n' → k ≡ k' → s ≡ s' → e ≡ e' → o ≡ o' → certify_text cut n k s e o ≡ certify_text cut n' k' s' e' o'
    same i j k l m = rw (i, j, k, l, m)

told_one : (m : Mesh) (g : Given) (a b : List ℕ) → CertifyTold m g a → CertifyTold m g b → a ≡ b
told_one m g a b x y =
    let q = cut_one x.cut y.cut in
    pieces_one g y.number m.sites _ _ _ a b (subst (At y.number) q.1 (subst (λ (n : ℕ). At n x.slices) q.0 x.told)) y.told
  where
    At : ℕ → CutSlices → Type 0
    At n z = PiecesTold g n m.sites z.vertices (take (site_count m.sites + 1) z.offsets) z.indexes a

pub prints_one : {s a b : List ℕ} → CertifyPrints s a → CertifyPrints s b → a ≡ b
prints_one = of_form_one {Told = CertifyTold} told_one
