-- Theorem: a call has one outcome: any two that its promise allows are equal.
use Rattle.std.specs.Prelude.{◌≡◌, List, ℕ}
use Rattle.std.proofs.Common.{sym, ◌∙◌}
use Rattle.base.specs.common.laws.Refusals.{finds_one}
use Rattle.mesh.specs.Accepted.{Mesh}
use Rattle.mending.specs.slices.Lent.{Lent, lent}
use Rattle.mending.specs.Mending.{MendOutcome, Mends}

same_lent : (a b : Lent) → a.work ≡ b.work → a.pairs ≡ b.pairs → a.mended ≡ b.mended → a.changes ≡ b.changes → a ≡ b
same_lent a b q₁ q₂ q₃ q₄ =
    let e : lent a.work a.pairs a.mended a.changes ≡ lent b.work b.pairs b.mended b.changes = rw (q₁, q₂, q₃, q₄) in
    e

module _ (tri he hull : List ℕ) (n : ℕ) (old new new' : Lent) (r k p q k' p' q' : ℕ) where
  outcome_one : MendOutcome tri he hull n old new r k p q → MendOutcome tri he hull n old new' r k' p' q' → (new ≡ new') × (k ≡ k') × (p ≡ p') × (q ≡ q')
  outcome_one a b = (
    same_lent new new' (a.work ∙ sym b.work) (a.pairs ∙ sym b.pairs) (a.mended ∙ sym b.mended) (a.changes ∙ sym b.changes),
    a.hull_length ∙ sym b.hull_length,
    a.pair_changes_lem ∙ sym b.pair_changes_lem,
    a.hull_changes_lem ∙ sym b.hull_changes_lem,
  )

pub mends_one : (m : Mesh) (old new new' : Lent) (r k p q r' k' p' q' : ℕ) → Mends m old new r k p q
    → Mends m old new' r' k' p' q' → (r ≡ r') × (new ≡ new') × (k ≡ k') × (p ≡ p') × (q ≡ q')
mends_one m old new new' r k p q r' k' p' q' a b =
    let e : r' ≡ r = finds_one b.number a.number in
    let o = outcome_one m.triangles m.halfedges m.hull _ old new new' r k p q k' p' q' a.outcome (rw e at b.outcome) in
    (sym e, o.0, o.1, o.2, o.3)
