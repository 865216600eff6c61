-- Theorem: a flip has one outcome: any two that its promise allows are equal.
use Rattle.std.specs.Prelude.{◌≡◌, List, ℕ}
use Rattle.std.proofs.Common.{sym, ◌∙◌}
use Rattle.base.specs.common.laws.Refusals.{finds_one}
use Rattle.flipping.specs.call.Flips.{FlipLists, flip_lists, Flips}

same_lists : (a b : FlipLists) → a.triangles ≡ b.triangles → a.halfedges ≡ b.halfedges → a.table ≡ b.table → a.work ≡ b.work → a ≡ b
same_lists a b q₁ q₂ q₃ q₄ =
    let e : flip_lists a.triangles a.halfedges a.table a.work ≡ flip_lists b.triangles b.halfedges b.table b.work = rw (q₁, q₂, q₃, q₄) in
    e

pub flips_one : (sites : ℕ) (hull : List ℕ) (a : ℕ) (old new new' : FlipLists) (r r' : ℕ) → Flips sites hull a old new r
    → Flips sites hull a old new' r' → (r ≡ r') × (new ≡ new')
flips_one sites hull a old new new' r r' x y =
    let e : r' ≡ r = finds_one y.number x.number in
    let z : Flips sites hull a old new' r = rw e at y in (
      sym e,
      same_lists new new' (x.triangles ∙ sym z.triangles) (x.halfedges ∙ sym z.halfedges) (x.table ∙ sym z.table) (x.work ∙ sym z.work),
    )
