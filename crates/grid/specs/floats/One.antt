-- Theorem: a call has one outcome: any two that its promise allows are equal.
use Rattle.std.specs.Prelude.{◌≡◌, List, ℕ, eqb, Float, ℤ, length}
use Rattle.std.proofs.Common.{sym, ap, ◌∙◌}
use Rattle.base.specs.common.Pick.{pick}
use Rattle.base.specs.common.laws.Refusals.{finds_one}
use Rattle.grid.specs.floats.Sites.{sites_made, GridSites}

pub grid_sites_one : (grid : List ℤ) (old new new' : List Float) (r r' : ℕ) → GridSites grid old new r → GridSites grid old new' r' → (r ≡ r') × (new ≡ new')
grid_sites_one grid old new new' r r' a b =
    let e = finds_one a.number b.number in
    (e, a.sites ∙ ap (λ k. pick (eqb k 0) (λ _. sites_made grid (length old)) (λ _. old)) e ∙ sym b.sites)
