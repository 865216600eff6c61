-- Theorem: yes is answered exactly where all rules hold: turns, circles and the hull's short form among them; a hull place is named only where turns and
-- circles hold; and where no site is told as unused each is in use.
use Rattle.std.specs.Prelude.{◌≡◌, List, ℕ, ◌/◌, ◌<◌, length}
use Rattle.std.proofs.Common.{sym, ap, ◌∙◌, inl, inr, arith}
use Rattle.base.specs.common.Refusals.{Keep, Judged}
use Rattle.base.specs.common.laws.Refusals.{finds_one, finds_none, finds_keep}
use Rattle.base.specs.numbers.Numbers.{EMPTY}
use Rattle.mesh.specs.Mesh.{Used}
use Rattle.mesh.specs.Accepted.{Counted}
use Rattle.grid.specs.Plane.{WithinAt}
use Rattle.grid.specs.scan.Judged.{TurnAt, CircleAt}
use Rattle.grid.specs.check.Promise.{GridMesh, grid_sites}
use Rattle.grid.specs.border.ShortForm.{CornerAt, LoneAt}
use Rattle.grid.specs.nearest.Judged.{nearest_number, nearest_kind, nearest_place}
use Rattle.grid.specs.nearest.Promise.{nearest_rules, use_rules, NearestChecks}

-- what yes tells beside rules 7 to 10
pub record NearestHolds (m : GridMesh) : Type 0 where
  pub counts : Counted (length m.grid) (length m.triangles) (length m.halfedges) (length m.hull)
  pub within : (s : ℕ) → s < grid_sites m → WithinAt m.grid s
  pub turns : (t : ℕ) → t < length m.triangles / 3 → TurnAt m.grid m.triangles t
  pub circles : (e : ℕ) → e < length m.triangles → CircleAt m.grid m.triangles m.halfedges e
  pub corners : (i : ℕ) → i < length m.hull → CornerAt m.grid m.hull i
  pub lone : (i : ℕ) → i < length m.hull → LoneAt m.grid m.hull i

module _ (m : GridMesh) (old new : List ℕ) (r k p u : ℕ) (x : NearestChecks m old new r k p u) where
  -- yes: all rules hold
  pub yes_keeps : k ≡ 0 → Keep (nearest_rules m (length old))
  yes_keeps z = finds_keep (λ a. nearest_kind a ≡ 0) (
    λ _ h. omega arith,
    (
      λ _ h. omega arith,
      (
        λ _ h. omega arith,
        (
          λ _ h. omega arith,
          (
            λ _ h. omega arith,
            (
              λ _ h. omega arith,
              (
                λ _ h. omega arith,
                (λ _ h. omega arith, (λ _ h. omega arith, (λ _ h. omega arith, (λ _ h. omega arith, (λ _ h. omega arith, tt))))),
              ),
            ),
          ),
        ),
      ),
    ),
  )
      (sym x.kind_is ∙ z) x.found

  pub yes_holds : k ≡ 0 → NearestHolds m
  yes_holds z =
      let h = yes_keeps z in
      let judged = h.1.1.1.1.1.1.1.1 in
      record { counts = h.0; within = h.1.1.0; turns = judged.0; circles = judged.1.0; corners = judged.1.1.0; lone = judged.1.1.1.0 }

  -- and back
  pub holds_yes : Keep (nearest_rules m (length old)) → (r ≡ 0) × (k ≡ 0) × (p ≡ EMPTY)
  holds_yes h =
      let e = finds_one x.found (finds_none h) in
      (x.number ∙ ap nearest_number e, x.kind_is ∙ ap nearest_kind e, x.at_place ∙ ap nearest_place e)

  -- no site is told: each is in use
  pub all_used : r ≡ 0 → u ≡ EMPTY → (s : ℕ) → s < grid_sites m → grid_sites m < EMPTY → Used m.triangles s
  all_used z e s l few = go (x.lowest_unused z).judged
    where
      go : Judged (use_rules m) EMPTY u → Used m.triangles s
      go (inl y) = absurd (omega (arith, y.2, y.3, e))
      go (inr y) = y.0 s l
