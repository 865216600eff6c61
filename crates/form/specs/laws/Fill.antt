-- What one byte leaves in the lent lists, by the state it comes to.
use Rattle.std.specs.Prelude.{◌≡◌, true, false, List, ℕ, ◌+◌, ◌-◌, ◌*◌, ◌<◌, eqb, ltb, Float}
use Rattle.std.proofs.Math.Path.{sym, ap}
use Rattle.std.proofs.Common.{◌∙◌}
use borrow.Author.Tests.{ne_eqb}
use Rattle.base.specs.common.Pick.{pick}
use Rattle.form.specs.step.Register.{shift}
use Rattle.form.specs.step.Reader.{broken, inside, outside, within, put_float, put_link, bounds_by, sites_by, triangles_by, halfedges_by, hull_by, Reading, reading, filled_by, take}
use Rattle.form.specs.step.laws.Steps.{step_broken, step_outside, step_inside, within_is, within_broken, within_outside}
use Rattle.form.specs.declared.step.Reader.{Reader}

module _ (r : Reader) (b : ℕ) (bs ss : List Float) (ts es hs : List ℕ) where
  module _ (e : broken r ≡ false) (p : 0 < r.left) where
    at_stage : (k n : ℕ) → r.stage ≡ k → within r n ≡ eqb k n
    at_stage k n s = within_is r n e p ∙ ap (λ m. eqb m n) s

    pub fill_box : r.stage ≡ 1 → reading r (put_float bs 3 (r.left - 1) (shift r.word b)) ss ts es hs ≡ filled_by r b bs ss ts es hs
    unfolding bounds_by sites_by triangles_by halfedges_by hull_by
    fill_box s = rw (at_stage 1 1 s, at_stage 1 2 s, at_stage 1 3 s, at_stage 1 4 s)

    pub fill_site : r.stage ≡ 2 → reading r bs (put_float ss (2 * r.sites + 1) (r.left - 1) (shift r.word b)) ts es hs ≡ filled_by r b bs ss ts es hs
    unfolding bounds_by sites_by triangles_by halfedges_by hull_by
    fill_site s = rw (at_stage 2 1 s, at_stage 2 2 s, at_stage 2 3 s, at_stage 2 4 s)

    pub fill_triangle :
        r.stage ≡ 3
        → reading r bs ss
        (pick (ltb (r.left - 1) 12) (λ _. ts) (λ _. put_link ts (3 * r.triangles + 2) (r.left - 1 - 12) (shift r.word b)))
        (pick (ltb (r.left - 1) 12) (λ _. put_link es (3 * r.triangles + 2) (r.left - 1) (shift r.word b)) (λ _. es))
        hs
        ≡ filled_by r b bs ss ts es hs
    unfolding bounds_by sites_by triangles_by halfedges_by hull_by
    fill_triangle s = rw (at_stage 3 1 s, at_stage 3 2 s, at_stage 3 3 s, at_stage 3 4 s)

    pub fill_hull : r.stage ≡ 4 → reading r bs ss ts es (put_link hs r.hull (r.left - 1) (shift r.word b)) ≡ filled_by r b bs ss ts es hs
    unfolding bounds_by sites_by triangles_by halfedges_by hull_by
    fill_hull s = rw (at_stage 4 1 s, at_stage 4 2 s, at_stage 4 3 s, at_stage 4 4 s)

    pub fill_none : (r.stage ≡ 1 → ⊥) → (r.stage ≡ 2 → ⊥) → (r.stage ≡ 3 → ⊥) → (r.stage ≡ 4 → ⊥) → reading r bs ss ts es hs ≡ filled_by r b bs ss ts es hs
    unfolding bounds_by sites_by triangles_by halfedges_by hull_by
    fill_none n₁ n₂ n₃ n₄ =
        rw
        (within_is r 1 e p, ne_eqb r.stage 1 n₁, within_is r 2 e p, ne_eqb r.stage 2 n₂, within_is r 3 e p, ne_eqb r.stage 3 n₃, within_is r 4 e p, ne_eqb r.stage 4 n₄)

  pub take_broken : broken r ≡ true → reading r bs ss ts es hs ≡ take (reading r bs ss ts es hs) b
  unfolding take bounds_by sites_by triangles_by halfedges_by hull_by
  take_broken e =
      rw (step_broken r b e, within_broken r 1 e, within_broken r 2 e, within_broken r 3 e, within_broken r 4 e)

  pub take_outside : broken r ≡ false → r.left ≡ 0 → reading (outside r b) bs ss ts es hs ≡ take (reading r bs ss ts es hs) b
  unfolding take bounds_by sites_by triangles_by halfedges_by hull_by
  take_outside e z =
      rw (step_outside r b e z, within_outside r 1 e z, within_outside r 2 e z, within_outside r 3 e z, within_outside r 4 e z)

  pub take_inside :
      (n : Reader) (bs' ss' : List Float) (ts' es' hs' : List ℕ)
      → broken r ≡ false
      → 0 < r.left
      → n ≡ inside r b
      → reading r bs' ss' ts' es' hs' ≡ filled_by r b bs ss ts es hs
      → reading n bs' ss' ts' es' hs' ≡ take (reading r bs ss ts es hs) b
  unfolding take
  take_inside n bs' ss' ts' es' hs' e p i f =
      ap (λ (d : Reading). reading n d.bounds d.sites d.triangles d.halfedges d.hull) f
      ∙ ap (λ m. reading m (bounds_by r b bs) (sites_by r b ss) (triangles_by r b ts) (halfedges_by r b es) (hull_by r b hs)) (i ∙ sym (step_inside r b e p))
