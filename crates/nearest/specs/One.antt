-- Theorem: no two texts may be printed for one input.
use Rattle.std.specs.Prelude.{◌≡◌, ℕ, List, Ok}
use Rattle.std.proofs.Common.{sym, ap, ◌∙◌, subst, ⊎_elim}
use Rattle.base.specs.common.Refusals.{Finds}
use Rattle.base.specs.common.laws.Decide.{eq_or_ne, first_one}
use Rattle.base.specs.common.laws.Refusals.{finds_one}
use Rattle.plane.specs.declared.given.Given.{Given}
use Rattle.grid.specs.check.Promise.{GridMesh}
use Rattle.grid.specs.nearest.Judged.{nearest_number, nearest_kind, nearest_place}
use Rattle.grid.specs.nearest.Promise.{nearest_rules}
use Rattle.printing.specs.One.{of_form_one}
use Rattle.nearest.specs.line.NearestLine.{NearestLine, nearest_line}
use Rattle.nearest.specs.corners.Tried.{off_corner}
use Rattle.nearest.specs.Printed.{with_box, answer_line, NearestTold, grid_of, ToldOfMesh, NearestPrints}

told_one : (g : Given) (m : GridMesh) (a b : NearestLine) → NearestTold g m a → NearestTold g m b → a ≡ b
told_one g m a b x y =
    let s = subst (λ w. Finds (nearest_rules m w) (Ok tt) x.checks.answer) x.long x.checks.found in
    let t = subst (λ w. Finds (nearest_rules m w) (Ok tt) y.checks.answer) y.long y.checks.found in
    let e = finds_one s t in
    let n : x.number ≡ y.number = x.checks.number ∙ ap nearest_number e ∙ sym y.checks.number in
    let k : x.kind ≡ y.kind = x.checks.kind_is ∙ ap nearest_kind e ∙ sym y.checks.kind_is in
    let p : x.place ≡ y.place = x.checks.at_place ∙ ap nearest_place e ∙ sym y.checks.at_place in
    let u : x.unused ≡ y.unused =
    ⊎_elim
    (λ z. finds_one (x.checks.lowest_unused z) (y.checks.lowest_unused (sym n ∙ z)))
    (λ z. x.checks.none_told z ∙ sym (y.checks.none_told (λ h. z (n ∙ h))))
    (eq_or_ne x.number 0) in
    let b = first_one x.first y.first in
    x.line ∙ same n k p u b ∙ sym y.line
  where
    same : {n n' k k' p p' u u' b b' : ℕ} → n ≡ n' → k ≡ k' → p ≡ p' → u ≡ u' → b ≡ b'
        → answer_line (with_box g.sound n) k p u (off_corner g.bounds) b ≡ answer_line (with_box g.sound n') k' p' u' (off_corner g.bounds) b'
    same i j k l m = rw (i, j, k, l, m)

pub prints_one : {s a b : List ℕ} → NearestPrints s a → NearestPrints s b → a ≡ b
prints_one x y = x.shown ∙ ap nearest_line (of_form_one {Told = ToldOfMesh} (λ m g a b p q. told_one g (grid_of m) a b p q) x.true y.true) ∙ sym y.shown
