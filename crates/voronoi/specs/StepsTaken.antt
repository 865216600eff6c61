-- Theorem: of every build that answers 0, the vertices that were added and the three counts of points taken again are together as many as the step that adds a point was taken:
-- once for each hull place, and once for each point where an edge of a ring that was clipped meets the border. That number is counted along the definition, without
-- its list of steps and without the counts: Points of crate build_laws; the law below it: StepTheorem there.
use Rattle.std.specs.Prelude.{◌≡◌, refl, List, [], ◌∷◌, ◌++◌, ℕ, ◌+◌, ◌-◌, ◌/◌, length, get_or}
use Rattle.std.proofs.Common.{sym, subst, arith}
use Rattle.plane.specs.given.Finite.{Fits}
use Rattle.plane.specs.declared.given.Given.{Given}
use Rattle.mesh.specs.Accepted.{Mesh}
use Rattle.definition.specs.Cell.{extension, firstCrossing, secondCrossing}
use Rattle.definition.specs.Build.{Extensions}
use Rattle.definition.specs.Reused.{reused_of}
use Rattle.definition.specs.laws.Gives.{gives_ok}
use Rattle.build_laws.specs.Points.{all_points}
use Rattle.build_laws.specs.StepTheorem.{build_taken, taken}
use Rattle.build_laws.specs.Tries.{AllExtended}
use Rattle.build_laws.specs.LateRefusals.{build_late}
use Rattle.build_laws.specs.laws.CellCount.{CellsTallied, tallied, four_owners}
use Rattle.admission.specs.Slices.{Slices}
use Rattle.arguments.specs.asking.laws.Asks.{box_answers}
use Rattle.building.specs.answers.Success.{zero_succeeds}
use Rattle.building.specs.answers.laws.Left.{left_counts}
use Rattle.voronoi.specs.Builds.{Build}

-- the number of vertices, and the points taken again as extensions, as first and as second crossings
abbrev pub CountsAt : ℕ → ℕ → ℕ → ℕ → List ℕ → Type 0
CountsAt v a b c l = (get_or l 0 0 ≡ v) × (get_or l 6 0 ≡ a) × (get_or l 7 0 ≡ b) × (get_or l 8 0 ≡ c)

counts_at : (v lost a b c : ℕ) (os tail : List ℕ) → length os ≡ 4 → CountsAt v a b c ((v ∷ os ++ lost ∷ a ∷ b ∷ c ∷ []) ++ tail)
counts_at v lost a b c [] tail h = absurd (omega arith)
counts_at v lost a b c (o ∷ []) tail h = absurd (omega arith)
counts_at v lost a b c (o ∷ p ∷ []) tail h = absurd (omega arith)
counts_at v lost a b c (o ∷ p ∷ q ∷ []) tail h = absurd (omega arith)
counts_at v lost a b c (o ∷ p ∷ q ∷ r ∷ []) tail h = (refl, refl, refl, refl)
counts_at v lost a b c (o ∷ p ∷ q ∷ r ∷ s ∷ os) tail h = absurd (omega arith)

pub steps_taken : (m : Mesh) (g : Given) → Fits g → {old new : Slices} → Build m g old new 0 → (x : Extensions) × AllExtended m g.bounds x
    × ((get_or new.counts 0 0 - length m.triangles / 3 - 4) + get_or new.counts 6 0 + get_or new.counts 7 0 + get_or new.counts 8 0 ≡ length m.hull + all_points m g.bounds x)
steps_taken m g fits {old} {new} a =
    let s = zero_succeeds (box_answers g.sound) (build_late m g.bounds) a refl in
    let mesh = s.admission.accepted in
    let b = s.outcome.value in
    let is = s.outcome.is in
    let four = four_owners m g.bounds (gives_ok (CellsTallied m g.bounds) (tallied m g.bounds) is) in
    let w = build_taken mesh is in
    let again = CountsAt (length b.verts) (reused_of extension b.steps) (reused_of firstCrossing b.steps) (reused_of secondCrossing b.steps) in
    let c = subst again (sym (left_counts a b is)) (counts_at (length b.verts) b.lost _ _ _ b.owners _ four) in
    (w.0, w.1, omega (arith, c.0, c.1, c.2, c.3, w.2, taken mesh (fits.bounded s.admission.fit.0) is))
