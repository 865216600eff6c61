-- `clipping::step::clip_step` meets its contract: by the two tests it takes the definition's case, with the crossings that were asked for.
use mathlib.Core.Path.{◌≡◌, sym, ◌∙◌}
use mathlib.Core.Bool.{true, true≢false}
use mathlib.Core.List.{[], ◌∷◌}
use native.Mathlib.Omega.{arith}
use Rattle.plane.specs.points.Flat.{points}
use Rattle.vertices.specs.laws.Points.{length_points}
use Rattle.definition.specs.Fault.{ok}
use Rattle.definition.specs.Cell.{entry, plain, clip_with}
use Rattle.definition.specs.Short.{change}
use Rattle.build_laws.specs.laws.SidedEdge.{ClipSided}
use Rattle.clipping.specs.laws.EdgeOutcome.{changes, leaves_none, grown_none}
use Rattle.clipping.specs.laws.EdgeCases.{step_stay, step_leave, step_enter, step_cross, asked_sided}
use borrow.Author.Rules.{rules}
use Rattle.clipping.proofs.step.clip_step.Statement.{statement}
use Rattle.clipping.proofs.step.clip_step.Tie as tie

-- the crossings are on the sides where not both ends are inside
sided :
    (s : tie.Start)
    → (s.args.tip.inside ≡ true → s.args.q_in ≡ true → ⊥)
    → ClipSided s.args.env.bounds s.args.env.centers s.args.env.site
    (clip_with s.args.env.centers (points s.args.tip.count s.args.vertices.now) s.args.c)
sided s n =
    let a = s.args in
    let t = a.tip in
    asked_sided a.env.bounds a.env.centers a.env.site t.vertex t.inside s.requires.1.1.0 a.q_in (points t.count a.vertices.now)
    t.cell.owners t.opened t.cell.last a.c s.requires.1.1.1 n s.requires.0.sides.box
    (omega (arith, s.requires.0.corners, length_points a.vertices.now 0 t.count))

returns : tie.Need-returns-then-q_in
returns c = λ q asked.
    (let at-then2 = c in
    let s = at-then2 in
    let a = s.args in
    let t = a.tip in
    let vs = points t.count a.vertices.now in
    rw (step_stay a.env.bounds a.env.centers a.env.site t.vertex t.inside q a.q_in vs t.cell.owners t.opened
    t.cell.last at-then2.if-tip.true at-then2.if-q_in.true)
    (changes a.env t.count _ _ (ok (change vs t.cell.owners (entry plain t.vertex ∷ []) t.opened [])) s.requires.0.fits
    (leaves_none s.requires.0.holds) (grown_none 2 t.count a.vertices.now) (c.stay.ensures vs)))

leave-requires : tie.Need-leave-requires
leave-requires c κs =
    let at-if2 = c in
    let s = at-if2 in
    (s.requires.0, sided s.before.before.before.before.before.before.before (λ x y. true≢false (sym y ∙ at-if2.if-q_in.false)))

returns-2 : tie.Need-returns-then-tip
returns-2 c = λ q asked.
    (let at-leave = c in
    let at-if2 = at-leave in
    let a = at-if2.args in
    let t = a.tip in
    let vs = points t.count a.vertices.now in
    rw (step_leave a.env.bounds a.env.centers a.env.site t.vertex t.inside q a.q_in vs t.cell.owners t.opened t.cell.last a.c asked
    at-if2.if-tip.true at-if2.if-q_in.false)
    at-leave.leave.ensures)

enter-requires : tie.Need-enter-requires
enter-requires c κs =
    let at-if3 = c in
    let at-else1 = at-if3 in
    let s = at-else1 in
    let stands = s.requires.1.0.0 in
    let o = s.requires.1.0.1 at-else1.if-tip.false at-if3.if-q_in-2.true in
    (s.requires.0, (sided s.before.before.before.before.before.before.before (λ x y. true≢false (sym x ∙ at-else1.if-tip.false)), (stands.low o, stands.ends o)))

returns-3 : tie.Need-returns-then-q_in-2
returns-3 c = λ q asked.
    (let at-enter = c in
    let at-if3 = at-enter in
    let a = at-if3.args in
    let t = a.tip in
    let vs = points t.count a.vertices.now in
    rw (step_enter a.env.bounds a.env.centers a.env.site t.vertex t.inside q a.q_in vs t.cell.owners t.opened t.cell.last a.c asked
    at-if3.if-tip.false at-if3.if-q_in-2.true)
    at-enter.enter.ensures)

cross-requires : tie.Need-cross-requires
cross-requires c κs =
    let at-else1 = c in
    let s = at-else1 in
    let stands = s.requires.1.0.0 in
    (s.requires.0, (sided s.before.before.before.before.before.before.before (λ x y. true≢false (sym x ∙ at-else1.if-tip.false)), (stands.low, stands.ends)))

returns-4 : tie.Need-returns
returns-4 c = λ q asked.
    (let at-cross = c in
    let at-if3 = at-cross in
    let a = at-if3.args in
    let t = a.tip in
    let vs = points t.count a.vertices.now in
    rw (step_cross a.env.bounds a.env.centers a.env.site t.vertex t.inside q a.q_in vs t.cell.owners t.opened t.cell.last a.c asked
    at-if3.if-tip.false at-if3.if-q_in-2.false)
    at-cross.cross.ensures)

pub clip_step_spec : {M : Type 1} → statement M
clip_step_spec =
    tie.close
    (tie.spec (λ c κs. search rules) (λ c. search rules) returns leave-requires (λ c. search rules)
    (λ c. search rules) returns-2 enter-requires (λ c. search rules) (λ c. search rules) returns-3
    cross-requires (λ c. search rules) (λ c. search rules) returns-4)
