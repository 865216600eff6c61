-- `cutting_writer::copied::stage_both`: each turn brings the two ends nearer, and where they meet what lies in the stage is a walk.
use Rattle.std.proofs.Common.{ℕ, ◌≡◌, ◌+◌, ◌-◌, ◌/◌, ◌∙◌, set, subst, arith, length-set}
use Rattle.cutting_writer.specs.copied.laws.Closing.{EndsNearing, nearing_start, nearing_step, met_round}
use Rattle.cutting_writer.proofs.copied.stage_both.Goals as goal

pub loop-i-init : goal.loop-i-init
loop-i-init c =
    let a = c.args in
    let laid = set a.stage.now 0 (a.t / 3) in
    let all : a.n ≡ a.n + 1 - 1 = omega arith in (
      subst (λ (j : ℕ). EndsNearing a.b a.halfedges.now a.centers.now a.t a.n a.first laid 1 a.t a.first j a.t a.first) all
          (nearing_start a.b a.halfedges.now a.centers.now a.t a.n a.first a.stage.now c.requires),
      length-set a.stage.now 0 (a.t / 3),
    )

pub loop-i-preserved : goal.loop-i-preserved
loop-i-preserved c =
    let a = c.args in
    let l = c.loop-i in
    let r = c.in-Some.r in
    let p = c.requires in
    let once = set l.stage l.i (r.e / 3) in
    let back : a.n + 1 - l.i - 1 ≡ a.n - l.i = omega arith in
    let next : a.n - l.i ≡ a.n + 1 - (l.i + 1) = omega arith in
    let near = nearing_step a.b a.halfedges.now a.centers.now a.t a.n a.first l.stage l.i l.e l.last (a.n + 1 - l.i) l.f l.next l.invariant.0 p.few
    (omega (arith, p.room, l.invariant.1)) (omega (arith, c.loop-i-test.true)) r.e r.last r.f r.next c.in-Some.ensures in (
      subst (λ (j : ℕ). EndsNearing a.b a.halfedges.now a.centers.now a.t a.n a.first (set once (a.n - l.i) (r.f / 3)) (l.i + 1) r.e r.last j r.f r.next) next
          (subst (λ (j : ℕ). EndsNearing a.b a.halfedges.now a.centers.now a.t a.n a.first (set once j (r.f / 3)) (l.i + 1) r.e r.last j r.f r.next) back near),
      length-set once (a.n - l.i) (r.f / 3) ∙ length-set l.stage l.i (r.e / 3) ∙ l.invariant.1,
    )

pub returns : goal.returns
returns c met =
    let a = c.args in
    let l = c.loop-i in
    let p = c.requires in
    let half = (a.n + 1) / 2 in
    let end : l.i ≡ half = omega (arith, c.loop-i-test.false, l.auto.i-end, p.many) in
    let near = subst (λ (i : ℕ). EndsNearing a.b a.halfedges.now a.centers.now a.t a.n a.first l.stage i l.e l.last (a.n + 1 - i) l.f l.next) end l.invariant.0 in
    met_round a.b a.halfedges.now a.centers.now a.t a.n a.first l.stage half l.e l.last (a.n + 1 - half) l.f l.next near p.few (omega (arith, p.room, l.invariant.1))
    (omega (arith, p.many)) p.many _ (c.meet.ensures met) p.steps.thirds
