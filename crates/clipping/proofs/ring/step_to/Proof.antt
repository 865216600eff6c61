-- `clipping::ring::step_to` meets its contract: the case that the two tests choose, with a refusal's place or the walk's next state.
use native.Mathlib.Omega.{arith}
use mathlib.Core.Path.{refl}
use Rattle.plane.specs.points.Flat.{points}
use Rattle.definition.specs.Cell.{clip_step}
use Rattle.clipping.specs.laws.EdgeCases.{step_refused, step_done, changes_low, changes_out, clip_out, changes_ends, changes_shut}
use Rattle.vertices.specs.laws.Points.{length_points}
use Rattle.build_laws.specs.laws.SidedEdge.{step_ends, step_shuts}
use borrow.Author.Rules.{rules}
use Rattle.clipping.proofs.ring.step_to.Statement.{statement}
use Rattle.clipping.proofs.ring.step_to.Tie as tie

clip_step-requires : tie.Need-clip_step-d-requires
clip_step-requires c κs =
    let s = c in
    (s.requires.0, (s.requires.1.0, (s.args.q, s.requires.1.1.2)))

returns : tie.Need-returns-then-d-ne0
returns c =
    let at-clip-step = c in
    let s = at-clip-step in
    let a = s.args in (
      step_refused a.env a.tip a.q _ a.vertices.now a.indexes.now _ _ _ s.requires.1.1.1 (at-clip-step.clip_step-d.ensures a.q s.requires.1.1.2) c.if-d-ne0.true _ refl,
      λ e. absurd (c.if-d-ne0.true e),
    )

returns-2 : tie.Need-returns
returns-2 c =
    let at-else1 = c in
    let at-clip-step = at-else1 in
    let s = at-clip-step in
    let a = s.args in
    let t = a.tip in
    let stood = s.requires.1.0.0 in
    let g = at-clip-step.clip_step-d in
    let changed = g.ensures a.q s.requires.1.1.2 in
    let l = changes_low a.env t.count t.cell a.vertices.now a.indexes.now g.result _ _
    (clip_step a.env.bounds a.env.centers a.env.site t.vertex t.inside a.q a.q_in
    (points t.count a.vertices.now) t.cell.owners t.opened t.cell.last)
    changed at-else1.if-d-ne0.false in (
      step_done a.env a.tip a.q _ a.vertices.now a.indexes.now _ _ _ s.requires.1.1.1 changed at-else1.if-d-ne0.false,
      λ e. (
        record {
          vertex = omega (arith, s.requires.1.1.0, l.0);
          shut = λ i. changes_shut a.env t.count t.cell a.vertices.now a.indexes.now g.result _ _
              (clip_step a.env.bounds a.env.centers a.env.site t.vertex t.inside a.q a.q_in
              (points t.count a.vertices.now) t.cell.owners t.opened t.cell.last)
              (step_shuts a.env.bounds a.env.centers a.env.site t.vertex t.inside a.q a.q_in
              (points t.count a.vertices.now) t.cell.owners t.opened t.cell.last i stood.shut)
              changed at-else1.if-d-ne0.false;
          low = l.1;
          ends = changes_ends a.env t.count t.cell a.vertices.now a.indexes.now g.result _ _
              (clip_step a.env.bounds a.env.centers a.env.site t.vertex t.inside a.q a.q_in
              (points t.count a.vertices.now) t.cell.owners t.opened t.cell.last)
              (step_ends a.env.bounds a.env.centers a.env.site (points t.count a.vertices.now)
              (omega (arith, s.requires.0.corners, length_points a.vertices.now 0 t.count))
              s.requires.0.sides t.cell.owners t.cell.last t.vertex t.inside a.q a.q_in t.opened stood.ends stood.shut)
              changed at-else1.if-d-ne0.false;
        },
        λ i o. changes_out a.env t.count t.cell a.vertices.now a.indexes.now g.result _ _ t.inside t.opened
            (clip_step a.env.bounds a.env.centers a.env.site t.vertex t.inside a.q a.q_in
            (points t.count a.vertices.now) t.cell.owners t.opened t.cell.last)
            (clip_out a.env.bounds a.env.centers a.env.site (points t.count a.vertices.now) t.cell.owners t.opened
            t.cell.last t.vertex t.inside a.q a.q_in i)
            changed at-else1.if-d-ne0.false o,
      ),
    )

pub step_to_spec : {M : Type 1} → statement M
step_to_spec =
    tie.close
    (tie.spec clip_step-requires (λ c. search rules) (λ c. search rules) returns
    (λ c. search rules) (λ c. search rules) returns-2)
