-- The walk has n entries at least, or one less if t is paired.
use Rattle.std.proofs.Common.{◌≡◌, ◌∙◌, ◌+◌, ◌-◌, arith}
use Rattle.mesh.specs.laws.WalkSteps.{counting_start, counting_step}
use Rattle.mesh_check.specs.degrees.Packed.{spare}
use Rattle.mesh_check.specs.degrees.laws.Packing.{spare_one, counting_first, counting_there, counted_on}
use Rattle.mesh_check.proofs.degrees.reaches.Goals as goal
use Rattle.mesh_check.proofs.degrees.reaches.Goals.{then-halfedges-e-2+else-d-lt2+else-halfedges-e-3, else-halfedges-e-2}

pub returns-then-d-lt2 : goal.returns-then-d-lt2
returns-then-d-lt2 c =
    let w = c.wide-e in
    let he = c.args.halfedges.now in
    λ _. omega (arith, counted_on he c.args.t w.result 0 (rw w.ensures (counting_start he c.args.t)) (omega arith) (omega arith))

pub loop-n-init : goal.loop-n-init
loop-n-init c =
    let w = c.wide-e in
    let he = c.args.halfedges.now in
    elim c.if-halfedges-e-2.branch [
      | then-halfedges-e-2+else-d-lt2+else-halfedges-e-3 a ↦ (
        omega (arith, c.requires),
        omega (arith, a.if-halfedges-e-3.false, a.e-is),
        counting_first he c.args.t w.result _ w.ensures (omega arith) a.if-halfedges-e-2.true (a.e-is ∙ a.wide-e-then-halfedges-e-2.ensures ∙ a.turn.ensures),
      )
      | else-halfedges-e-2 a ↦ (
        omega (arith, c.requires),
        omega (arith, a.e-is),
        counting_there he c.args.t w.result _ w.ensures a.if-halfedges-e-2.false a.e-is,
      )
    ]

pub loop-n-preserved : goal.loop-n-preserved
loop-n-preserved c =
    let l = c.loop-n in
    let x = spare c.args.halfedges.now c.args.t in
    let k = spare_one c.args.halfedges.now c.args.t in
    let q : l._n + 1 - 1 - x ≡ l._n - 1 - x + 1 = omega arith in
    (omega arith, omega arith, rw q (counting_step _ _ _ _ _ l.invariant.2 (omega arith) l.invariant.1 (c.wide-e-in-loop-n.ensures ∙ c.turn-in-loop-n.ensures)))

pub returns : goal.returns
returns c =
    let l = c.loop-n in
    let k = spare_one c.args.halfedges.now c.args.t in
    λ _. omega (arith, counted_on _ _ _ _ l.invariant.2 (omega arith) l.invariant.1)
