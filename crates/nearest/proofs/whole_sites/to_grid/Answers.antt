-- Each turn writes one more whole number.
use Rattle.std.proofs.Common.{◌∙◌, arith, length-set, w32, rules}
use borrow.Author.Rules.{sfits_of}
use mir.ValLaws.{to_z-of_z}
use Rattle.nearest.specs.whole_sites.Whole.{wholes_of}
use Rattle.nearest.specs.whole_sites.laws.Filled.{whole_at, one_more, filled}
use Rattle.nearest.proofs.whole_sites.to_grid.Goals as goal

pub loop-i-init : goal.loop-i-init
loop-i-init c = (omega arith, search rules, λ k l. absurd (omega arith))

pub loop-i-preserved : goal.loop-i-preserved
loop-i-preserved c =
    let at-loop = c in
    let inv = at-loop.loop-i.invariant in
    let sites = at-loop.args.sites.now in
    let v = c.whole_of in (
      omega arith,
      simp length-set inv.1,
      one_more at-loop.loop-i.grid (wholes_of sites) at-loop.loop-i.i _ (omega (arith, inv.1, at-loop.requires))
          (to_z-of_z w32 v.result (sfits_of v.type_inv) ∙ v.ensures ∙ whole_at sites at-loop.loop-i.i (omega arith)) inv.2,
    )

pub returns : goal.returns
returns c =
    let inv = c.loop-i.invariant in
    let start = c in
    filled start.args.sites.now c.loop-i.grid (omega (arith, inv.1, start.requires)) (λ k l. inv.2 k (omega arith))
