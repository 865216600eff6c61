-- `plane::lines::levels`: the tests are the definition's, and so are the points that they choose.
use Rattle.plane.specs.lines.laws.Met.{levels_both, levels_each}
use Rattle.plane.proofs.lines.levels.Statement.{statement}
use Rattle.plane.proofs.lines.levels.Tie as tie

both : tie.Need-returns-then-h-i
both c = levels_both _ _ _ _ _ _ _ _ c.before.before.on_level-h.ensures c.before.on_level-i.ensures c.if-h-i.true

each : tie.Need-returns
each c =
    let d = c.before in
    let e = d.before.before.before.before in
    levels_each _ _ _ _ _ _ _ _ e.before.before.on_level-h.ensures e.before.on_level-i.ensures e.if-h-i.false d.before.before.before.choose.ensures
    d.before.before.choose-2.ensures d.before.choose-3.ensures d.choose-4.ensures c.one_each.ensures

pub levels_spec : {M : Type 1} → statement M
levels_spec = tie.close (tie.spec (λ c κs. tt) (λ c κs. tt) both (λ c κs. tt) (λ c κs. tt) (λ c κs. tt) (λ c κs. tt) (λ c κs. tt) each)
