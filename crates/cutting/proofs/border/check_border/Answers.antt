-- `cutting::border::check_border`: each answer by the test that leads to it.
use Rattle.std.proofs.Common.{◌∙◌, sym, arith, length}
use Rattle.cutting.specs.border.laws.Counting.{turns_small, no_way, by_turns}
use Rattle.cutting.proofs.border.check_border.Goals as goal

pub returns-then-any_undirected : goal.returns-then-any_undirected
returns-then-any_undirected c =
    let a = c.args in no_way a.b a.sites.now a.triangles.now a.hull.now a.table.now a.centers.now (sym c.any_undirected.ensures ∙ c.if-any_undirected.true)

pub once-requires : goal.once-requires
once-requires c =
    let a = c.args in
    let s = turns_small a.b a.sites.now a.triangles.now a.hull.now a.table.now a.centers.now (length a.hull.now) in
    rw c.border_turns.ensures (omega (arith, s.1))

pub returns : goal.returns
returns c =
    let a = c.args in
    by_turns a.b a.sites.now a.triangles.now a.hull.now a.table.now a.centers.now (sym c.any_undirected.ensures ∙ c.if-any_undirected.false)
    c.border_turns.ensures c.once.ensures
