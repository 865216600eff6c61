-- `cutting::border::turned_at`: the half-edge that arrives and the one after it.
use Rattle.cutting.specs.border.laws.Counting.{turned_at_lem}
use Rattle.cutting.proofs.border.turned_at.Statement.{statement}
use Rattle.cutting.proofs.border.turned_at.Tie as tie

turned-requires : tie.Need-turned-requires
turned-requires c κs = let w = c in w.requires

returns : tie.Need-returns
returns c =
    let h = c in
    let e = h in
    let w = e in
    let a = w.args in
    turned_at_lem a.b a.sites.now a.triangles.now a.hull.now a.table.now a.centers.now a.t a.i
    w.arrives-o.ensures w.wide.ensures e.entry_at.ensures e.wide-2.ensures e.entry_at-next.ensures h.hull_end.ensures
    c.hull_end-2.ensures c.turned.ensures

pub turned_at_spec : {M : Type 1} → statement M
turned_at_spec = tie.close (tie.spec (λ c κs. tt) (λ c κs. tt) (λ c κs. tt) (λ c κs. tt) (λ c κs. tt) (λ c κs. tt) (λ c κs. tt) turned-requires returns)
