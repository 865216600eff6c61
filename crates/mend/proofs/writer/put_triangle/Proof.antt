-- `mend::writer::put_triangle` meets its contract: the kind is one store, and the sites and the pairs come after it.
use mathlib.Core.Path.{◌∙◌}
use mathlib.Core.List.{[], ◌∷◌}
use native.Mathlib.Omega.{arith}
use lib.ListN.{length-set}
use Rattle.octets.specs.laws.Wrote.{wrote_one, wrote_then, fits_left, fits_then}
use Rattle.mend.specs.writer.Written.{links}
use borrow.Author.Rules.{rules}
use Rattle.mend.proofs.writer.put_triangle.Statement.{statement}
use Rattle.mend.proofs.writer.put_triangle.Tie as tie

slice_write-out : tie.Need-bounds-out-at
slice_write-out c = omega (arith, c.requires)

put_links-requires : tie.Need-put_links-end-requires
put_links-requires c κs =
    let start = c in
    let a = start.args in
    fits_then (3 ∷ []) (links a.sites.now) (wrote_one a.out.now a.at 3)
    (fits_left a.out.now a.at (3 ∷ links a.sites.now) (links a.pairs.now) start.requires)

put_links-requires-2 : tie.Need-put_links-requires
put_links-requires-2 c κs =
    let at-put = c in
    let start = at-put in
    let a = start.args in
    fits_then (3 ∷ links a.sites.now) (links a.pairs.now) (wrote_then (wrote_one a.out.now a.at 3) at-put.put_links-end.ensures) start.requires

same_length : tie.Need-shape_of-out
same_length c = c.put_links.auto.out ∙ c.put_links-end.auto.out ∙ simp length-set

returns : tie.Need-returns
returns c =
    let at-put = c in
    let a = at-put.args in
    wrote_then (wrote_then (wrote_one a.out.now a.at 3) at-put.put_links-end.ensures) c.put_links.ensures

pub put_triangle_spec : {M : Type 1} → statement M
put_triangle_spec = tie.close (tie.spec slice_write-out (λ c. search rules) put_links-requires put_links-requires-2 same_length returns)
