-- `mend::writer::put_hull_site` meets its contract: the kind is one store, and the number comes after it.
use mathlib.Core.Path.{ap, ◌∙◌}
use mathlib.Core.List.{[], ◌∷◌}
use native.Mathlib.Omega.{arith}
use lib.ListN.{length-set}
use Rattle.octets.specs.Bytes.{le}
use Rattle.octets.specs.laws.Wrote.{wrote_one, wrote_then, wrote_as, fits_then}
use borrow.Author.Rules.{rules}
use Rattle.mend.proofs.writer.put_hull_site.Statement.{statement}
use Rattle.mend.proofs.writer.put_hull_site.Tie as tie

slice_write-out : tie.Need-bounds-out-at
slice_write-out c = omega (arith, c.requires)

put_le-requires : tie.Need-put_le-requires
put_le-requires c κs =
    let a = c.args in
    fits_then (4 ∷ []) (le 4 a.site) (wrote_one a.out.now a.at 4) c.requires

same_length : tie.Need-shape_of-out
same_length c = c.put_le.auto.out ∙ simp length-set

returns : tie.Need-returns
returns c =
    let at-put-le = c in
    let a = at-put-le.args in
    wrote_then (wrote_one a.out.now a.at 4) (wrote_as at-put-le.put_le.ensures (ap (le 4) at-put-le.from.ensures))

pub put_hull_site_spec : {M : Type 1} → statement M
put_hull_site_spec = tie.close (tie.spec slice_write-out (λ c. search rules) (λ c κs. search rules) put_le-requires same_length returns)
