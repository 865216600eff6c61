-- The two ends are the two cases of `naming`.
use borrow.Author.Tests.{eq-eqb, ne_eqb}
use borrow.Author.Rules.{rules}
use Rattle.flipping.specs.Flip.{naming}
use Rattle.flipping.proofs.stores.name_back.Statement.{statement}
use Rattle.flipping.proofs.stores.name_back.Tie as tie

returns : tie.Need-returns-then-p-eq-EMPTY
unfolding naming
returns c = simp (eq-eqb _ _ c.if-p-eq-EMPTY.true)

slice_write-halfedges : tie.Need-bounds-halfedges-wide
slice_write-halfedges c = rw c.wide.ensures (c.requires c.if-p-eq-EMPTY.false)

returns-2 : tie.Need-returns
unfolding naming
returns-2 c = simp (ne_eqb _ _ c.if-p-eq-EMPTY.false, c.wide.ensures)

pub name_back_spec : {M : Type 1} → statement M
name_back_spec =
    tie.close
    (tie.spec returns (λ c κs. search rules) (λ c. search rules) slice_write-halfedges (λ c. search rules) returns-2)
