-- `cell_builder::rings::extensions::hull_edge` meets its contract: each hull site has a place in the table.
use native.Mathlib.Omega.{arith}
use borrow.Author.Rules.{rules}
use Rattle.cell_builder.proofs.rings.extensions.hull_edge.Statement.{statement}
use Rattle.cell_builder.proofs.rings.extensions.hull_edge.Tie as tie

mul-wide-2 : tie.Need-offset_bounds-table-b
mul-wide-2 c = omega (arith, c.wide-b.ensures, c.requires.1 _ c.next_place.ensures.1)

shared_slice_read-wide-2 : tie.Need-bounds-table-b
shared_slice_read-wide-2 c = omega (arith, c.wide-b.ensures, c.requires.1 _ c.next_place.ensures.1)

returns : tie.Need-returns
returns c = cc (c.wide-b.ensures, c.next_place.ensures.0)

pub hull_edge_spec : {M : Type 1} → statement M
hull_edge_spec =
    tie.close
    (tie.spec (λ c κs. search rules) (λ c. search rules) (λ c. search rules) (λ c κs. search rules) mul-wide-2
    shared_slice_read-wide-2 (λ c κs. search rules) returns)
