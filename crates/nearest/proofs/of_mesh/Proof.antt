-- The whole numbers stand at the beginning of the array.
use Rattle.std.proofs.Common.{length, sym, ap, ◌∙◌, arith, rules}
use lib.ListN.{length-map}
use Rattle.nearest.specs.whole_sites.Whole.{whole_number}
use Rattle.nearest.proofs.of_mesh.Statement.{statement}
use Rattle.nearest.proofs.of_mesh.Tie as tie

abbrev Begin : tie.After-to_grid → tie.Start
Begin c = c.before.before.before.before.before.before

slice_aggregate-of_grid : tie.Need-slice_bounds-of_grid-end
slice_aggregate-of_grid c = let g = c in sym (ap length g.to_grid.ensures ∙ length-map (Begin g.before.before).args.sites.now whole_number)

of_grid-requires : tie.Need-of_grid-requires
of_grid-requires c κs = let g = c in omega (arith, ap length g.to_grid.ensures, length-map (Begin g.before.before).args.sites.now whole_number, (Begin g.before.before).requires)

returns : tie.Need-returns
returns c = rw c.to_grid.ensures at c.of_grid.ensures

pub of_mesh_spec : {M : Type 1} → statement M
of_mesh_spec = tie.close (tie.spec (λ c. search rules) (λ c κs. search rules) (λ c. search rules) slice_aggregate-of_grid of_grid-requires returns)
