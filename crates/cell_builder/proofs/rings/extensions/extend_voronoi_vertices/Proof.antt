-- `cell_builder::rings::extensions::extend_voronoi_vertices` meets its contract: the root of what fits is the one that computes.
use mathlib.Core.Path.{ap, ◌∙◌}
use lib.Ieee.{Float, binary64}
use lib.Ieee.Fits.{add-fits}
use Rattle.root.specs.SqrtIsRoot.{root_is_sqrt}
use Rattle.cell_builder.specs.rings.Extensions.{far_along}
use borrow.Author.Rules.{rules}
use Rattle.cell_builder.proofs.rings.extensions.extend_voronoi_vertices.Statement.{statement}
use Rattle.cell_builder.proofs.rings.extensions.extend_voronoi_vertices.Tie as tie

returns : tie.Need-returns
returns c =
    let rays = c.args in
    let lengths = c.roots-lengths.ensures in (
      c.far_along.ensures ∙ ap (λ (l : Float). far_along rays.r l) (root_is_sqrt _ _ (add-fits binary64 _ _) lengths.0),
      c.far_along-2.ensures ∙ ap (λ (l : Float). far_along rays.s l) (root_is_sqrt _ _ (add-fits binary64 _ _) lengths.1),
    )

pub extend_voronoi_vertices_spec : {M : Type 1} → statement M
extend_voronoi_vertices_spec = tie.close (tie.spec (λ c κs. search rules) (λ c κs. search rules) (λ c κs. search rules) returns)
