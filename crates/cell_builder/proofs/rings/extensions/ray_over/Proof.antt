-- `cell_builder::rings::extensions::ray_over` meets its contract: the circumcenter and the edge's two sites are the definition's.
use Rattle.mesh.specs.laws.Next.{next_lt}
use borrow.Author.Rules.{rules}
use Rattle.cell_builder.proofs.rings.extensions.ray_over.Statement.{statement}
use Rattle.cell_builder.proofs.rings.extensions.ray_over.Tie as tie

abbrev Start : tie.After-wide → tie.Start
Start c = c.before.before.before.before.before.before

point_at-requires : tie.Need-point_at-requires
point_at-requires c κs = rw c.wide.ensures ((Start c).requires.0 _ (Start c).requires.2)

point_at-requires-2 : tie.Need-point_at-requires-2
point_at-requires-2 c κs =
    let at_start = Start c.before.before.before in
    rw (c.wide-2.ensures, c.end_site.ensures) (at_start.requires.0 _ (next_lt at_start.requires.1 at_start.requires.2))

returns : tie.Need-returns
returns c =
    let at-end-site = c in
    cc (
      c.outward.ensures,
      c.point_at-2.ensures,
      c.wide-2.ensures,
      at-end-site.end_site.ensures,
      at-end-site.point_at.ensures,
      at-end-site.wide.ensures,
      at-end-site.vertex.ensures,
    )

pub ray_over_spec : {M : Type 1} → statement M
ray_over_spec =
    tie.close
    (tie.spec (λ c κs. search rules) (λ c. search rules) (λ c. search rules) (λ c κs. search rules) point_at-requires
    (λ c κs. search rules) (λ c κs. search rules) point_at-requires-2 (λ c κs. search rules) returns)
