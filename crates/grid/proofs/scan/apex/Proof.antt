-- Two steps round the triangle.
use borrow.Author.Rules.{rules}
use Rattle.mesh.specs.laws.Next.{next_lt}
use Rattle.grid.proofs.scan.apex.Statement.{statement}
use Rattle.grid.proofs.scan.apex.Tie as tie

end_site-requires : tie.Need-end_site-requires
end_site-requires c κs =
    let start = c in
    (start.requires.0, rw c.next_halfedge.ensures (next_lt start.requires.0 start.requires.1))

returns : tie.Need-returns
returns c = rw (c.end_site.ensures, c.next_halfedge.ensures)

pub apex_spec : {M : Type 1} → statement M
apex_spec = tie.close (tie.spec (λ c κs. search rules) end_site-requires returns)
