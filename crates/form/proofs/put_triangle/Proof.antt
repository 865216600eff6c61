-- `form::put_triangle` meets its contract: the body's first half goes to the triangles, its second to the half-edges.
use borrow.Author.Tests.{lt-ltb, le-ltb}
use mathlib.Core.Path.{refl}
use borrow.Author.Rules.{rules}
use Rattle.form.proofs.put_triangle.Statement.{statement}
use Rattle.form.proofs.put_triangle.Tie as tie

returns : tie.Need-returns-then-left-lt12
returns c = rw (lt-ltb _ _ c.if-left-lt12.true) (refl, c.put_link.ensures)

returns-2 : tie.Need-returns
returns-2 c = rw (le-ltb _ _ c.if-left-lt12.false) (c.put_link-2.ensures, refl)

pub put_triangle_spec : {M : Type 1} → statement M
put_triangle_spec =
    tie.close
    (tie.spec (λ c κs. search rules) (λ c. search rules) returns (λ c κs. search rules) (λ c. search rules) returns-2)
