-- `cell_builder::turned::turns::due` meets its contract.
use mathlib.Core.Path.{◌≡◌, ap, ◌∙◌}
use native.Mathlib.Omega.{arith}
use lib.ListN.{get_or}
use borrow.Author.Rules.{rules}
use Rattle.mesh.specs.Mesh.{end_of}
use Rattle.cell_builder.specs.turned.laws.Due.{due_to_come, due_on_hull}
use Rattle.cell_builder.proofs.turned.turns.due.Statement.{statement}
use Rattle.cell_builder.proofs.turned.turns.due.Tie as tie

abbrev Entry : tie.After-end_site → tie.Start
Entry c = c.before.before.before.before

abbrev Site : tie.After-wide-t → tie.After-wide-site
Site c = c.before.before

-- what the table holds of the site where the half-edge ends
holds : (c : tie.After-wide-t) → let i = (Entry (Site c).before).args in c.wide-t.result ≡ get_or i.table.now (end_of i.triangles.now i.e) 0
holds c = let w = Site c in c.wide-t.ensures ∙ ap (λ k. get_or (Entry w.before).args.table.now k 0) (w.wide-site.ensures ∙ w.end_site.ensures)

returns : tie.Need-returns-then-e-t
returns c = let t = c in due_to_come _ _ _ _ _ (holds t.before) c.if-e-t.true

shared_slice_read-result : tie.Need-bounds-halfedges-t
shared_slice_read-result c = let t = c in omega (arith, holds t.before.before, (Entry (Site t.before.before).before).requires.2.1)

returns-2 : tie.Need-returns
returns-2 c = let t = c in due_on_hull _ _ _ _ _ (holds t.before.before) c.if-e-t.false

pub due_spec : {M : Type 1} → statement M
due_spec =
    tie.close
    (tie.spec (λ c κs. search rules) (λ c κs. search rules) (λ c. search rules) (λ c. search rules) (λ c κs. search rules) returns
    (λ c. search rules) shared_slice_read-result returns-2)
