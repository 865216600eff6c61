-- `cutting_writer::site::turn_from`: both cases of `turn_of`.
use Rattle.mesh.specs.Mesh.{turn_of}
use borrow.Author.Rules.{rules}
use borrow.Author.Tests.{eq-eqb, ne_eqb}
use mathlib.Core.Path.{◌∙◌, sym}
use Rattle.cutting_writer.proofs.site.turn_from.Statement.{statement}
use Rattle.cutting_writer.proofs.site.turn_from.Tie as tie

returns : tie.Need-returns-then-a-t
unfolding turn_of
returns c = let e = rw (c.next_halfedge.ensures, c.wide.ensures) at c.entry_at-a.ensures in rw (eq-eqb _ _ (sym e ∙ c.if-a-t.true))

returns-2 : tie.Need-returns
unfolding turn_of
returns-2 c = let e = rw (c.next_halfedge.ensures, c.wide.ensures) at c.entry_at-a.ensures in rw (ne_eqb _ _ (λ q. c.if-a-t.false (e ∙ q))) e

pub turn_from_spec : {M : Type 1} → statement M
turn_from_spec =
    tie.close
    (tie.spec (λ c κs. search rules) (λ c κs. search rules) (λ c κs. search rules) returns returns-2)
