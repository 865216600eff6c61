-- `cutting_writer::site::on_hull`: the pair is past the half-edges.
use borrow.Author.Rules.{rules}
use lib.Dec.{leb}
use lib.ListN.{length}
use mathlib.Core.Path.{◌∙◌, ap}
use Rattle.cutting_writer.proofs.site.on_hull.Statement.{statement}
use Rattle.cutting_writer.proofs.site.on_hull.Tie as tie

returns : tie.Need-returns
returns c = ap (leb (length c.args.halfedges.now)) (c.wide.ensures ∙ c.entry_at.ensures)

pub on_hull_spec : {M : Type 1} → statement M
on_hull_spec =
    tie.close
    (tie.spec (λ c κs. search rules) (λ c κs. search rules) returns)
