-- `wkb::put_cell` meets its contract: there are no patterns after the floats.
use lib.ListN.{length}
use Rattle.wkb.specs.laws.Answer.{no_bits_named, no_bits_wrote}
use borrow.Author.Rules.{rules}
use Rattle.wkb.proofs.put_cell.Statement.{statement}
use Rattle.wkb.proofs.put_cell.Tie as tie

abbrev Start : tie.After-none-1 → tie.Start
Start c = c.before.before.before.before.before

put_polygon-requires : tie.Need-put_polygon-requires
put_polygon-requires c κs =
    (no_bits_named (length (Start c).args.vertices.now) (Start c).requires.0, (Start c).requires.1)

returns : tie.Need-returns
returns c =
    no_bits_wrote _ (Start c.before.before.before).args.entries.now c.put_polygon.ensures

pub put_cell_spec : {M : Type 1} → statement M
put_cell_spec =
    tie.close
    (tie.spec (λ c. search rules) (λ c. search rules) put_polygon-requires (λ c. search rules) returns)
