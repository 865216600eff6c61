-- `wkb::multipoint_writer::put_start` meets its contract: two numbers, one after the other.
use Rattle.octets.specs.laws.Wrote.{wrote_then}
use borrow.Author.Rules.{rules}
use Rattle.wkb.proofs.multipoint_writer.put_start.Statement.{statement}
use Rattle.wkb.proofs.multipoint_writer.put_start.Tie as tie

returns : tie.Need-returns
returns c =
    wrote_then c.put_le-number.ensures c.put_le.ensures

pub put_start_spec : {M : Type 1} → statement M
put_start_spec = tie.close (tie.spec (λ c κs. search rules) (λ c κs. search rules) (λ c. search rules) returns)
