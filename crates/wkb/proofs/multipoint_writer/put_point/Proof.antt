-- `wkb::multipoint_writer::put_point` meets its contract: the mark and the type, then x, then y.
use Rattle.octets.specs.laws.Wrote.{wrote_then}
use Rattle.wkb.specs.multipoint.MultiPoint.{file_point_bytes}
use borrow.Author.Rules.{rules}
use Rattle.wkb.proofs.multipoint_writer.put_point.Statement.{statement}
use Rattle.wkb.proofs.multipoint_writer.put_point.Tie as tie

returns : tie.Need-returns
unfolding file_point_bytes
returns c =
    let at-put-le = c in
    wrote_then at-put-le.put_start-first.ensures (wrote_then at-put-le.put_le-second.ensures c.put_le.ensures)

pub put_point_spec : {M : Type 1} → statement M
put_point_spec =
    tie.close (tie.spec (λ c κs. search rules) (λ c κs. search rules) (λ c κs. search rules) (λ c. search rules) returns)
