-- `queries::bulk_ends::room` meets its contract: the work slice, then the output.
use Rattle.queries.specs.bulk_ends.laws.Answers.{no_table, last_test}
use Rattle.queries.proofs.bulk_ends.room.Statement.{statement}
use Rattle.queries.proofs.bulk_ends.room.Tie as tie

returns : tie.Need-returns-then-work-sites
returns c = no_table c.args.sites c.args.points c.args.work c.args.out c.if-work-sites.true

returns-2 : tie.Need-returns
returns-2 c = last_test c.args.sites c.args.points c.args.work c.args.out c.if-work-sites.false

pub room_spec : {M : Type 1} → statement M
room_spec = tie.close (tie.spec returns returns-2)
