-- `wkb::multipoint::entry` meets its contract: a coordinate, or +0.
use Rattle.wkb.specs.multipoint.laws.Fields.{entry_past, entry_there}
use borrow.Author.Rules.{rules}
use Rattle.wkb.proofs.multipoint.entry.Statement.{statement}
use Rattle.wkb.proofs.multipoint.entry.Tie as tie

returns : tie.Need-returns-then-k-count
returns c =
    let start = c in
    entry_past start.args.file.now start.args.count start.args.k start.requires.0 c.if-k-count.true

returns-2 : tie.Need-returns
returns-2 c =
    let start = c in
    entry_there start.args.file.now start.args.count start.args.k start.requires.0 c.if-k-count.false c.coordinate.ensures

pub entry_spec : {M : Type 1} → statement M
entry_spec = tie.close (tie.spec (λ c. search rules) returns (λ c κs. search rules) returns-2)
