-- `auditing::places::visit` meets its contract: s is looked up in its bucket, and inserted while it is of the block.
use native.Mathlib.Omega.{arith}
use Rattle.ring_area.specs.lowest.laws.Loops.{named_twice}
use Rattle.auditing.specs.places.laws.Inserting.{lookup_here, chained_here, chained_full}
use Rattle.auditing.specs.places.laws.Passing.{held_at, visited_yes, visited_no}
use borrow.Author.Rules.{rules}
use Rattle.auditing.proofs.places.visit.Statement.{statement}
use Rattle.auditing.proofs.places.visit.Tie as tie

abbrev Start : tie.After-bucket-m → tie.Start
Start c = c.before.before.before.before.before

point_at-requires : tie.Need-point_at-requires
point_at-requires c κs = named_twice _ _ c.requires.site

lookup-requires : tie.Need-lookup-requires
lookup-requires c κs =
    let at-bucket = c in
    held_at (Start at-bucket).requires at-bucket.point_at.ensures at-bucket.bucket-m.ensures

returns : tie.Need-returns-then-lookup
returns c = visited_yes c.lookup.ensures c.if-lookup.true

insert-requires : tie.Need-insert-requires
insert-requires c κs =
    let at-bucket = c in
    let h = held_at (Start at-bucket.before.before.before.before.before).requires at-bucket.point_at.ensures at-bucket.bucket-m.ensures in
    lookup_here h (omega (arith, c.if-k-lt-BLOCK.true))

returns-2 : tie.Need-returns-then-k-lt-BLOCK
returns-2 c =
    let at-insert = c in
    let room = at-insert in
    let at-bucket = room in
    let h = held_at (Start at-bucket.before.before.before.before.before.before.before.before.before.before).requires at-bucket.point_at.ensures at-bucket.bucket-m.ensures in
    visited_no room.lookup.ensures room.if-lookup.false (chained_here h (omega (arith, room.if-k-lt-BLOCK.true)) at-insert.insert.ensures)

returns-3 : tie.Need-returns-else-k-lt-BLOCK
returns-3 c = visited_no c.lookup.ensures c.if-lookup.false (chained_full (Start c.before.before.before).requires (omega (arith, c.if-k-lt-BLOCK.false)))

pub visit_spec : {M : Type 1} → statement M
visit_spec =
    tie.close
    (tie.spec point_at-requires (λ c κs. search rules) lookup-requires (λ c. search rules) (λ c. search rules) returns (λ c. search rules)
    insert-requires (λ c. search rules) (λ c. search rules) returns-2 (λ c. search rules) (λ c. search rules) returns-3)
