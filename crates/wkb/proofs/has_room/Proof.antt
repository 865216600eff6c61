-- `wkb::has_room` meets its contract: nine bytes, or 29 and 16 for each entry.
use mathlib.Core.Path.{refl}
use native.Mathlib.Omega.{arith}
use Rattle.wkb.specs.laws.Room.{size_none, size_ring, sized_says}
use borrow.Author.Rules.{rules}
use Rattle.wkb.proofs.has_room.Statement.{statement}
use Rattle.wkb.proofs.has_room.Tie as tie

returns : tie.Need-returns-then-entries-lt3
returns c = sized_says _ c.args.room 9 _ (omega arith) (size_none _ c.if-entries-lt3.true) refl

returns-3 : tie.Need-returns
returns-3 c = sized_says _ c.args.room _ _ (omega arith) (size_ring _ c.if-entries-lt3.false) refl

pub has_room_spec : {M : Type 1} → statement M
has_room_spec =
    tie.close
    (tie.spec returns (λ c. search rules) (λ c. search rules) (λ c. search rules) returns-3)
