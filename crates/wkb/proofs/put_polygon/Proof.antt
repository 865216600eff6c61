-- `wkb::put_polygon` meets its contract: no ring, or one.
use mathlib.Core.Path.{sym}
use mathlib.Core.List.{◌++◌}
use Prim.Native.Nat.{◌≤◌}
use native.Mathlib.Omega.{arith}
use lib.ListN.{length}
use Rattle.octets.specs.laws.Wrote.{wrote_then, wrote_as, wrote_length}
use Rattle.wkb.specs.Polygon.{patterns}
use Rattle.wkb.specs.laws.Room.{size_none, size_ring, length_head, image_none, image_ring}
use borrow.Author.Rules.{rules}
use Rattle.wkb.proofs.put_polygon.Statement.{statement}
use Rattle.wkb.proofs.put_polygon.Tie as tie

put_head-requires : tie.Need-put_head-requires
put_head-requires c κs =
    let start = c in
    omega (arith, start.requires.1.long, size_none (length start.args.entries.now) (omega (arith, c.if-entries-lt3.true)))

returns : tie.Need-returns-then-entries-lt3
returns c =
    let at-if1 = c in
    let a = at-if1.args in
    wrote_as c.put_head.ensures (sym (image_none (patterns a.floats.now ++ a.bits.now) a.entries.now (omega (arith, at-if1.if-entries-lt3.true))))

put_head-requires-2 : tie.Need-put_head-ring-requires
put_head-requires-2 c κs =
    let start = c in
    omega (arith, start.requires.1.long, size_ring (length start.args.entries.now) (omega (arith, c.if-entries-lt3.false)))

put_ring-requires : tie.Need-put_ring-requires
put_ring-requires c κs =
    let at-put-head2 = c in
    let start = at-put-head2 in
    let list = start.args.entries.now in
    let three : 3 ≤ length list = omega (arith, at-put-head2.if-entries-lt3.false) in
    let head = at-put-head2.put_head-ring.ensures in (
      start.requires.0,
      three,
      start.requires.1.counted,
      omega (arith, head.place, length_head 1, wrote_length head, start.requires.1.long, size_ring (length list) three),
    )

returns-2 : tie.Need-returns
returns-2 c =
    let at-put-head2 = c in
    let a = at-put-head2.args in
    wrote_as (wrote_then at-put-head2.put_head-ring.ensures c.put_ring.ensures)
    (sym (image_ring (patterns a.floats.now ++ a.bits.now) a.entries.now (omega (arith, at-put-head2.if-entries-lt3.false))))

pub put_polygon_spec : {M : Type 1} → statement M
put_polygon_spec =
    tie.close
    (tie.spec put_head-requires (λ c. search rules) returns put_head-requires-2 put_ring-requires
    (λ c. search rules) returns-2)
