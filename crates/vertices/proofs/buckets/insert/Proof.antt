-- `vertices::buckets::insert` meets its contract: two stores, where there is a link.
use Prim.{tt}
use Prim.Native.Nat.{◌+◌, ◌*◌, ◌≤◌, ◌<◌}
use native.Mathlib.Omega.{arith}
use lib.ListN.{length, length-set}
use Rattle.vertices.specs.buckets.laws.Inserting.{heads_room, inserted_is, inserted_not}
use Rattle.vertices.proofs.buckets.insert.Statement.{statement}
use Rattle.vertices.proofs.buckets.insert.Tie as tie

few : (c : tie.After-heads_in-heads) → c.heads_in-heads.result ≤ 262144
few c = (heads_room _ _ _ c.heads_in-heads.ensures).1

room : (c : tie.Then-k-heads) → c.args.limit + 4 * c.heads_in-heads.result ≤ length c.args.indexes.now
room c = (heads_room _ _ _ c.heads_in-heads.ensures).0 (omega (arith, c.if-k-heads.true))

-- the head's place, and the link's
head : (c : tie.Then-k-heads) → c.args.limit + c.args.m < length c.args.indexes.now
head c =
    let at-heads = c in
    let some = room c in
    let e = at-heads.heads_in-heads.ensures in
    let small = at-heads.requires.below (rw (← e) (omega (arith, c.if-k-heads.true))) in
    omega (arith, some, rw (← e) at small)

link : (c : tie.Then-k-heads) → c.args.limit + (c.heads_in-heads.result + c.args.k) < length c.args.indexes.now
link c = omega (arith, room c, c.if-k-heads.true)

add-e : tie.Need-overflow_add-e
add-e c = record { fits = omega (arith, head c) }

add-indexes : tie.Need-overflow_add-indexes
add-indexes c = record { fits = omega (arith, link c.before) }

add-indexes-2 : tie.Need-overflow_add-indexes-then-k-heads
add-indexes-2 c = record { fits = omega (arith, link c.before) }

entry-requires : tie.Need-entry-requires
entry-requires c κs = let t = c in (omega (arith, few t.before.before, t.if-k-heads.true), t.requires.digit)

add-indexes-3 : tie.Need-overflow_add-indexes-then-k-heads-2
add-indexes-3 c = record { fits = omega (arith, head c.before.before) }

returns : tie.Need-returns-then-k-heads
returns c =
    let t = c in
    let s = t in
    inserted_is s.args.limit s.args.k s.args.indexes.now t.heads_in-heads.ensures c.entry.ensures t.if-k-heads.true

pub insert_spec : {M : Type 1} → statement M
insert_spec =
    tie.close
    (tie.spec (λ c κs. tt) (λ c. record { fits = omega (arith, few c) }) add-e (λ c. omega (arith, head c)) (λ c. head c.before) add-indexes add-indexes-2
    (λ c. omega (arith, link c.before)) (λ c. link c.before) entry-requires add-indexes-3 (λ c. omega (arith, head c.before.before))
    (λ c. simp length-set (head c.before.before)) (λ c. simp length-set) returns (λ c. inserted_not _ _ _ _ _ c.before.heads_in-heads.ensures c.if-k-heads.false))
