-- `vertices::add_new_vertex` meets its contract: the search finds the definition's place, and where that is past the vertices the point is put there.
use Prim.{tt}
use Prim.Native.Nat.{◌-◌}
use native.Mathlib.Omega.{arith}
use lib.ListN.{length}
use Rattle.vertices.specs.buckets.Buckets.{heads_of}
use Rattle.vertices.specs.buckets.Steps.{HomeOf}
use Rattle.vertices.specs.buckets.laws.Inserting.{heads_room}
use Rattle.vertices.specs.laws.Store.{reused, fresh}
use borrow.Author.Rules.{rules}
use Rattle.vertices.proofs.add_new_vertex.Statement.{statement}
use Rattle.vertices.proofs.add_new_vertex.Tie as tie

abbrev Start : tie.After-home_of-there → tie.Start
Start c = c.before.before.before.before

home_of-requires : tie.Need-home_of-there-requires
home_of-requires c κs = (heads_room _ _ _ c.heads_in.ensures).1

-- where p belongs in the tail as it is
at_home : (c : tie.After-home_of-there) → HomeOf (heads_of (length (Start c).args.indexes.now - (Start c).args.limit)) (Start c).args.p c.home_of-there.result
at_home c = rw c.heads_in.ensures at c.home_of-there.ensures

find-requires : tie.Need-find-i-requires
find-requires c κs = let h = c in ((Start h).requires.0, at_home h)

append-requires : tie.Need-append-requires
append-requires c κs = let h = c in ((Start h.before.before.before.before).requires.0, (at_home h.before.before.before.before, (Start h.before.before.before.before).requires.1))

returns : tie.Need-returns-then-i-count
returns c =
    let at-find = c in
    let s = Start at-find.before.before in
    reused s.args.centers s.args.limit s.args.count s.args.p s.args.vertices.now s.args.indexes.now s.requires.0 _ at-find.find-i.ensures.0 c.if-i-count.true

returns-2 : tie.Need-returns
returns-2 c =
    let at-append = c in
    let none = at-append in
    let at-find = none in
    let s = Start at-find.before.before.before.before.before.before.before.before.before in
    fresh s.args.centers s.args.limit s.args.count s.args.p s.args.vertices.now s.args.indexes.now s.requires.0 _ at-find.find-i.ensures.0
    (omega (arith, none.if-i-count.false, at-find.find-i.ensures.1)) at-append.append.ensures

pub add_new_vertex_spec : {M : Type 1} → statement M
add_new_vertex_spec =
    tie.close
    (tie.spec (λ c κs. tt) home_of-requires find-requires (λ c. search rules) (λ c. search rules) returns append-requires (λ c. search rules) (λ c. search rules) (λ c. search rules) returns-2)
