-- `vertices::append` meets its contract: what is put after the vertices and inserted is held.
use Prim.Native.Nat.{◌-◌}
use lib.ListN.{length}
use borrow.Author.Rules.{rules}
use Rattle.vertices.specs.buckets.Buckets.{heads_of}
use Rattle.vertices.specs.buckets.laws.Inserting.{home_in}
use Rattle.vertices.specs.laws.Store.{appended}
use Rattle.vertices.proofs.append.Statement.{statement}
use Rattle.vertices.proofs.append.Tie as tie

abbrev Start : tie.After-put → tie.Start
Start c = c.before.before.before.before

insert-requires : tie.Need-insert-requires
insert-requires c κs = let s = Start c.before.before.before in home_in (heads_of (length s.args.indexes.now - s.args.limit)) s.args.p s.requires.1.0

returns : tie.Need-returns
returns c =
    let at-insert = c in
    let at-put = at-insert in
    let s = Start at-put.before.before.before.before.before.before in
    rw at-put.put.ensures
    (appended s.args.centers s.args.limit s.args.count s.args.p s.args.vertices.now s.args.indexes.now _ s.requires.0 s.requires.1.1 s.requires.1.0
    at-insert.insert.ensures)

pub append_spec : {M : Type 1} → statement M
append_spec = tie.close (tie.spec (λ c κs. search rules) (λ c. search rules) insert-requires (λ c. search rules) (λ c. search rules) returns)
