-- The entries are those of the work slice as it was; they are stored in the table, then in the work slice.
use borrow.Author.Rules.{rules}
use Rattle.flipping.specs.stores.laws.Changes.{retabled}
use Rattle.flipping.proofs.stores.flip_tables.Statement.{statement}
use Rattle.flipping.proofs.stores.flip_tables.Tie as tie

entries-requires : tie.Need-entries-v-requires
entries-requires c κs = rw c.corners-s.ensures c.requires.tabled

put-requires : tie.Need-put-requires
put-requires c κs = rw c.corners-s.ensures c.requires.places

put-requires-2 : tie.Need-put-requires-2
put-requires-2 c κs =
    rw c.corners-s.ensures
    c.requires.tabled.places

returns : tie.Need-returns
returns c =
    let at-put = c in
    let at-entries = at-put in
    let t = at-entries.args in (
      retabled t.triangles.now t.halfedges.now t.work.now t.table.now _ t.a t.b t.r t.l _ _ at-entries.corners-s.ensures
          at-entries.entries-v.ensures at-put.put.ensures,
      retabled t.triangles.now t.halfedges.now t.work.now t.work.now _ t.a t.b t.r t.l _ _ at-entries.corners-s.ensures
          at-entries.entries-v.ensures c.put-2.ensures,
    )

pub flip_tables_spec : {M : Type 1} → statement M
flip_tables_spec =
    tie.close
    (tie.spec (λ c κs. search rules) (λ c. search rules) (λ c. search rules) (λ c. search rules) (λ c. search rules)
    entries-requires put-requires put-requires-2 (λ c. search rules) (λ c. search rules) returns)
