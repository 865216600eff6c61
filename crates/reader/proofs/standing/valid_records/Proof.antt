-- `reader::standing::valid_records` meets its contract, test by test.
use native.Mathlib.Omega.{arith}
use Rattle.reader.specs.standing.Stands.{valid_records}
use Rattle.reader.specs.standing.laws.Stands.{valid_counts_told}
use borrow.Author.Rules.{rules}
use Rattle.reader.proofs.standing.valid_records.Statement.{statement}
use Rattle.reader.proofs.standing.valid_records.Tie as tie

begun-requires : tie.Need-begun-requires
begun-requires c κs = let f = valid_counts_told _ c.requires in omega arith

begun-requires-2 : tie.Need-begun-requires-2
begun-requires-2 c κs = let f = valid_counts_told _ c.requires in omega arith

begun-requires-3 : tie.Need-begun-requires-3
begun-requires-3 c κs = let f = valid_counts_told _ c.requires in omega arith

returns : tie.Need-returns
unfolding valid_records
returns c =
    rw (
      c.both-2.ensures,
      c.both.ensures,
      c.count_at-hull.ensures,
      c.begun-3.ensures.0,
      c.count_at-triangles.ensures,
      c.begun-2.ensures.0,
      c.count_at-sites.ensures,
      c.begun.ensures.0,
    )

pub valid_records_spec : {M : Type 1} → statement M
valid_records_spec =
    tie.close
    (tie.spec begun-requires (λ c κs. search rules) begun-requires-2 (λ c κs. search rules) begun-requires-3 (λ c κs. search rules)
    (λ c κs. search rules) (λ c κs. search rules) returns)
