-- `reader::standing::valid_parts` meets its contract, test by test.
use Rattle.reader.specs.standing.Stands.{valid_parts}
use borrow.Author.Rules.{rules}
use Rattle.reader.proofs.standing.valid_parts.Statement.{statement}
use Rattle.reader.proofs.standing.valid_parts.Tie as tie

returns : tie.Need-returns
unfolding valid_parts
returns c =
    let t = c in
    rw (
      c.both-2.ensures,
      c.both.ensures,
      c.valid_records.ensures,
      c.both-last.ensures,
      c.valid_register.ensures,
      t.taken.ensures,
      t.valid_place.ensures,
      t.both-first.ensures,
      t.valid_kind.ensures,
      t.valid_refusal.ensures,
    )

pub valid_parts_spec : {M : Type 1} → statement M
valid_parts_spec =
    tie.close
    (tie.spec (λ c κs. search rules) (λ c κs. search rules) (λ c κs. search rules) (λ c κs. search rules) (λ c κs. search rules)
    (λ c κs. search rules) (λ c κs. search rules) (λ c κs. search rules) (λ c κs. search rules) (λ c κs. search rules) returns)
