-- `reader::end_all` meets its contract: the state is finished, stored and told.
use Rattle.form.specs.step.laws.Standing.{ok_finished}
use borrow.Author.Rules.{rules}
use Rattle.reader.proofs.end_all.Statement.{statement}
use Rattle.reader.proofs.end_all.Tie as tie

reported-requires : tie.Need-reported-requires
reported-requires c κs = rw c.finished-r.ensures (ok_finished _ c.load.ensures.1)

returns : tie.Need-returns
returns c =
    rw (
      c.reported.ensures,
      c.store.ensures,
      c.finished-r.ensures,
      c.load.ensures.0,
    )

pub end_all_spec : {M : Type 1} → statement M
end_all_spec =
    tie.close
    (tie.spec (λ c κs. search rules) (λ c κs. search rules) (λ c κs. search rules) reported-requires (λ c. search rules) returns)
