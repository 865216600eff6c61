-- Where the entries are the same nothing is written; else three numbers.
use mathlib.Core.Path.{sym, ◌∙◌}
use native.Mathlib.Omega.{arith}
use lib.ListN.{length-set}
use Rattle.mending.specs.changes.laws.Listing.{same_put, other_put}
use borrow.Author.Rules.{rules}
use Rattle.mending.proofs.changes.put_change.Statement.{statement}
use Rattle.mending.proofs.changes.put_change.Tie as tie

returns : tie.Need-returns-then-same_at
returns c = same_put _ _ _ _ _ (sym c.same_at.ensures ∙ c.if-same_at.true)

slice_write-changes-2 : tie.Need-bounds-changes-at-2
slice_write-changes-2 c = simp length-set (omega (arith, c.requires.2))

slice_write-changes-3 : tie.Need-bounds-changes-at-3
slice_write-changes-3 c = simp length-set (omega (arith, c.requires.2))

returns-2 : tie.Need-returns
returns-2 c = other_put _ _ _ _ _ _ _ (sym c.same_at.ensures ∙ c.if-same_at.false) c.entry.ensures c.entry-2.ensures

pub put_change_spec : {M : Type 1} → statement M
put_change_spec =
    tie.close
    (tie.spec (λ c κs. search rules) returns (λ c. search rules) (λ c. search rules) (λ c. search rules)
    (λ c. search rules) (λ c κs. search rules) (λ c. search rules) (λ c. search rules) slice_write-changes-2
    (λ c κs. search rules) (λ c. search rules) (λ c. search rules) slice_write-changes-3 (λ c. search rules)
    (λ c. search rules) returns-2)
