-- The three answers are the cases of `same_at`, by its two tests.
use mathlib.Core.Path.{sym}
use Rattle.mending.specs.changes.laws.Listing.{no_old, no_new, both}
use borrow.Author.Rules.{rules}
use Rattle.mending.proofs.changes.same_at.Statement.{statement}
use Rattle.mending.proofs.changes.same_at.Tie as tie

returns : tie.Need-returns-then-old-i
returns c = sym (no_old _ _ _ c.if-old-i.true)

returns-2 : tie.Need-returns-then-new-i
returns-2 c = sym (no_new _ _ _ c.if-old-i.false c.if-new-i.true)

returns-3 : tie.Need-returns
returns-3 c = sym (both _ _ _ c.if-old-i.false c.if-new-i.false)

pub same_at_spec : {M : Type 1} → statement M
same_at_spec =
    tie.close
    (tie.spec returns returns-2 (λ c. search rules) (λ c. search rules) (λ c. search rules) (λ c. search rules)
    returns-3)
