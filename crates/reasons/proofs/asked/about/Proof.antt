-- The two tests of the site's own entries.
use borrow.Author.Rules.{rules}
use Rattle.reasons.proofs.asked.about.Statement.{statement}
use Rattle.reasons.proofs.asked.about.Tie as tie

returns : tie.Need-returns
returns c = rw c.wide-at.ensures at c.of_cell.ensures

pub about_spec : {M : Type 1} → statement M
about_spec =
    tie.close
    (tie.spec (λ c κs. search rules) (λ c. search rules) (λ c. search rules) (λ c. search rules) (λ c. search rules)
    (λ c. search rules) (λ c. search rules) (λ c. search rules) (λ c κs. search rules) returns)
