-- `auditing::rings::folds_at` meets its contract: one triangle or the other.
use native.Mathlib.Omega.{arith}
use Rattle.auditing.specs.rings.laws.Fans.{three_corners, either_is}
use borrow.Author.Rules.{rules}
use Rattle.auditing.proofs.rings.folds_at.Statement.{statement}
use Rattle.auditing.proofs.rings.folds_at.Tie as tie

abbrev Start : tie.After-shared_slice_known-7-1 → tie.Start
Start c = c.before.before.before.before.before.before.before

turns_over-requires : tie.Need-turns_over-requires
turns_over-requires c κs = ((Start c).requires.0, three_corners (Start c).requires.1 0 _ _ (omega arith) (omega arith) (omega arith))

turns_over-requires-2 : tie.Need-turns_over-requires-2
turns_over-requires-2 c κs = ((Start c.before).requires.0, three_corners (Start c.before).requires.1 0 1 _ (omega arith) (omega arith) (omega arith))

returns : tie.Need-returns
returns c = λ box bits q. either_is box bits _ _ _ (c.turns_over.ensures box bits q) (c.turns_over-2.ensures box bits q)

pub folds_at_spec : {M : Type 1} → statement M
folds_at_spec =
    tie.close
    (tie.spec (λ c. search rules) (λ c. search rules) (λ c. search rules) (λ c. search rules) (λ c. search rules)
    (λ c. search rules) (λ c. search rules) (λ c. search rules) turns_over-requires turns_over-requires-2 returns)
