-- `test_replay::replay` meets its contract: lists of at most 128 entries want no more room than the arrays have, and what is lent of them holds 7.
use mathlib.Core.Path.{sym}
use native.Mathlib.Omega.{arith}
use lib.Seq.{length-take-le}
use borrow.Author.Rules.{rules}
use Rattle.test_replay.specs.laws.Tallied.{sevens_lent}
use Rattle.test_replay.proofs.replay.Statement.{statement}
use Rattle.test_replay.proofs.replay.Tie as tie

slice_aggregate-answers : tie.Need-slice_bounds-answers-end
slice_aggregate-answers c = sym (length-take-le _ _ (omega arith))

slice_aggregate-answers-2 : tie.Need-slice_bounds-answers-end-2
slice_aggregate-answers-2 c = sym (length-take-le _ _ (omega arith))

slice_aggregate-answers-3 : tie.Need-slice_bounds-answers-end-3
slice_aggregate-answers-3 c = sym (length-take-le _ _ (omega arith))

slice_aggregate-answers-4 : tie.Need-slice_bounds-answers-end-4
slice_aggregate-answers-4 c = sym (length-take-le _ _ (omega arith))

returns : tie.Need-returns
returns c =
    sevens_lent _ _ _ 64 1300 1100 65 (omega arith) (omega arith) (omega arith) (omega arith) c.answers.ensures

pub replay_spec : {M : Type 1} → statement M
replay_spec =
    tie.close
    (tie.spec (λ c. search rules) (λ c. search rules) (λ c. search rules) (λ c. search rules) (λ c. search rules)
    (λ c. search rules) (λ c. search rules) (λ c. search rules) (λ c. search rules) (λ c. search rules)
    (λ c. search rules) slice_aggregate-answers (λ c. search rules) slice_aggregate-answers-2 (λ c. search rules)
    slice_aggregate-answers-3 (λ c. search rules) slice_aggregate-answers-4 (λ c κs. search rules) returns)
