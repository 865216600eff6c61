-- `cells::main` is safe: what is printed lies within the output.
use mathlib.Core.Path.{sym}
use native.Mathlib.Omega.{arith}
use lib.Seq.{length-take-le}
use borrow.Author.Rules.{rules}
use Rattle.cells.proofs.main.Statement.{statement}
use Rattle.cells.proofs.main.Tie as tie

slice_aggregate-write_all : tie.Need-slice_bounds-write_all-end
slice_aggregate-write_all c = sym (length-take-le _ _ (omega (arith, c.answer-m.ensures.1, c.answer-m.auto.out)))

pub main_spec : {M : Type 1} → statement M
main_spec =
    tie.close
    (tie.spec (λ c κs. search rules) (λ c. search rules) (λ c κs. search rules) (λ c. search rules) (λ c. search rules)
    (λ c. search rules) (λ c κs. search rules) (λ c. search rules) slice_aggregate-write_all (λ c κs. search rules)
    (λ c. search rules))
