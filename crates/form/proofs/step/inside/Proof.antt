-- `form::step::inside` meets its contract, field by field.
use native.Mathlib.Omega.{arith}
use Rattle.form.specs.step.Reader.{inside}
use Rattle.form.specs.step.laws.Standing.{at_small, few_counts}
use borrow.Author.Rules.{rules}
use Rattle.form.proofs.step.inside.Statement.{statement}
use Rattle.form.proofs.step.inside.Tie as tie

returns : tie.Need-returns
unfolding inside
returns c = cc

tally-requires : tie.Need-tally-requires
tally-requires c κs = let n = few_counts c.requires.0 in omega arith

tally-requires-2 : tie.Need-tally-requires-2
tally-requires-2 c κs = let n = few_counts c.requires.0 in omega arith

tally-requires-3 : tie.Need-tally-requires-3
tally-requires-3 c κs = let n = few_counts c.requires.0 in omega arith

pub inside_spec : {M : Type 1} → statement M
inside_spec =
    tie.close
    (tie.spec (λ c. search rules) (λ c κs. search rules) (λ c. omega (arith, at_small c.before.before.before.requires.0)) tally-requires tally-requires-2 tally-requires-3
    returns)
