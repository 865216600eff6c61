-- `clipping::ring::passes` meets its contract: it says yes only after the tests of both ends, and where there is no crossing.
use mathlib.Core.Bool.{false≢true}
use borrow.Author.Rules.{rules}
use Rattle.clipping.proofs.ring.passes.Statement.{statement}
use Rattle.clipping.proofs.ring.passes.Tie as tie

returns : tie.Need-returns-then-p_in
returns c = λ e. absurd (false≢true e)

returns-2 : tie.Need-returns-then-q_in
returns-2 c = λ e. absurd (false≢true e)

returns-4 : tie.Need-returns-in-One
returns-4 c = λ e. absurd (false≢true e)

returns-5 : tie.Need-returns-in-Two
returns-5 c = λ e. absurd (false≢true e)

pub passes_spec : {M : Type 1} → statement M
passes_spec =
    tie.close
    (tie.spec returns returns-2 (λ c. search rules) (λ c. search rules) (λ c. search rules) (λ c. search rules) returns-4 returns-5)
