-- `certifying::sides::is_turned` meets its contract.
use mathlib.Core.Path.{sym}
use Rattle.ring_area.specs.lowest.laws.Loops.{no_both}
use borrow.Author.Rules.{rules}
use Rattle.certifying.proofs.sides.is_turned.Statement.{statement}
use Rattle.certifying.proofs.sides.is_turned.Tie as tie

returns : tie.Need-returns-then-indexes-j
returns c = λ e. absurd (no_both (sym e))

returns-2 : tie.Need-returns-then-indexes-k
returns-2 c = λ e. absurd (no_both (sym e))

pub is_turned_spec : {M : Type 1} → statement M
is_turned_spec =
    tie.close
    (tie.spec (λ c κs. search rules) (λ c κs. search rules) (λ c. search rules) (λ c. search rules) returns (λ c. search rules) (λ c. search rules) returns-2 (λ c. search rules))
