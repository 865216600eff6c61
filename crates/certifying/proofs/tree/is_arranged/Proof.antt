-- `certifying::tree::is_arranged` meets its contract: nothing is promised of its answer.
use borrow.Author.Rules.{rules}
use native.Mathlib.Omega.{arith}
use Rattle.certifying.proofs.tree.is_arranged.Statement.{statement}
use Rattle.certifying.proofs.tree.is_arranged.Tie as tie

all_close-requires : tie.Need-all_close-requires
all_close-requires c κs =
    let s = c in (omega arith, omega arith, s.requires)

all_close-requires-2 : tie.Need-all_close-requires-then-all_close
all_close-requires-2 c κs =
    let s = c in (omega arith, omega arith, s.requires)

pub is_arranged_spec : {M : Type 1} → statement M
is_arranged_spec =
    tie.close (tie.spec all_close-requires all_close-requires-2 (λ c. search rules) (λ c. search rules))
