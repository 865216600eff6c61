-- `certifying::windows::is_kept_along` meets its contract: the operations in their order.
use mathlib.Core.Path.{refl}
use Rattle.certifying.specs.windows.Windows.{kept_along}
use borrow.Author.Rules.{rules}
use Rattle.certifying.proofs.windows.is_kept_along.Statement.{statement}
use Rattle.certifying.proofs.windows.is_kept_along.Tie as tie

returns : tie.Need-returns
unfolding kept_along
returns c =
    rw (c.is_clear.ensures, c.is_clear-2.ensures) refl

pub is_kept_along_spec : {M : Type 1} → statement M
is_kept_along_spec =
    tie.close (tie.spec (λ c κs. search rules) (λ c κs. search rules) returns)
