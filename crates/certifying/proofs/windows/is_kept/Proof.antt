-- `certifying::windows::is_kept` meets its contract: the operations in their order.
use mathlib.Core.Path.{refl}
use Rattle.certifying.specs.windows.Windows.{window_kept}
use borrow.Author.Rules.{rules}
use Rattle.certifying.proofs.windows.is_kept.Statement.{statement}
use Rattle.certifying.proofs.windows.is_kept.Tie as tie

returns : tie.Need-returns
unfolding window_kept
returns c = rw (c.is_kept_along.ensures, c.is_kept_along-2.ensures, c.most_of-down.ensures, c.most_of-across.ensures) refl

pub is_kept_spec : {M : Type 1} → statement M
is_kept_spec =
    tie.close (tie.spec (λ c κs. search rules) (λ c κs. search rules) (λ c κs. search rules) (λ c κs. search rules) returns)
