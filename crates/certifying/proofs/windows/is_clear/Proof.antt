-- `certifying::windows::is_clear` meets its contract: the operations in their order.
use mathlib.Core.Path.{refl}
use Rattle.certifying.specs.windows.Windows.{clear_of}
use Rattle.certifying.proofs.windows.is_clear.Statement.{statement}
use Rattle.certifying.proofs.windows.is_clear.Tie as tie

returns : tie.Need-returns
unfolding clear_of
returns c =
    refl

pub is_clear_spec : {M : Type 1} → statement M
is_clear_spec =
    tie.close (tie.spec returns)
