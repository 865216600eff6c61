-- `certifying::windows::is_off` meets its contract: the operations in their order.
use mathlib.Core.Path.{refl}
use Rattle.certifying.specs.windows.Windows.{off_of}
use Rattle.certifying.proofs.windows.is_off.Statement.{statement}
use Rattle.certifying.proofs.windows.is_off.Tie as tie

returns : tie.Need-returns
unfolding off_of
returns c =
    refl

pub is_off_spec : {M : Type 1} → statement M
is_off_spec =
    tie.close (tie.spec returns)
