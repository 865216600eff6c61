-- `certifying::windows::lesser` meets its contract.
use mathlib.Core.Path.{refl}
use Rattle.certifying.specs.windows.Windows.{lesser_of}
use Rattle.certifying.proofs.windows.lesser.Statement.{statement}
use Rattle.certifying.proofs.windows.lesser.Tie as tie

returns : tie.Need-returns-then-y-x
unfolding lesser_of
returns c = rw c.if-y-x.true refl

returns-2 : tie.Need-returns
unfolding lesser_of
returns-2 c = rw c.if-y-x.false refl

pub lesser_spec : {M : Type 1} → statement M
lesser_spec =
    tie.close (tie.spec returns returns-2)
