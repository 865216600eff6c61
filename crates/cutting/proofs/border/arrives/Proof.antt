-- `cutting::border::arrives`: an entry of the hull, and the table's of it.
use Rattle.cutting.proofs.border.arrives.Statement.{statement}
use Rattle.cutting.proofs.border.arrives.Tie as tie

returns : tie.Need-returns
returns c = rw (← c.entry_at.ensures, ← c.wide.ensures) c.entry_at-2.ensures

pub arrives_spec : {M : Type 1} → statement M
arrives_spec = tie.close (tie.spec (λ c κs. tt) (λ c κs. tt) (λ c κs. tt) returns)
