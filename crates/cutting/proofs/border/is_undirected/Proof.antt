-- `cutting::border::is_undirected`: the direction at the place.
use mathlib.Core.Path.{refl}
use Rattle.cutting.specs.border.Border.{undirected_at}
use Rattle.cutting.proofs.border.is_undirected.Statement.{statement}
use Rattle.cutting.proofs.border.is_undirected.Tie as tie

returns : tie.Need-returns
unfolding undirected_at
returns c = rw (← c.arrives.ensures, ← c.toward.ensures, ← c.is_directed.ensures) refl

pub is_undirected_spec : {M : Type 1} → statement M
is_undirected_spec = tie.close (tie.spec (λ c κs. tt) (λ c κs. tt) (λ c κs. tt) returns)
