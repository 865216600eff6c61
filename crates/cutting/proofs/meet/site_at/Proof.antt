-- `cutting::meet::site_at`: both numbers of the pair.
use mathlib.Core.Path.{refl}
use borrow.Author.Rules.{rules}
use Rattle.cutting.proofs.meet.site_at.Statement.{statement}
use Rattle.cutting.proofs.meet.site_at.Tie as tie

returns : tie.Need-returns
returns c = rw (c.number_at.ensures, c.number_at-2.ensures, c.wide-k.ensures) refl

pub site_at_spec : {M : Type 1} → statement M
site_at_spec = tie.close (tie.spec (λ c κs. tt) (λ c. search rules) (λ c κs. tt) (λ c. search rules) (λ c. search rules) (λ c κs. tt) returns)
