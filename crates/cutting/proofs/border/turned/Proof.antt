-- `cutting::border::turned`: what is added is what the definition adds.
use mathlib.Core.Path.{refl}
use native.Mathlib.Omega.{arith}
use Rattle.cutting.specs.border.Border.{turned_by}
use Rattle.cutting.proofs.border.turned.Statement.{statement}
use Rattle.cutting.proofs.border.turned.Tie as tie

add-t13 : tie.Need-overflow_add-result
add-t13 c = omega (arith, c.passed-a.ensures.1, c.requires)

add-t14 : tie.Need-overflow_add-result-2
add-t14 c = omega (arith, c.passed-z.ensures.1, c.requires)

returns : tie.Need-returns
unfolding turned_by
returns c =
    let u = c in
    rw (c.passed-a.ensures.0, c.passed-z.ensures.0, u.within-here.ensures, u.within-there.ensures, u.upward-up.ensures) refl

pub turned_spec : {M : Type 1} → statement M
turned_spec = tie.close (tie.spec (λ c κs. tt) (λ c κs. tt) (λ c κs. tt) (λ c κs. tt) (λ c κs. tt) add-t13 add-t14 returns)
