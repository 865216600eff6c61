-- The library's test and the definition's are one, case by case.
use Rattle.std.specs.Float.{float_is_finite}
use Rattle.std.proofs.Common.{◌≡◌, refl}
use lib.Ieee.{Float, nan, inf, fin}
use Rattle.definition.specs.Build.{finite}
use Rattle.cell_builder.proofs.rings.extensions.finite_point.Goals as goal

same : (x : Float) → float_is_finite x ≡ finite x
unfolding float_is_finite
same nan = refl
same (inf s) = refl
same (fin s m e) = refl

pub returns : goal.returns
returns c = rw (c.is_finite.ensures.value, c.is_finite-2.ensures.value, same c.args.p.x, same c.args.p.y)
