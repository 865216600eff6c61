-- Each product is at most 2^28.
use mathlib.Core.Path.{refl}
use native.Mathlib.Omega.{arith}
use Rattle.grid.specs.laws.Bounds.{flat}
use Rattle.grid.proofs.three.Statement.{statement}
use Rattle.grid.proofs.three.Tie as tie

mul-result : tie.Need-overflow_mul-result
mul-result c = omega (arith, flat c.args.a c.args.b c.requires.0 c.requires.1)

mul-result-2 : tie.Need-overflow_mul-result-2
mul-result-2 c = omega (arith, flat c.args.c c.args.d c.requires.2 c.requires.3)

add-result : tie.Need-overflow_add-result
add-result c = omega (arith, flat c.args.a c.args.b c.requires.0 c.requires.1, flat c.args.c c.args.d c.requires.2 c.requires.3)

mul-result-3 : tie.Need-overflow_mul-result-3
mul-result-3 c = omega (arith, flat c.args.e c.args.f c.requires.4 c.requires.5)

add-result-2 : tie.Need-overflow_add-result-2
add-result-2 c =
    omega (
      arith,
      flat c.args.a c.args.b c.requires.0 c.requires.1,
      flat c.args.c c.args.d c.requires.2 c.requires.3,
      flat c.args.e c.args.f c.requires.4 c.requires.5,
    )

returns : tie.Need-returns
returns c = (
  refl,
  omega (
    arith,
    flat c.args.a c.args.b c.requires.0 c.requires.1,
    flat c.args.c c.args.d c.requires.2 c.requires.3,
    flat c.args.e c.args.f c.requires.4 c.requires.5,
  ),
)

pub three_spec : {M : Type 1} → statement M
three_spec = tie.close (tie.spec mul-result mul-result-2 add-result mul-result-3 add-result-2 returns)
