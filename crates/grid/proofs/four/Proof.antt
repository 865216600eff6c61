-- Each product is at most 3 · 2^57.
use mathlib.Core.Path.{refl}
use native.Mathlib.Omega.{arith}
use Rattle.grid.specs.laws.Bounds.{tall}
use Rattle.grid.proofs.four.Statement.{statement}
use Rattle.grid.proofs.four.Tie as tie

mul-result : tie.Need-overflow_mul-result
mul-result c =
    omega (arith, tall c.args.a c.args.b c.requires.0 c.requires.1)

mul-result-2 : tie.Need-overflow_mul-result-2
mul-result-2 c =
    omega (arith, tall c.args.c c.args.d c.requires.2 c.requires.3)

add-result : tie.Need-overflow_add-result
add-result c =
    omega (
      arith,
      tall c.args.a c.args.b c.requires.0 c.requires.1,
      tall c.args.c c.args.d c.requires.2 c.requires.3,
    )

mul-result-3 : tie.Need-overflow_mul-result-3
mul-result-3 c =
    omega (arith, tall c.args.e c.args.f c.requires.4 c.requires.5)

add-result-2 : tie.Need-overflow_add-result-2
add-result-2 c =
    omega (
      arith,
      tall c.args.a c.args.b c.requires.0 c.requires.1,
      tall c.args.c c.args.d c.requires.2 c.requires.3,
      tall c.args.e c.args.f c.requires.4 c.requires.5,
    )

mul-result-4 : tie.Need-overflow_mul-result-4
mul-result-4 c =
    omega (arith, tall c.args.g c.args.h c.requires.6 c.requires.7)

add-result-3 : tie.Need-overflow_add-result-3
add-result-3 c =
    omega (
      arith,
      tall c.args.a c.args.b c.requires.0 c.requires.1,
      tall c.args.c c.args.d c.requires.2 c.requires.3,
      tall c.args.e c.args.f c.requires.4 c.requires.5,
      tall c.args.g c.args.h c.requires.6 c.requires.7,
    )

returns : tie.Need-returns
returns c = refl

pub four_spec : {M : Type 1} → statement M
four_spec = tie.close (tie.spec mul-result mul-result-2 add-result mul-result-3 add-result-2 mul-result-4 add-result-3 returns)
