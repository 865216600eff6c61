-- `root::whole_root::bring_down` meets its contract: no product and no sum is too wide (`widths`).
use mathlib.Core.Path.{refl}
use native.Mathlib.Omega.{arith}
use Rattle.root.specs.whole_root.Widths.{widths}
use Rattle.root.proofs.whole_root.bring_down.Statement.{statement}
use Rattle.root.proofs.whole_root.bring_down.Tie as tie

mul-t2 : tie.Need-overflow_mul-result
mul-t2 c = omega (arith, (widths c.before.requires).root_moved)

mul-t3 : tie.Need-overflow_mul-result-2
mul-t3 c = omega (arith, (widths c.before.before.requires).left_moved)

add-t5 : tie.Need-overflow_add-result
add-t5 c = omega (arith, (widths c.before.before.before.requires).left_down)

mul-t7 : tie.Need-overflow_mul-result-3
mul-t7 c = omega (arith, (widths c.before.before.before.before.requires).rest_moved)

returns : tie.Need-returns
returns c = refl

pub bring_down_spec : {M : Type 1} → statement M
bring_down_spec = tie.close (tie.spec mul-t2 mul-t3 add-t5 mul-t7 returns)
