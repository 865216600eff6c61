-- A flag as a number, case by case.
use Rattle.std.specs.Prelude.{◌≡◌, refl, not, Bool, true, false}
use Rattle.std.specs.Int.{from_bool}
use Rattle.std.proofs.Common.{rules}
use Rattle.definition.specs.Reused.{if_old}
use Rattle.clipping.proofs.edges.if_old.Goals as goal

taken : (fresh : Bool) → from_bool (not fresh) ≡ if_old fresh 1
taken true = refl
taken false = refl

pub returns : goal.returns
returns c = search (rules, taken c.args.fresh)
