-- A border that is refused leaves nothing; else the pieces of all sites.
use Rattle.std.proofs.Common.{refl}
use Rattle.base.specs.refusal.laws.Number.{some_number}
use Rattle.cutting_calls.specs.call.laws.Steps.{border_late}
use Rattle.cutting_calls.proofs.call.cut_centered.Goals as goal

pub returns-in-Err : goal.returns-in-Err
returns-in-Err c =
    let once = c.in-Err.ensures in
    let k = c.clear_all.ensures in
    record {
      number = once;
      made = λ z. absurd (some_number _ z);
      late = λ z. border_late _ _ _ _ _ _ once z;
      none = λ z. record { none = refl; vertices = k.0; indexes = k.1; offsets = k.2 };
    }
