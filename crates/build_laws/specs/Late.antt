-- Refusals of a build that come late: 11 to 14.
use Rattle.std.specs.Prelude.{ℕ, ◌≤◌}
use Rattle.base.specs.numbers.Numbers.{refused_circumcenter, refused_one_crossing}
use Rattle.definition.specs.declared.Fault.{Fault}
use Rattle.definition.specs.Fault.{Outcome, ok, refused}

-- what holds of a refusal, where there is one
abbrev pub Refuses : {F A : Type 0} → (F → Type 0) → Outcome F A → Type 0
Refuses P (ok a) = Unit {0}
Refuses P (refused f) = P f

-- 11 to 14
pub record Late (n : ℕ) : Type 0 where
  pub least : refused_circumcenter ≤ n
  pub most : n ≤ refused_one_crossing

abbrev pub Numbered : Fault → Type 0
Numbered f = Late f.number
