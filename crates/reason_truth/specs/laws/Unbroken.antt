-- Rules that all hold are not broken; a cell without entries; an outcome is one thing.
use Rattle.std.specs.Prelude.{◌≡◌, refl, List, [], ◌∷◌, ℕ, length}
use Rattle.std.proofs.Common.{sym, ap, ◌∙◌, subst, inl, inr, arith}
use Rattle.base.specs.common.Refusals.{Rule, once, each, Keep}
use Rattle.base.specs.common.laws.Decide.{first_not}
use Rattle.definition.specs.declared.Fault.{Fault}
use Rattle.definition.specs.Fault.{Outcome, ok, refused}
use Rattle.definition.specs.Cell.{Entry, unmarked}
use Rattle.definition.specs.Build.{Built}
use Rattle.reason_truth.specs.Whole.{Broken}

pub unbroken : {A : Type 0} (a : A) (rs : List (Rule A)) → Keep rs → Broken rs a → ⊥
unbroken a [] k x = x
unbroken a (once c P ∷ rs) k (inl x) = x.0 k.0
unbroken a (once c P ∷ rs) k (inr x) = unbroken a rs k.1 x.1
unbroken a (each f n P ∷ rs) k (inl x) = first_not x.1 x.2 k.0
unbroken a (each f n P ∷ rs) k (inr x) = unbroken a rs k.1 x.1

-- a cell of no entries
pub no_entry : (c : List Entry) → length (unmarked c) ≡ 0 → c ≡ []
no_entry [] q = refl
no_entry (x ∷ c) q = absurd (omega (arith, q))

-- what was built, of an outcome that may be none
abbrev made_or : Built → Outcome Fault Built → Built
made_or k (ok j) = j
made_or k (refused f) = k

abbrev is_made : Outcome Fault Built → ℕ
is_made (ok j) = 1
is_made (refused f) = 0

pub built_or_not : (o : Outcome Fault Built) {k : Built} {f : Fault} → o ≡ ok k → o ≡ refused f → ⊥
built_or_not o e d = omega (arith, ap is_made (sym e ∙ d))

pub same_built : (P : Built → Type 0) {o : Outcome Fault Built} {k j : Built} → o ≡ ok k → o ≡ ok j → P j → P k
same_built P {k = k} e d x = subst P (ap (made_or k) (sym d ∙ e)) x
