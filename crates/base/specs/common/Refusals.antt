-- Refusals: a list of rules, tried in order. What is answered is of the first rule that is broken, and of the first thing that breaks it; or it is
-- that nothing is refused. `finds_one` of laws/Refusals says that there is one answer, whatever the rules are.
use Rattle.std.specs.Prelude.{◌≡◌, List, [], ◌∷◌, ◌⊎◌, ℕ, ◌<◌}
use Rattle.base.specs.common.Decide.{First}

-- a rule: what is answered where it is broken, and what it asks: one thing, or something of each number below a bound
pub data Rule (A : Type 0) : Type 1 where
  once : A → Type 0 → Rule A
  each : (ℕ → A) → ℕ → (ℕ → Type 0) → Rule A

abbrev pub Keeps : {A : Type 0} → Rule A → Type 0
Keeps (once a P) = P
Keeps (each f n P) = (k : ℕ) → k < n → P k

-- the rule is broken, and b is what is answered then
abbrev pub Breaks : {A : Type 0} → Rule A → A → Type 0
Breaks (once a P) b = (P → ⊥) × (b ≡ a)
Breaks (each f n P) b = (k : ℕ) × First P n k × (k < n) × (b ≡ f k)

-- all rules hold
abbrev pub Keep : {A : Type 0} → List (Rule A) → Type 0
Keep [] = Unit {0}
Keep (r ∷ rs) = Keeps r × Keep rs

-- the first rule that is broken answers a; a is `none` where all hold
abbrev pub Judged : {A : Type 0} → List (Rule A) → A → A → Type 0
Judged [] none a = a ≡ none
Judged (r ∷ rs) none a = Breaks r a ⊎ (Keeps r × Judged rs none a)

pub record Finds {A : Type 0} (rules : List (Rule A)) (none a : A) : Type 0 where
  pub judged : Judged rules none a

-- the same rules with their answers read by g
abbrev pub reads : {A B : Type 0} → (A → B) → List (Rule A) → List (Rule B)
reads g [] = []
reads g (once a P ∷ rs) = once (g a) P ∷ reads g rs
reads g (each f n P ∷ rs) = each (λ k. g (f k)) n P ∷ reads g rs
