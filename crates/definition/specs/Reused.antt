-- How many steps of each kind took a vertex again that was there (near a corner, an extension or a point added before), counted over the list of steps.
use Rattle.std.specs.Prelude.{◌≡◌, Bool, List, [], ◌∷◌, ℕ, ◌+◌, ◌^◌, ◌≤◌, length}
use Rattle.base.specs.common.Pick.{pick}
use Rattle.definition.specs.Cell.{StepKind, StepKind-discrete, extension, firstCrossing, secondCrossing, Taken}
use Rattle.definition.specs.declared.Reused.{Reused}

-- 1 where a step of kind j is one of kind k, else 0
abbrev pub is_kind : StepKind → StepKind → ℕ
is_kind k j = elim (StepKind-discrete k j) [ yes _ ↦ 1 | no _ ↦ 0 ]

-- the steps of kind k whose point was not new
abbrev pub reused_of : StepKind → List Taken → ℕ
reused_of k [] = 0
reused_of k (t ∷ ts) = pick t.fresh (λ _. 0) (λ _. is_kind k t.kind) + reused_of k ts

-- what a step adds to such a number, by whether its point was new
abbrev pub if_old : Bool → ℕ → ℕ
if_old fresh n = pick fresh (λ _. 0) (λ _. n)

-- all three kinds, as a build answers them
abbrev pub reused : ℕ → ℕ → ℕ → Reused
reused a b c = record { extensions = a; firsts = b; seconds = c }

abbrev pub reused_in : List Taken → Reused
reused_in ts = reused (reused_of extension ts) (reused_of firstCrossing ts) (reused_of secondCrossing ts)

-- two of them together
abbrev pub together : Reused → Reused → Reused
together a b = reused (a.extensions + b.extensions) (a.firsts + b.firsts) (a.seconds + b.seconds)

-- so small that two of them can be added
abbrev pub Addable : Reused → Type 0
Addable a = (a.extensions ≤ 2 ^ 33) × (a.firsts ≤ 2 ^ 33) × (a.seconds ≤ 2 ^ 33)

-- the numbers a are those of the steps ts, of which there are so many at most
pub record CountsReused (most : ℕ) (ts : List Taken) (a : Reused) : Type 0 where
  pub is : a ≡ reused_in ts
  pub few : length ts ≤ most
