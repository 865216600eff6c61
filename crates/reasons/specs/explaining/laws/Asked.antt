-- What a call asks of its own arguments, step by step; and what such rules answer: 3 or 4.
use Rattle.std.specs.Prelude.{◌≡◌, Bool, List, [], ◌++◌, ◌≢◌, ℕ, ◌<◌}
use Rattle.std.proofs.Common.{arith}
use Rattle.base.specs.common.Refusals.{Rule, Keep}
use Rattle.base.specs.common.laws.Refusals.{Answers, nothing, finds_first, finds_after, finds_keep}
use Rattle.base.specs.numbers.Numbers.{refused_coordinate}
use Rattle.arguments.specs.asking.Asks.{site_rules, box_rules, Asked}
use Rattle.arguments.specs.asking.laws.Asks.{site_below, box_answers}
use Rattle.reasons.specs.declared.Question.{Question}
use Rattle.reasons.specs.declared.Question.TheVariants.{Nothing, About, Between}
use Rattle.reasons.specs.Answer.{SitesBelow}
use Rattle.reasons.specs.Rules.{question_rules}

-- a rule of a call's own answers a number between 0 and 6
pub record OwnRules (own : List (Rule ℕ)) : Type 0 where
  pub some : Answers (λ r. r ≡ 0 → ⊥) own
  pub small : Answers (λ r. r < refused_coordinate) own

pub own_question : (n : ℕ) (q : Question) → OwnRules (question_rules n q)
own_question n Nothing = record { some = tt; small = tt }
own_question n (About s) = record { some = (λ x e. omega arith, tt); small = (λ x. omega arith, tt) }
own_question n (Between s t) = record { some = (λ x e. omega arith, (λ x e. omega arith, tt)); small = (λ x. omega arith, (λ x. omega arith, tt)) }

pub own_arguments : (sound : Bool) (n : ℕ) (q : Question) → OwnRules (box_rules sound ++ question_rules n q)
own_arguments sound n q = let o = own_question n q in
    record { some = (λ x e. omega arith, o.some); small = (λ x. omega arith, o.small) }

-- ---- the questions
pub none_asked : Asked [] 0
none_asked = record { found = nothing; small = omega arith }

module _ (n s t : ℕ) {r : ℕ} (a : Asked (site_rules n s) r) where
  pub first_refused : r ≢ 0 → Asked (site_rules n s ++ site_rules n t) r
  first_refused z = record { found = finds_first (site_rules n t) z a.found; small = a.small }

  pub second_asked : r ≡ 0 → {v : ℕ} → Asked (site_rules n t) v → Asked (site_rules n s ++ site_rules n t) v
  second_asked z b = record { found = finds_after (site_rules n s) (site_below n s a z, tt) b.found; small = b.small }

-- ---- the box, then the questions
module _ (sound : Bool) (rest : List (Rule ℕ)) {r : ℕ} (a : Asked (box_rules sound) r) where
  pub box_refused : r ≢ 0 → Asked (box_rules sound ++ rest) r
  box_refused z = record { found = finds_first rest z a.found; small = a.small }

  pub box_passed : r ≡ 0 → {v : ℕ} → Asked rest v → Asked (box_rules sound ++ rest) v
  box_passed z b = record { found = finds_after (box_rules sound) (finds_keep (λ k. k ≡ 0) (box_answers sound) z a.found) b.found; small = b.small }

-- ---- what 0 tells
pub asked_keep : {own : List (Rule ℕ)} → OwnRules own → {r : ℕ} → Asked own r → r ≡ 0 → Keep own
asked_keep o a z = finds_keep (λ r. r ≡ 0) o.some z a.found

pub question_below : (n : ℕ) (q : Question) → Keep (question_rules n q) → SitesBelow n q
question_below n Nothing k = tt
question_below n (About s) k = k.0
question_below n (Between s t) k = (k.0, k.1.0)
