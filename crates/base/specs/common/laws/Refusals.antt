-- Of a list of rules there is one answer (`finds_one`); how it comes about, what it tells, and lists of rules put together.
use Rattle.std.specs.Prelude.{◌≡◌, refl, List, [], ◌∷◌, ◌++◌, ◌⊎◌, ◌↔◌, ℕ, ◌<◌}
use Rattle.std.proofs.Common.{sym, ap, ◌∙◌, inl, inr, ⊎_elim}
use Rattle.base.specs.common.Decide.{First}
use Rattle.base.specs.common.laws.Decide.{first_one, first_not}
use Rattle.base.specs.common.Refusals.{Rule, once, each, Keeps, Breaks, Keep, Judged, Finds, reads}

-- P holds of whatever a broken rule answers
abbrev pub Answers : {A : Type 0} → (A → Type 0) → List (Rule A) → Type 0
Answers P [] = Unit {0}
Answers P (once a Q ∷ rs) = ((Q → ⊥) → P a) × Answers P rs
Answers P (each f n Q ∷ rs) = ((k : ℕ) → P (f k)) × Answers P rs

-- ---- one answer
module _ {A : Type 0} (a : A) where
  breaks_not : (r : Rule A) → Breaks r a → Keeps r → ⊥
  breaks_not (once c P) x k = x.0 k
  breaks_not (each f n P) x k = first_not x.1 x.2 k

  breaks_one : (b : A) (r : Rule A) → Breaks r a → Breaks r b → a ≡ b
  breaks_one b (once c P) x y = x.1 ∙ sym y.1
  breaks_one b (each f n P) x y = x.3 ∙ ap f (first_one x.1 y.1) ∙ sym y.3

judged_one : {A : Type 0} (none a b : A) (rs : List (Rule A)) → Judged rs none a → Judged rs none b → a ≡ b
judged_one none a b [] x y = x ∙ sym y
judged_one none a b (r ∷ rs) (inl x) (inl y) = breaks_one a b r x y
judged_one none a b (r ∷ rs) (inl x) (inr y) = absurd (breaks_not a r x y.0)
judged_one none a b (r ∷ rs) (inr x) (inl y) = absurd (breaks_not b r y x.0)
judged_one none a b (r ∷ rs) (inr x) (inr y) = judged_one none a b rs x.1 y.1

pub finds_one : {A : Type 0} {rules : List (Rule A)} {none a b : A} → Finds rules none a → Finds rules none b → a ≡ b
finds_one {rules = rs} {none} {a} {b} x y = judged_one none a b rs x.judged y.judged

-- ---- how an answer comes about: rule by rule, in the order in which they are tried
module _ {A : Type 0} {none : A} {rs : List (Rule A)} where
  pub breaks : {a : A} {P : Type 0} → (P → ⊥) → Finds (once a P ∷ rs) none a
  breaks n = record { judged = inl (n, refl) }

  pub offends : {f : ℕ → A} {n k : ℕ} {P : ℕ → Type 0} → First P n k → k < n → Finds (each f n P ∷ rs) none (f k)
  offends {k = k} x l = record { judged = inl (k, x, l, refl) }

  pub keeps : {a b : A} {P : Type 0} → P → Finds rs none b → Finds (once a P ∷ rs) none b
  keeps p x = record { judged = inr (p, x.judged) }

  pub all_keep : {b : A} {f : ℕ → A} {n : ℕ} {P : ℕ → Type 0} → ((k : ℕ) → k < n → P k) → Finds rs none b → Finds (each f n P ∷ rs) none b
  all_keep p x = record { judged = inr (p, x.judged) }

pub nothing : {A : Type 0} {none : A} → Finds [] none none
nothing = record { judged = refl }

-- ---- what an answer tells
keep_judged : {A : Type 0} (none : A) (rs : List (Rule A)) → Keep rs → Judged rs none none
keep_judged none [] k = refl
keep_judged none (r ∷ rs) k = inr (k.0, keep_judged none rs k.1)

-- where all rules hold nothing is refused
pub finds_none : {A : Type 0} {rules : List (Rule A)} {none : A} → Keep rules → Finds rules none none
finds_none {rules = rs} {none} k = record { judged = keep_judged none rs k }

module _ {A : Type 0} (P : A → Type 0) where
  breaks_answers : (r : Rule A) (rs : List (Rule A)) {a : A} → Answers P (r ∷ rs) → Breaks r a → P a
  breaks_answers (once c Q) rs t x = rw x.1 (t.0 x.0)
  breaks_answers (each f n Q) rs t x = rw x.3 (t.0 x.0)

  rest : (r : Rule A) (rs : List (Rule A)) → Answers P (r ∷ rs) → Answers P rs
  rest (once c Q) rs t = t.1
  rest (each f n Q) rs t = t.1

  judged_answers : (rs : List (Rule A)) {none a : A} → P none → Answers P rs → Judged rs none a → P a
  judged_answers [] p t x = rw x p
  judged_answers (r ∷ rs) p t (inl x) = breaks_answers r rs t x
  judged_answers (r ∷ rs) p t (inr x) = judged_answers rs p (rest r rs t) x.1

  -- what is true of `none` and of all that the rules answer is true of the answer
  pub finds_answers : {rules : List (Rule A)} {none a : A} → P none → Answers P rules → Finds rules none a → P a
  finds_answers {rules = rs} p t x = judged_answers rs p t x.judged

module _ {A : Type 0} (P : A → Type 0) (none : A) {a : A} (p : P a) where
  judged_keep : (rs : List (Rule A)) → Answers (λ b. P b → ⊥) rs → Judged rs none a → Keep rs
  judged_keep [] t x = tt
  judged_keep (r ∷ rs) t (inl x) = absurd (breaks_answers (λ b. P b → ⊥) r rs t x p)
  judged_keep (r ∷ rs) t (inr x) = (x.0, judged_keep rs (rest (λ b. P b → ⊥) r rs t) x.1)

-- an answer such as no rule gives: all rules hold
pub finds_keep : {A : Type 0} {rules : List (Rule A)} {none a : A} (P : A → Type 0) → Answers (λ b. P b → ⊥) rules → P a → Finds rules none a → Keep rules
finds_keep {rules = rs} {none} P t p x = judged_keep P none p rs t x.judged

-- ---- two lists of rules, one tried after the other
module _ {A : Type 0} (none a : A) where
  judged_first : (other : A) (rs qs : List (Rule A)) → (a ≡ none → ⊥) → Judged rs none a → Judged (rs ++ qs) other a
  judged_first other [] qs n x = absurd (n x)
  judged_first other (r ∷ rs) qs n (inl x) = inl x
  judged_first other (r ∷ rs) qs n (inr x) = inr (x.0, judged_first other rs qs n x.1)

  judged_after : (rs qs : List (Rule A)) → Keep rs → Judged qs none a → Judged (rs ++ qs) none a
  judged_after [] qs k x = x
  judged_after (r ∷ rs) qs k x = inr (k.0, judged_after rs qs k.1 x)

-- what the first refuses is refused
pub finds_first : {A : Type 0} {rules : List (Rule A)} (more : List (Rule A)) {none other a : A} → (a ≡ none → ⊥) → Finds rules none a → Finds (rules ++ more) other a
finds_first {rules = rs} qs {none} {other} {a} n x = record { judged = judged_first none a other rs qs n x.judged }

-- where the first all hold, the others answer
pub finds_after : {A : Type 0} (before : List (Rule A)) {rules : List (Rule A)} {none a : A} → Keep before → Finds rules none a → Finds (before ++ rules) none a
finds_after rs {rules = qs} {none} {a} k x = record { judged = judged_after none a rs qs k x.judged }

judged_split : {A : Type 0} (none a : A) (rs qs : List (Rule A)) → Answers (λ b. b ≡ none → ⊥) rs → Judged (rs ++ qs) none a
    → (Judged rs none a × (a ≡ none → ⊥)) ⊎ (Keep rs × Judged qs none a)
judged_split none a [] qs t x = inr (tt, x)
judged_split none a (r ∷ rs) qs t (inl x) = inl (inl x, breaks_answers (λ b. b ≡ none → ⊥) r rs t x)
judged_split none a (r ∷ rs) qs t (inr x) =
    ⊎_elim
    (λ y. inl (inr (x.0, y.0), y.1))
    (λ y. inr ((x.0, y.0), y.1))
    (judged_split none a rs qs (rest (λ b. b ≡ none → ⊥) r rs t) x.1)

-- and so back: either the first refuse, or they hold and the others answer
pub finds_split : {A : Type 0} (before rules : List (Rule A)) {none a : A} → Answers (λ b. b ≡ none → ⊥) before → Finds (before ++ rules) none a
    → (Finds before none a × (a ≡ none → ⊥)) ⊎ (Keep before × Finds rules none a)
finds_split rs qs {none} {a} t x = ⊎_elim (λ y. inl (record { judged = y.0 }, y.1)) (λ y. inr (y.0, record { judged = y.1 })) (judged_split none a rs qs t x.judged)

-- ---- the answers read by g
judged_reads : {A B : Type 0} (g : A → B) (none a : A) (rs : List (Rule A)) → Judged rs none a → Judged (reads g rs) (g none) (g a)
judged_reads g none a [] x = ap g x
judged_reads g none a (once c P ∷ rs) (inl x) = inl (x.0, ap g x.1)
judged_reads g none a (once c P ∷ rs) (inr x) = inr (x.0, judged_reads g none a rs x.1)
judged_reads g none a (each f n P ∷ rs) (inl x) = inl (x.0, x.1, x.2, ap g x.3)
judged_reads g none a (each f n P ∷ rs) (inr x) = inr (x.0, judged_reads g none a rs x.1)

pub finds_reads : {A B : Type 0} (g : A → B) {rules : List (Rule A)} {none a : A} → Finds rules none a → Finds (reads g rules) (g none) (g a)
finds_reads g {rules = rs} {none} {a} x = record { judged = judged_reads g none a rs x.judged }

-- ---- a rule in its place
module _ {A : Type 0} (none a c : A) where
  judged_instead : (rs : List (Rule A)) (P Q : Type 0) (qs : List (Rule A)) → (Keep rs → P ↔ Q) → Judged (rs ++ once c P ∷ qs) none a → Judged (rs ++ once c Q ∷ qs) none a
  judged_instead [] P Q qs e (inl x) = inl (λ q. x.0 ((e tt).1 q), x.1)
  judged_instead [] P Q qs e (inr x) = inr ((e tt).0 x.0, x.1)
  judged_instead (r ∷ rs) P Q qs e (inl x) = inl x
  judged_instead (r ∷ rs) P Q qs e (inr x) = inr (x.0, judged_instead rs P Q qs (λ k. e (x.0, k)) x.1)

  module _ (qs : List (Rule A)) where
    judged_own : (own : List (Rule A)) → Answers (λ b. b ≡ none → ⊥) own → Judged own none c → Judged (once c (c ≡ none) ∷ qs) none a → Judged (own ++ qs) none a
    judged_own [] t x (inl y) = absurd (y.0 x)
    judged_own [] t x (inr y) = y.1
    judged_own (r ∷ own) t (inl x) (inl y) = inl (rw y.1 x)
    judged_own (r ∷ own) t (inl x) (inr y) = absurd (breaks_answers (λ b. b ≡ none → ⊥) r own t x y.0)
    judged_own (r ∷ own) t (inr x) y = inr (x.0, judged_own own (rest (λ b. b ≡ none → ⊥) r own t) x.1 y)

    judged_owned : (rs own : List (Rule A)) → Answers (λ b. b ≡ none → ⊥) own → Judged own none c → Judged (rs ++ once c (c ≡ none) ∷ qs) none a → Judged (rs ++ own ++ qs) none a
    judged_owned [] own t x y = judged_own own t x y
    judged_owned (r ∷ rs) own t x (inl y) = inl y
    judged_owned (r ∷ rs) own t x (inr y) = inr (y.0, judged_owned rs own t x y.1)

-- the question put in other words, which need be the same only where the rules before hold
pub finds_instead : {A : Type 0} (before : List (Rule A)) (c : A) (P Q : Type 0) (after : List (Rule A)) {none a : A} → (Keep before → P ↔ Q)
    → Finds (before ++ once c P ∷ after) none a → Finds (before ++ once c Q ∷ after) none a
finds_instead rs c P Q qs {none} {a} e x = record { judged = judged_instead none a c rs P Q qs e x.judged }

-- an answer from elsewhere, c, that was itself found by the rules `own`: they stand in its place
pub finds_own : {A : Type 0} (before own after : List (Rule A)) {none c a : A} → Answers (λ b. b ≡ none → ⊥) own → Finds own none c
    → Finds (before ++ once c (c ≡ none) ∷ after) none a → Finds (before ++ own ++ after) none a
finds_own rs own qs {none} {c} {a} t x y = record { judged = judged_owned none a c qs rs own t x.judged y.judged }
