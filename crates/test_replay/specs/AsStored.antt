-- Theorem: a record is counted as built or as refused only where its answers are as stored: the number, every slice of the build, the lists.
use Rattle.std.specs.Prelude.{◌≡◌, Bool, List, ◌≢◌, ℕ, ◌<◌, eqb, length}
use Rattle.std.proofs.Math.Path.{refl}
use Rattle.std.proofs.Common.{sym, subst, arith, eqb-true, lt-ltb}
use Rattle.std.proofs.Math.Bool.{true, false}
use Rattle.std.proofs.lemmas.Bool.{eqb-false}
use Rattle.base.specs.common.Pick.{pick}
use Rattle.base.specs.numbers.Numbers.{refused_fan}
use Rattle.mesh.specs.Accepted.{Mesh}
use Rattle.admission.specs.Slices.{Slices}
use Rattle.test_replay.specs.words.Words.{word_of, after_of}
use Rattle.test_replay.specs.words.Held.{BuildHeld, RefusedHeld, end_place, after_list_of}
use Rattle.test_replay.specs.Replayed.{Then, ListsHeld}
use Rattle.test_replay.specs.Judged.{SaysKept, AcceptedHeld, RefusalHeld, AnswersHeld, answers_verdict, AnswersJudged}

-- where the answer to one question and the next is yes, so is each
both : {P : Type 0} {Next : List ℕ → List ℕ → Bool → Type 0} {w w' : List ℕ} → Then (SaysKept P) Next w w' true → P × Next w w' true
both {P} {Next} {w} {w'} t = by t.told t.asked t.next.asked t.next.passed
  where
    by : (b : Bool) → SaysKept P w t.between b → (b ≡ true → Next t.between w' true) → (b ≡ false → (true ≡ false) × (w' ≡ t.between)) → P × Next w w' true
    by true a n p = (a.says, subst (λ v. Next v w' true) a.kept (n refl))
    by false a n p = let f = (p refl).0 in let z : ◌≡◌ {A = ℕ} 0 1 = cc in absurd (omega arith)

module _ (m : Mesh) (b : List ℕ) (k number : ℕ) (s : Slices) (w' : List ℕ) where
  pub record BuiltAsStored : Type 0 where
    pub accepted : number ≡ 0
    pub same : number ≡ word_of b k
    pub slices : BuildHeld b (after_of k 1) s.work s.vertices s.indexes s.offsets s.counts
    pub lists : ListsHeld m b true s.offsets s.indexes (after_list_of b (end_place b (after_of k 1) (length s.work))) s.work w' true

  pub record RefusedAsStored : Type 0 where
    pub refusal : number ≢ 0
    pub same : number ≡ word_of b k
    pub slices : RefusedHeld number b s.work s.vertices s.indexes s.offsets s.counts
    pub lists : refused_fan < number → ListsHeld m b false s.offsets s.indexes (after_of k 1) s.work w' true

  abbrev Rest : Bool → Type 0
  Rest t = pick t (λ _. AcceptedHeld m b (after_of k 1) s) (λ _. RefusalHeld m b (after_of k 1) s number) s.work w' true

  built_rest : (t : Bool) → eqb number 0 ≡ t → number ≡ word_of b k → Rest t → pick {A = ℕ} t (λ _. 0) (λ _. 1) ≡ 0 → BuiltAsStored
  built_rest true e q r z = let a = both r in record { accepted = eqb-true number 0 e; same = q; slices = a.0; lists = a.1 }
  built_rest false e q r z = absurd (omega arith)

  refused_rest_lem : (t : Bool) → eqb number 0 ≡ t → number ≡ word_of b k → Rest t → pick {A = ℕ} t (λ _. 0) (λ _. 1) ≡ 1 → RefusedAsStored
  refused_rest_lem true e q r z = absurd (omega arith)
  refused_rest_lem false e q r z =
      let a = both r in
      record { refusal = eqb-false number 0 e; same = q; slices = a.0; lists = λ l. a.1.asked (lt-ltb refused_fan number l) }

  pub built_as_stored : AnswersJudged m b k number s w' 0 → BuiltAsStored
  unfolding answers_verdict
  built_as_stored j = by j.held j.answers (sym j.verdict)
    where
      by : (h : Bool) → AnswersHeld m b k number s s.work w' h → answers_verdict number h ≡ 0 → BuiltAsStored
      by true a e = let t = both a in built_rest (eqb number 0) refl t.0 t.1 e
      by false a e = absurd (omega arith)

  pub refused_as_stored : AnswersJudged m b k number s w' 1 → RefusedAsStored
  unfolding answers_verdict
  refused_as_stored j = by j.held j.answers (sym j.verdict)
    where
      by : (h : Bool) → AnswersHeld m b k number s s.work w' h → answers_verdict number h ≡ 1 → RefusedAsStored
      by true a e = let t = both a in refused_rest_lem (eqb number 0) refl t.0 t.1 e
      by false a e = absurd (omega arith)
