-- The verdict at each end of `judge`: what was asked so far, and how it ended.
use Rattle.std.specs.Prelude.{◌≡◌, Bool, not, List, ◌≢◌, ℕ, ◌≤◌, ◌<◌, length}
use Rattle.std.proofs.Math.Path.{refl, sym}
use Rattle.std.proofs.Common.{ap, subst, ◌∙◌, eq-eqb, ne_eqb, lt-ltb, le-ltb}
use Rattle.std.proofs.Math.Bool.{true, false}
use Rattle.base.specs.common.Pick.{pick}
use Rattle.base.specs.common.Decide.{Says}
use Rattle.base.specs.numbers.Numbers.{refused_fan}
use Rattle.mesh.specs.Accepted.{Mesh}
use Rattle.admission.specs.Slices.{Slices}
use Rattle.test_replay.specs.words.Words.{word_of, after_of}
use Rattle.test_replay.specs.words.Held.{BuildHeld, RefusedHeld, end_place, after_list_of}
use Rattle.test_replay.specs.Replayed.{ListsHeld}
use Rattle.test_replay.specs.Judged.{SaysKept, AcceptedHeld, RefusalHeld, answers_verdict, AnswersJudged}
use Rattle.test_replay.specs.laws.Replayed.{where_asked, where_passed, then_stops, then_next}

module _ (m : Mesh) (b : List ℕ) (k number : ℕ) (s : Slices) where
  told : (P : Type 0) (t : Bool) → Says t P → SaysKept P s.work s.work t
  told P t a = record { says = a; kept = refl }

  abbrev IsBuilt : Type 0
  IsBuilt = BuildHeld b (after_of k 1) s.work s.vertices s.indexes s.offsets s.counts

  abbrev IsRefused : Type 0
  IsRefused = RefusedHeld number b s.work s.vertices s.indexes s.offsets s.counts

  pub other_number : (x : ℕ) → x ≡ word_of b k → number ≢ x → AnswersJudged m b k number s s.work 2
  unfolding answers_verdict
  other_number x p d = record {
    held = false;
    answers = then_stops s.work false (told (number ≡ word_of b k) false (λ e. d (e ∙ sym p))) refl;
    verdict = refl;
  }

  -- ---- the number is as stored
  module _ (x : ℕ) (p : x ≡ word_of b k) (same : number ≡ x) where
    accepted_next : {w' : List ℕ} (held : Bool) → number ≡ 0 → AcceptedHeld m b (after_of k 1) s s.work w' held
        → AnswersJudged m b k number s w' (pick held (λ _. 0) (λ _. 2))
    unfolding answers_verdict
    accepted_next {w'} held z a = record {
      held = held;
      answers = then_next s.work true (told (number ≡ word_of b k) true (same ∙ p)) refl (rw (eq-eqb number 0 z) a);
      verdict = rw (eq-eqb number 0 z) refl;
    }

    refusal_next : {w' : List ℕ} (held : Bool) → number ≢ 0 → RefusalHeld m b (after_of k 1) s number s.work w' held
        → AnswersJudged m b k number s w' (pick held (λ _. 1) (λ _. 2))
    unfolding answers_verdict
    refusal_next {w'} held z a = record {
      held = held;
      answers = then_next s.work true (told (number ≡ word_of b k) true (same ∙ p)) refl (rw (ne_eqb number 0 z) a);
      verdict = rw (ne_eqb number 0 z) refl;
    }

    module _ (from : ℕ) (place : from ≡ after_of k 1) (z : number ≡ 0) (t : Bool)
        (told-so : Says t (BuildHeld b from s.work s.vertices s.indexes s.offsets s.counts)) where
      is_built : Says t IsBuilt
      is_built = subst (λ a. Says t (BuildHeld b a s.work s.vertices s.indexes s.offsets s.counts)) place told-so

      pub build_differs : not t ≡ true → AnswersJudged m b k number s s.work 2
      build_differs n = accepted_next false z (then_stops s.work t (told IsBuilt t is_built) n)

      pub build_lists : {w' : List ℕ} (last q : ℕ) (l held : Bool) → not t ≡ false → last ≡ end_place b from (length s.work) → q ≡ after_list_of b last
          → ListsHeld m b true s.offsets s.indexes q s.work w' l → l ≡ held → AnswersJudged m b k number s w' (pick held (λ _. 0) (λ _. 2))
      build_lists {w'} last q l held n pl pq a e =
          let at = pq ∙ ap (after_list_of b) pl ∙ ap (λ c. after_list_of b (end_place b c (length s.work))) place in
          accepted_next held z
          (then_next s.work t (told IsBuilt t is_built) n
          (subst (λ c. ListsHeld m b true s.offsets s.indexes c s.work w' held) at
          (subst (λ c. ListsHeld m b true s.offsets s.indexes q s.work w' c) e a)))

    module _ (z : number ≢ 0) (t : Bool) (told-so : Says t IsRefused) where
      pub refusal_differs : not t ≡ true → AnswersJudged m b k number s s.work 2
      refusal_differs n = refusal_next false z (then_stops s.work t (told IsRefused t told-so) n)

      pub refusal_early : not t ≡ false → number ≤ refused_fan → AnswersJudged m b k number s s.work 1
      refusal_early n h =
          refusal_next true z
          (then_next s.work t (told IsRefused t told-so) n (where_passed _ (rw (le-ltb refused_fan number h) refl)))

      pub refusal_lists : {w' : List ℕ} (from : ℕ) (l held : Bool) → not t ≡ false → refused_fan < number → from ≡ after_of k 1
          → ListsHeld m b false s.offsets s.indexes from s.work w' l → l ≡ held → AnswersJudged m b k number s w' (pick held (λ _. 1) (λ _. 2))
      refusal_lists {w'} from l held n h place a e =
          refusal_next held z
          (then_next s.work t (told IsRefused t told-so) n
          (where_asked _ (rw (lt-ltb refused_fan number h) refl)
          (subst (λ c. ListsHeld m b false s.offsets s.indexes c s.work w' held) place
          (subst (λ c. ListsHeld m b false s.offsets s.indexes from s.work w' c) e a))))
