-- The verdict on a record: its answers are as stored, built (0) or refused (1), or they differ (2).
-- They are held to the stored words one after the other, to the first that differs: the number, every slice of the build, the four lists of one site.
use Rattle.std.specs.Prelude.{◌≡◌, Bool, true, false, List, ℕ, eqb, ltb, length}
use Rattle.base.specs.common.Pick.{pick}
use Rattle.base.specs.common.Decide.{Says}
use Rattle.base.specs.numbers.Numbers.{refused_fan}
use Rattle.mesh.specs.Accepted.{Mesh}
use Rattle.admission.specs.Slices.{Slices}
use Rattle.voronoi.specs.Builds.{Build}
use Rattle.test_replay.specs.words.Words.{word_of, after_of}
use Rattle.test_replay.specs.words.Held.{BuildHeld, RefusedHeld, end_place, after_list_of}
use Rattle.test_replay.specs.Replayed.{box_of, Where, Then, ListsHeld}

-- a question that leaves the work slice as it was
pub record SaysKept (P : Type 0) (w w' : List ℕ) (r : Bool) : Type 0 where
  pub says : Says r P
  pub kept : w' ≡ w

-- after a build that left the slices s, from word k on; the site of the lists stands after the entries
module _ (m : Mesh) (b : List ℕ) (k : ℕ) (s : Slices) where
  abbrev pub AcceptedHeld : List ℕ → List ℕ → Bool → Type 0
  AcceptedHeld =
      Then (SaysKept (BuildHeld b k s.work s.vertices s.indexes s.offsets s.counts))
      (ListsHeld m b true s.offsets s.indexes (after_list_of b (end_place b k (length s.work))))

  -- after a refusal by this number; lists are stored only where the mesh was accepted
  abbrev pub RefusalHeld : ℕ → List ℕ → List ℕ → Bool → Type 0
  RefusalHeld number =
      Then (SaysKept (RefusedHeld number b s.work s.vertices s.indexes s.offsets s.counts))
      (Where (ltb refused_fan number) true (ListsHeld m b false s.offsets s.indexes k))

-- the number stands at word k, the rest from the next word on
abbrev pub AnswersHeld : Mesh → List ℕ → ℕ → ℕ → Slices → List ℕ → List ℕ → Bool → Type 0
AnswersHeld m b k number s =
    Then (SaysKept (number ≡ word_of b k)) (pick (eqb number 0) (λ _. AcceptedHeld m b (after_of k 1) s) (λ _. RefusalHeld m b (after_of k 1) s number))

unfoldable pub answers_verdict : ℕ → Bool → ℕ
answers_verdict number held = pick held (λ _. pick (eqb number 0) (λ _. 0) (λ _. 1)) (λ _. 2)

-- r is the verdict on the answers number and s, held to those stored from word k on; w' is the work slice at exit
pub record AnswersJudged (m : Mesh) (b : List ℕ) (k number : ℕ) (s : Slices) (w' : List ℕ) (r : ℕ) : Type 0 where
  pub held : Bool
  pub answers : AnswersHeld m b k number s s.work w' held
  pub verdict : r ≡ answers_verdict number held

-- r is the verdict on a build into the slices `old`, and on the lists asked for after it
pub record BuildReplayed (m : Mesh) (b : List ℕ) (k : ℕ) (old : Slices) (r : ℕ) : Type 0 where
  pub number : ℕ
  pub left : Slices
  pub build : Build m (box_of b) old left number
  pub work : List ℕ
  pub judged : AnswersJudged m b k number left work r
