-- What a replay asks of the public calls and holds to the stored words: the box of the build, and the four lists of one site.
-- A promise says that there is an answer that the call's own promise allows, and what is told of it; w is the work slice, w' the work slice at exit.
use Rattle.std.specs.Prelude.{◌≡◌, Bool, true, false, List, ℕ, replicate}
use Rattle.base.specs.common.Decide.{Says}
use Rattle.plane.specs.points.Plane.{at}
use Rattle.plane.specs.declared.points.Point.{Point}
use Rattle.plane.specs.declared.given.Given.{Given}
use Rattle.plane.specs.given.Given.{by_size}
use Rattle.mesh.specs.Accepted.{Mesh}
use Rattle.voronoi.specs.Walks.{Walk, Neighbours, ClippedNeighbours, Path}
use Rattle.test_replay.specs.words.Words.{word_of, after_of, pattern_of, float_of}
use Rattle.test_replay.specs.words.Held.{ListHeld, after_list_of}

-- the box stored from word 5 on: center, width, height
unfoldable pub box_of : List ℕ → Given
box_of b = by_size (at (float_of (pattern_of b 5)) (float_of (pattern_of b 7))) (float_of (pattern_of b 9)) (float_of (pattern_of b 11))

-- what a call wrote to 128 places of 7, held to the list stored from word q on
pub record AnswerHeld (Call : List ℕ → List ℕ → List ℕ → ℕ → ℕ → ℕ → Type 0) (b : List ℕ) (q : ℕ) (w' : List ℕ) (r : Bool) : Type 0 where
  pub out : List ℕ
  pub count : ℕ
  pub ended : ℕ
  pub number : ℕ
  pub answer : Call w' (replicate 128 7) out count ended number
  pub says : Says r (ListHeld out b q number count ended)

-- asked where t; else the answer is `other` and the slice as it was
pub record Where (t other : Bool) (Ask : List ℕ → List ℕ → Bool → Type 0) (w w' : List ℕ) (r : Bool) : Type 0 where
  pub asked : t ≡ true → Ask w w' r
  pub passed : t ≡ false → (r ≡ other) × (w' ≡ w)

-- one question, then the next where the answer was yes; else the answer is no
pub record Then (Ask Next : List ℕ → List ℕ → Bool → Type 0) (w w' : List ℕ) (r : Bool) : Type 0 where
  pub between : List ℕ
  pub told : Bool
  pub asked : Ask w between told
  pub next : Where told false Next between w' r

-- of site s, each held to the list stored from word q on
module _ (m : Mesh) (b : List ℕ) (q s : ℕ) where
  abbrev pub WalkHeld : List ℕ → List ℕ → Bool → Type 0
  WalkHeld w = AnswerHeld (Walk m s w) b q

  abbrev pub NeighboursHeld : List ℕ → List ℕ → Bool → Type 0
  NeighboursHeld w = AnswerHeld (Neighbours m s w) b q

  -- asked only where the build was accepted
  abbrev pub ClippedHeld : Bool → List ℕ → List ℕ → List ℕ → List ℕ → Bool → Type 0
  ClippedHeld built off ix = Where built true (λ w. AnswerHeld (ClippedNeighbours m off ix s w) b q)

  abbrev pub PathHeld : Point → List ℕ → List ℕ → Bool → Type 0
  PathHeld p w = AnswerHeld (Path m s p w) b q

module _ (m : Mesh) (b : List ℕ) (built : Bool) (off ix : List ℕ) where
  -- the four lists in turn, stored from these words on
  abbrev pub FourHeld : ℕ → Point → ℕ → ℕ → ℕ → ℕ → List ℕ → List ℕ → Bool → Type 0
  FourHeld s p first second third fourth =
      Then (WalkHeld m b first s) (Then (NeighboursHeld m b second s) (Then (ClippedHeld m b third s built off ix) (PathHeld m b fourth s p)))

  -- of the site stored at word q, to the point stored after it
  unfoldable pub ListsHeld : ℕ → List ℕ → List ℕ → Bool → Type 0
  ListsHeld q =
      FourHeld (word_of b q) (at (float_of (pattern_of b (after_of q 1))) (float_of (pattern_of b (after_of q 3)))) (after_of q 5)
      (after_list_of b (after_of q 5)) (after_list_of b (after_list_of b (after_of q 5)))
      (after_list_of b (after_list_of b (after_list_of b (after_of q 5))))
