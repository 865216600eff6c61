-- What was asked of a mesh that builds, by its triangles, its leftmost table and the cell of each site. Definitions only.
use Rattle.std.specs.Prelude.{◌≡◌, Bool, true, false, List, [], ◌∷◌, ℕ, ◌+◌, ◌<◌, leb, length, get_or}
use Rattle.base.specs.common.Pick.{pick}
use Rattle.mesh.specs.Mesh.{leftmost_of, whole_of}
use Rattle.mesh.specs.Accepted.{Topology}
use Rattle.walks.specs.shared.Cells.{Cells, holds_of, shared_of}
use Rattle.walks.specs.neighbours.Neighbours.{neighbours_of}
use Rattle.queries.specs.clipped.Clipped.{clipped_of}
use Rattle.reasons.specs.declared.Question.{Question}
use Rattle.reasons.specs.declared.Question.TheVariants.{Nothing, About, Between}
use Rattle.reasons.specs.declared.Reason.{Reason}
use Rattle.reasons.specs.declared.Reason.TheVariants.{NoFault, Unused, TriesEmpty, Dropped}

abbrev pub is_none : List ℕ → Bool
is_none [] = true
is_none (x ∷ l) = false

-- by whether the cell of site s is empty, and whether a triangle names s
unfoldable pub empty_answer : ℕ → Bool → Bool → Reason
empty_answer s empty used = pick empty (λ _. pick used (λ _. TriesEmpty s) (λ _. Unused s)) (λ _. NoFault)

-- by whether site t is a neighbour of site s, and whether it still is after clipping; k entries are shared
unfoldable pub dropped_answer : ℕ → ℕ → ℕ → Bool → Bool → Reason
dropped_answer s t k neighbour stays = pick neighbour (λ _. pick stays (λ _. NoFault) (λ _. Dropped s t k)) (λ _. NoFault)

module _ (tri he table : List ℕ) (cell : ℕ → List ℕ) where
  -- the neighbours of site s after clipping: two cells share an edge where at least two entries of the first stand in the second
  abbrev pub staying : ℕ → List ℕ
  staying s = clipped_of tri he (λ t. leb 2 (shared_of (cell s) (cell t))) (whole_of he (get_or table s 0))

  abbrev pub answer_to : Question → Reason
  answer_to Nothing = NoFault
  answer_to (About s) = empty_answer s (is_none (cell s)) (holds_of tri s)
  answer_to (Between s t) = dropped_answer s t (shared_of (cell s) (cell t)) (holds_of (neighbours_of tri he table s) t) (holds_of (staying s) t)

-- what an answer needs: an accepted mesh with its leftmost table, and its cells, cut from ix by off
pub record Askable (tri he table off ix : List ℕ) : Type 0 where
  pub hull : List ℕ
  pub n : ℕ
  pub mesh : Topology tri he hull n
  pub table_is : table ≡ leftmost_of tri he n
  pub many : length off ≡ n + 1
  pub cut : Cells off (length ix)

-- the sites asked about are below n
abbrev pub SitesBelow : ℕ → Question → Type 0
SitesBelow n Nothing = Unit {0}
SitesBelow n (About s) = s < n
SitesBelow n (Between s t) = (s < n) × (t < n)
