-- A step over the clipped neighbours: how the neighbour that comes is judged, and what is left of them at a cursor.
use Rattle.std.specs.Prelude.{◌≡◌, List, [], ◌∷◌, Bool, ℕ, ltb, eqb, length, Option, Some, None}
use Rattle.base.specs.common.Pick.{pick}
use Rattle.base.specs.numbers.Numbers.{EMPTY}
use Rattle.mesh.specs.Mesh.{pair_of}
use Rattle.walks.specs.declared.neighbours.Cursor.{Cursor}
use Rattle.walks.specs.neighbours.Cursor.{rest_of, CursorSettled}
use Rattle.queries.specs.declared.clipped.Judgement.{Judgement}
use Rattle.queries.specs.declared.clipped.Judgement.TheVariants.{Counts, Dropped, Ends}
use Rattle.queries.specs.clipped.Clipped.{clipped_from, clipped_of}

-- a neighbour that comes: `passed` was the walk's last half-edge before, `last` is now; the first of a hull site and the last end count if kept
unfoldable pub judge_of : List ℕ → Bool → ℕ → ℕ → Judgement
judge_of he keep passed last =
    pick (ltb last (length he)) (λ _.
    pick (ltb passed (length he)) (λ _. Counts) (λ _.
    pick (eqb (pair_of he last) EMPTY) (λ _. pick keep (λ _. Counts) (λ _. Dropped)) (λ _. Counts)))
    (λ _. pick keep (λ _. Counts) (λ _. Ends))

module _ (tri he : List ℕ) (keeps : ℕ → Bool) where
  -- what is left of the clipped neighbours
  unfoldable pub clipped_left : Cursor → List ℕ
  clipped_left c =
      pick (ltb c.last (length he)) (λ _. clipped_from tri he keeps c.last (rest_of he c.start c.next)) (λ _. clipped_of tri he keeps (rest_of he c.start c.next))

  -- what a step tells of what is left
  abbrev pub ClippedTakes : List ℕ → Option (ℕ × Cursor) → Type 0
  ClippedTakes left (Some p) = (left ≡ p.0 ∷ clipped_left p.1) × CursorSettled he p.1
  ClippedTakes left None = left ≡ []
