-- The cursor over a site's neighbours, and its step.
use Rattle.std.specs.Prelude.{◌≡◌, List, ℕ, suc, length, Bool, true, false, ltb, eqb, Option, Some, None}
use Rattle.mesh.specs.Mesh.{turn_of, walk_of, next_of, start_of, end_of, around}
use Rattle.base.specs.common.Pick.{pick}
use Rattle.base.specs.numbers.Numbers.{EMPTY}
use Rattle.walks.specs.declared.neighbours.Cursor.{Cursor}

-- the walk that began at s, from e on
abbrev pub rest_of : List ℕ → ℕ → ℕ → List ℕ
rest_of he s e = walk_of he s (length he) e

-- it ends by its own rule: one more step of fuel changes nothing
abbrev pub Settled : List ℕ → ℕ → ℕ → Type 0
Settled he s e = walk_of he s (suc (length he)) e ≡ rest_of he s e

abbrev pub cursor : ℕ → ℕ → ℕ → Cursor
cursor s e l = record { start = s; next = e; last = l }

-- before the first half-edge of the walk from s
abbrev pub cursor_from : ℕ → Cursor
cursor_from s = cursor s s EMPTY

-- after the walk's last half-edge: on the hull its end comes too
unfoldable pub last_step : List ℕ → List ℕ → ℕ → ℕ → Option (ℕ × Cursor)
last_step tri he s e = pick (eqb (around he e) EMPTY) (λ _. Some (end_of tri (next_of e), cursor s EMPTY EMPTY)) (λ _. None)

-- the next neighbour, and the cursor past it
unfoldable pub step_of : List ℕ → List ℕ → Cursor → Option (ℕ × Cursor)
step_of tri he c =
    pick (ltb c.next (length he)) (λ _. Some (start_of tri c.next, cursor c.start (turn_of he c.start c.next) c.next)) (λ _.
    pick (ltb c.last (length he)) (λ _. last_step tri he c.start c.last) (λ _. None))

abbrev pub is_end : Option (ℕ × Cursor) → Bool
is_end (Some p) = false
is_end None = true

-- the cursor's walk ends by its own rule
abbrev pub CursorSettled : List ℕ → Cursor → Type 0
CursorSettled he c = Settled he c.start c.next
