-- A loop that writes a site's neighbours into a lent slice, a step at a time.
use Rattle.std.specs.Prelude.{◌≡◌, refl, List, ℕ, ◌+◌, ◌≤◌, ◌<◌, length, set, Bool, true, Option, Some, None}
use Rattle.base.specs.numbers.Numbers.{EMPTY}
use Rattle.mesh.specs.Mesh.{whole_of}
use Rattle.walks.specs.declared.neighbours.Cursor.{Cursor}
use Rattle.walks.specs.neighbours.Neighbours.{starts_of}
use Rattle.walks.specs.neighbours.Cursor.{Settled, cursor_from, step_of, is_end, CursorSettled}
use Rattle.walks.specs.neighbours.laws.Cursor.{neighbours_left, came_took, left_fresh}
use Rattle.walks.specs.neighbours.Fills.{Fills}
use Rattle.walks.specs.neighbours.laws.Fills.{Filling, filling_start, filling_step, filling_done, filling_more}

-- n of the whole list are written, and the cursor stands before the others
pub record NeighboursWritten (tri he whole old new : List ℕ) (c : Cursor) (n : ℕ) : Type 0 where
  pub filling : Filling whole (neighbours_left tri he c) old new n
  pub sound : CursorSettled he c

module _ (tri he old : List ℕ) (small : length he ≤ EMPTY) where
  pub handing_start : (s : ℕ) → Settled he s s → NeighboursWritten tri he (starts_of tri he (whole_of he s)) old old (cursor_from s) 0
  handing_start s ok = record { filling = rw (left_fresh tri he small s) (filling_start _ old); sound = ok }

  module _ {whole new : List ℕ} {c : Cursor} {n : ℕ} (g : NeighboursWritten tri he whole old new c n) where
    pub handing_site : (x : ℕ) (d : Cursor) → n < length old → Some (x, d) ≡ step_of tri he c → NeighboursWritten tri he whole old (set new n x) d (n + 1)
    handing_site x d l q =
        let t = came_took tri he small c g.sound (Some (x, d)) q in
        record { filling = filling_step g.filling x (neighbours_left tri he d) l t.0; sound = t.1 }

    pub handing_end : None ≡ step_of tri he c → Fills whole old new n true
    handing_end q = filling_done g.filling (came_took tri he small c g.sound None q)

    pub handing_full : length old ≤ n → (b : Bool) → b ≡ is_end (step_of tri he c) → Fills whole old new n b
    handing_full l b q = rw q (go (step_of tri he c) refl)
      where
        go : (r : Option (ℕ × Cursor)) → r ≡ step_of tri he c → Fills whole old new n (is_end r)
        go (Some p) e = filling_more g.filling p.0 (neighbours_left tri he p.1) l (came_took tri he small c g.sound (Some p) e).0
        go None e = handing_end e
