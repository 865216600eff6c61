-- A loop that writes a site's neighbours after clipping into a lent slice, a step at a time.
use Rattle.std.specs.Prelude.{◌≡◌, Bool, true, List, ℕ, ◌+◌, ◌≤◌, ◌<◌, eqb, length, set, Option, Some, None}
use Rattle.std.proofs.Common.{sym, ap, subst, arith, eq-eqb, ne_eqb}
use Rattle.base.specs.numbers.Numbers.{EMPTY}
use Rattle.mesh.specs.Mesh.{whole_of}
use Rattle.walks.specs.declared.neighbours.Cursor.{Cursor}
use Rattle.walks.specs.neighbours.Cursor.{Settled, cursor_from, is_end, CursorSettled}
use Rattle.walks.specs.neighbours.Fills.{Fills}
use Rattle.walks.specs.neighbours.laws.Fills.{Filling, filling_start, filling_step, filling_done, filling_full}
use Rattle.queries.specs.clipped.Clipped.{clipped_of}
use Rattle.queries.specs.clipped.ClippedCursor.{clipped_left, ClippedTakes}
use Rattle.queries.specs.clipped.laws.ClippedCursor.{clipped_fresh}

-- n of the whole list are written, and the cursor stands before the others
pub record ClippedWritten (tri he : List ℕ) (keeps : ℕ → Bool) (whole old new : List ℕ) (c : Cursor) (n : ℕ) : Type 0 where
  pub filling : Filling whole (clipped_left tri he keeps c) old new n
  pub sound : CursorSettled he c

-- a step tells whether any is left
pub step_over : (tri he : List ℕ) (keeps : ℕ → Bool) (c : Cursor) (r : Option (ℕ × Cursor)) → ClippedTakes tri he keeps (clipped_left tri he keeps c) r
    → is_end r ≡ eqb (length (clipped_left tri he keeps c)) 0
step_over tri he keeps c (Some p) t = sym (ne_eqb (length (clipped_left tri he keeps c)) 0 (λ z. omega (arith, ap length t.0)))
step_over tri he keeps c None t = sym (eq-eqb (length (clipped_left tri he keeps c)) 0 (ap length t))

module _ (tri he old : List ℕ) (keeps : ℕ → Bool) where
  pub handing_start : length he ≤ EMPTY → (s : ℕ) → Settled he s s → ClippedWritten tri he keeps (clipped_of tri he keeps (whole_of he s)) old old (cursor_from s) 0
  handing_start small s ok = record { filling = rw (clipped_fresh tri he keeps small s) (filling_start _ old); sound = ok }

  module _ {whole new : List ℕ} {c : Cursor} {n : ℕ} (g : ClippedWritten tri he keeps whole old new c n) (r : Option (ℕ × Cursor)) (t : ClippedTakes tri he keeps (clipped_left tri he keeps c) r) where
    pub handing_site : (x : ℕ) (d : Cursor) → n < length old → r ≡ Some (x, d) → ClippedWritten tri he keeps whole old (set new n x) d (n + 1)
    handing_site x d l q =
        let u = subst (ClippedTakes tri he keeps (clipped_left tri he keeps c)) q t in
        record { filling = filling_step g.filling x (clipped_left tri he keeps d) l u.0; sound = u.1 }

    pub handing_end : r ≡ None → Fills whole old new n true
    handing_end q = filling_done g.filling (subst (ClippedTakes tri he keeps (clipped_left tri he keeps c)) q t)

  pub handing_full : {whole new : List ℕ} {c : Cursor} {n : ℕ} → ClippedWritten tri he keeps whole old new c n → length old ≤ n → (b : Bool)
      → b ≡ eqb (length (clipped_left tri he keeps c)) 0 → Fills whole old new n b
  handing_full g l b q = filling_full g.filling b l q
