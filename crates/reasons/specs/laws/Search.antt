-- A search through the neighbours that are left at a cursor: site t stands among all of them exactly where it stands among what is left.
use Rattle.std.specs.Prelude.{◌≡◌, Bool, true, false, List, ◌∷◌, ◌≢◌, ℕ, ◌≤◌, ◌<◌, length, Option, Some, None}
use Rattle.std.proofs.Common.{sym, ap, ◌∙◌, subst, ⊎_elim, zero-add, arith, lt-ltb}
use Rattle.base.specs.common.Count.{occ}
use Rattle.base.specs.common.laws.Count.{same_cases}
use Rattle.base.specs.numbers.Numbers.{EMPTY}
use Rattle.mesh.specs.Mesh.{whole_of}
use Rattle.walks.specs.shared.Cells.{holds_of}
use Rattle.walks.specs.declared.neighbours.Cursor.{Cursor}
use Rattle.walks.specs.neighbours.Neighbours.{starts_of}
use Rattle.walks.specs.neighbours.Cursor.{Settled, cursor_from, step_of, CursorSettled}
use Rattle.walks.specs.neighbours.laws.Cursor.{neighbours_left, StepTakes, came_took, left_fresh}
use Rattle.queries.specs.clipped.Clipped.{clipped_of}
use Rattle.queries.specs.clipped.ClippedCursor.{clipped_left, ClippedTakes}
use Rattle.queries.specs.clipped.laws.ClippedCursor.{clipped_fresh}

-- ---- in a list with a head

pub holds_head : (t x : ℕ) (l : List ℕ) → x ≡ t → holds_of (x ∷ l) t ≡ true
holds_head t x l q = ⊎_elim (λ w. lt-ltb 0 (occ t (x ∷ l)) (omega (arith, w.1))) (λ w. absurd (w.0 (sym q))) (same_cases t x)

pub holds_tail : (t x : ℕ) (l : List ℕ) → x ≢ t → holds_of (x ∷ l) t ≡ holds_of l t
holds_tail t x l n = ⊎_elim (λ w. absurd (n (sym w.0))) (λ w. rw (w.1, zero-add)) (same_cases t x)

-- ---- all neighbours
pub record Seeks (tri he : List ℕ) (t : ℕ) (whole : List ℕ) (c : Cursor) : Type 0 where
  pub same : holds_of (neighbours_left tri he c) t ≡ holds_of whole t
  pub sound : CursorSettled he c

module _ (tri he : List ℕ) (small : length he ≤ EMPTY) (t : ℕ) where
  pub seeks_start : (s : ℕ) → Settled he s s → Seeks tri he t (starts_of tri he (whole_of he s)) (cursor_from s)
  seeks_start s ok = record { same = rw (left_fresh tri he small s); sound = ok }

  module _ {whole : List ℕ} {c : Cursor} (g : Seeks tri he t whole c) where
    module _ (x : ℕ) (d : Cursor) (q : Some (x, d) ≡ step_of tri he c) where
      taken : StepTakes tri he (neighbours_left tri he c) (Some (x, d))
      taken = came_took tri he small c g.sound (Some (x, d)) q

      pub seeks_found : x ≡ t → true ≡ holds_of whole t
      seeks_found e = sym (ap (λ (l : List ℕ). holds_of l t) taken.0 ∙ holds_head t x (neighbours_left tri he d) e) ∙ g.same

      pub seeks_step : x ≢ t → Seeks tri he t whole d
      seeks_step n = record {
        same = sym (ap (λ (l : List ℕ). holds_of l t) taken.0 ∙ holds_tail t x (neighbours_left tri he d) n) ∙ g.same;
        sound = taken.1;
      }

      pub seeks_less : length (neighbours_left tri he d) < length (neighbours_left tri he c)
      seeks_less = omega (arith, ap length taken.0)

    pub seeks_none : None ≡ step_of tri he c → false ≡ holds_of whole t
    seeks_none q = sym (ap (λ (l : List ℕ). holds_of l t) (came_took tri he small c g.sound None q)) ∙ g.same

-- ---- those that stay after clipping
pub record SeeksStaying (tri he : List ℕ) (keeps : ℕ → Bool) (t : ℕ) (whole : List ℕ) (c : Cursor) : Type 0 where
  pub same : holds_of (clipped_left tri he keeps c) t ≡ holds_of whole t
  pub sound : CursorSettled he c

module _ (tri he : List ℕ) (keeps : ℕ → Bool) (t : ℕ) where
  pub staying_start : length he ≤ EMPTY → (s : ℕ) → Settled he s s → SeeksStaying tri he keeps t (clipped_of tri he keeps (whole_of he s)) (cursor_from s)
  staying_start small s ok = record { same = rw (clipped_fresh tri he keeps small s); sound = ok }

  module _ {whole : List ℕ} {c : Cursor} (g : SeeksStaying tri he keeps t whole c) (r : Option (ℕ × Cursor)) (u : ClippedTakes tri he keeps (clipped_left tri he keeps c) r) where
    module _ (x : ℕ) (d : Cursor) (q : r ≡ Some (x, d)) where
      told : ClippedTakes tri he keeps (clipped_left tri he keeps c) (Some (x, d))
      told = subst (ClippedTakes tri he keeps (clipped_left tri he keeps c)) q u

      pub staying_found : x ≡ t → true ≡ holds_of whole t
      staying_found e = sym (ap (λ (l : List ℕ). holds_of l t) told.0 ∙ holds_head t x (clipped_left tri he keeps d) e) ∙ g.same

      pub staying_step : x ≢ t → SeeksStaying tri he keeps t whole d
      staying_step n = record {
        same = sym (ap (λ (l : List ℕ). holds_of l t) told.0 ∙ holds_tail t x (clipped_left tri he keeps d) n) ∙ g.same;
        sound = told.1;
      }

      pub staying_less : length (clipped_left tri he keeps d) < length (clipped_left tri he keeps c)
      staying_less = omega (arith, ap length told.0)

    pub staying_none : r ≡ None → false ≡ holds_of whole t
    staying_none q = sym (ap (λ (l : List ℕ). holds_of l t) (subst (ClippedTakes tri he keeps (clipped_left tri he keeps c)) q u)) ∙ g.same
