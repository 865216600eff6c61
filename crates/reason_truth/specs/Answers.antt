-- Theorem: an answer to what was asked is true, and it is the only one: no fault is said exactly where nothing was asked, the cell is not empty, the second site
-- is no neighbour of the first, or it is still listed.
use Rattle.std.specs.Prelude.{◌≡◌, Bool, List, [], ◌≢◌, ℕ, ◌≤◌, ◌<◌}
use Rattle.std.proofs.Math.Path.{refl}
use Rattle.std.proofs.Math.Bool.{true, false}
use Rattle.std.proofs.Math.Logic.{⊎_elim}
use Rattle.std.proofs.Common.{arith}
use borrow.Author.Tests.{lt-ltb, le-ltb, ltb-true}
use Rattle.base.specs.common.Count.{occ}
use Rattle.base.specs.common.Pick.{pick}
use Rattle.base.specs.common.laws.Decide.{lt_or_ge}
use Rattle.mesh.specs.Mesh.{Used}
use Rattle.mesh.specs.laws.Occurs.{occ_there}
use Rattle.walks.specs.shared.Cells.{holds_of, shared_of}
use Rattle.walks.specs.neighbours.Neighbours.{neighbours_of}
use Rattle.reasons.specs.declared.Question.{Question}
use Rattle.reasons.specs.declared.Question.TheVariants.{Nothing, About, Between}
use Rattle.reasons.specs.declared.Reason.{Reason}
use Rattle.reasons.specs.declared.Reason.TheVariants.{NoFault, Unused, TriesEmpty, Dropped}
use Rattle.reasons.specs.Answer.{is_none, empty_answer, dropped_answer, staying, answer_to}
use Rattle.reasons.specs.laws.Answer.{place_of, dropped_few}
use Rattle.reason_truth.specs.laws.Nothing.{is_none_lem, is_some, none_is, some_is, holds_none}

-- what each answer says, of the triangles, the neighbours and the cell of each site
pub data AnswerTrue (tri he table : List ℕ) (cell : ℕ → List ℕ) : Question → Reason → Type 0 where
  nothing_asked : AnswerTrue tri he table cell Nothing NoFault
  cell_there : {s : ℕ} → cell s ≢ [] → AnswerTrue tri he table cell (About s) NoFault
  in_no_triangle : {s : ℕ} → cell s ≡ [] → (Used tri s → ⊥) → AnswerTrue tri he table cell (About s) (Unused s)
  in_use : {s : ℕ} → cell s ≡ [] → Used tri s → AnswerTrue tri he table cell (About s) (TriesEmpty s)
  no_neighbour : {s t : ℕ} → occ t (neighbours_of tri he table s) ≡ 0 → AnswerTrue tri he table cell (Between s t) NoFault
  still_listed : {s t : ℕ} → 0 < occ t (neighbours_of tri he table s) → 0 < occ t (staying tri he table cell s) → AnswerTrue tri he table cell (Between s t) NoFault
  gone : {s t : ℕ} → 0 < occ t (neighbours_of tri he table s) → occ t (staying tri he table cell s) ≡ 0 → shared_of (cell s) (cell t) < 2
      → AnswerTrue tri he table cell (Between s t) (Dropped s t (shared_of (cell s) (cell t)))

module _ (tri he table : List ℕ) (cell : ℕ → List ℕ) where
  pub answer_true : (q : Question) → AnswerTrue tri he table cell q (answer_to tri he table cell q)
  unfolding empty_answer dropped_answer
  answer_true Nothing = nothing_asked
  answer_true (About s) = go (is_none (cell s)) (holds_of tri s) refl refl
    where
      go : (a b : Bool) → is_none (cell s) ≡ a → holds_of tri s ≡ b
          → AnswerTrue tri he table cell (About s) (pick a (λ _. pick b (λ _. TriesEmpty s) (λ _. Unused s)) (λ _. NoFault))
      go true true p q = in_use (is_none_lem (cell s) p) (place_of s tri (ltb-true 0 (occ s tri) q))
      go true false p q = in_no_triangle (is_none_lem (cell s) p) (λ (k, l, e). omega (arith, holds_none s tri q, rw e at (occ_there tri k l)))
      go false b p q = cell_there (is_some (cell s) p)
  answer_true (Between s t) = go (holds_of (neighbours_of tri he table s) t) (holds_of (staying tri he table cell s) t) refl refl
    where
      go : (a b : Bool) → holds_of (neighbours_of tri he table s) t ≡ a → holds_of (staying tri he table cell s) t ≡ b
          → AnswerTrue tri he table cell (Between s t) (pick a (λ _. pick b (λ _. NoFault) (λ _. Dropped s t (shared_of (cell s) (cell t)))) (λ _. NoFault))
      go true true p q = still_listed (ltb-true 0 _ p) (ltb-true 0 _ q)
      go true false p q = gone (ltb-true 0 _ p) (holds_none t (staying tri he table cell s) q) (dropped_few tri he table cell s t p q)
      go false b p q = no_neighbour (holds_none t (neighbours_of tri he table s) p)

  -- and so there is one
  pub true_answer : {q : Question} {r : Reason} → AnswerTrue tri he table cell q r → r ≡ answer_to tri he table cell q
  unfolding empty_answer dropped_answer
  true_answer nothing_asked = refl
  true_answer (cell_there {s} n) = rw (some_is (cell s) n)
  true_answer (in_no_triangle {s} e n) = rw (none_is (cell s) e, le-ltb 0 (occ s tri) (none_there s n))
    where
      none_there : (s : ℕ) → (Used tri s → ⊥) → occ s tri ≤ 0
      none_there s n = ⊎_elim (λ l. absurd (n (place_of s tri l))) (λ l. l) (lt_or_ge 0 (occ s tri))
  true_answer (in_use {s} e (k, l, p)) = rw (none_is (cell s) e, lt-ltb 0 (occ s tri) (rw p at (occ_there tri k l)))
  true_answer (no_neighbour {s} {t} z) = rw (le-ltb 0 (occ t (neighbours_of tri he table s)) (omega arith))
  true_answer (still_listed {s} {t} n l) = rw (lt-ltb 0 (occ t (neighbours_of tri he table s)) n, lt-ltb 0 (occ t (staying tri he table cell s)) l)
  true_answer (gone {s} {t} n z f) = rw (lt-ltb 0 (occ t (neighbours_of tri he table s)) n, le-ltb 0 (occ t (staying tri he table cell s)) (omega arith))
