-- Whether a half-edge is due, by what the table holds of its site.
use Rattle.std.specs.Prelude.{◌≡◌, true, false, List, ℕ, ◌+◌, ◌*◌, ◌/◌, ◌≤◌, ◌<◌, eqb, length, get_or}
use Rattle.std.proofs.Common.{ap, ◌∙◌, inl, inr, ⊎_elim, arith}
use borrow.Author.Tests.{le-leb, lt-leb}
use Rattle.base.specs.common.laws.Decide.{lt_or_ge}
use Rattle.base.specs.numbers.Numbers.{EMPTY}
use Rattle.mesh.specs.Mesh.{end_of}
use Rattle.cell_builder.specs.turned.Marks.{mark_of}
use Rattle.cell_builder.specs.turned.Turns.{due_of, PassedBy}

module _ (tri he table : List ℕ) (e t : ℕ) (q : t ≡ get_or table (end_of tri e) 0) where
  pub due_to_come : e ≤ t → true ≡ due_of tri he table e
  unfolding due_of
  due_to_come h = rw (← q, le-leb e t h)

  pub due_on_hull : t < e → eqb (get_or he t 0) EMPTY ≡ due_of tri he table e
  unfolding due_of
  due_on_hull h = rw (← q, lt-leb e t h)

-- what is passed by before e, and one more, or the rest of its eight triangles
module _ (tri he table m : List ℕ) (from e : ℕ) (h : (j : ℕ) → from ≤ j → j < e → j < length tri → PassedBy tri he table m j) where
  pub passed_more : due_of tri he table e ≡ false → (j : ℕ) → from ≤ j → j < e + 1 → j < length tri → PassedBy tri he table m j
  passed_more d j lo hi l = ⊎_elim (λ x. h j lo x l) (λ x. let q : j ≡ e = omega arith in inl (rw q d)) (lt_or_ge j e)

  pub passed_eight : mark_of m e ≡ 0 → (j : ℕ) → from ≤ j → j < 24 * (e / 24) + 24 → j < length tri → PassedBy tri he table m j
  passed_eight u j lo hi l =
      ⊎_elim
      (λ x. h j lo x l)
      (λ x. let q : j / 24 ≡ e / 24 = omega arith in inr (ap (λ (k : ℕ). get_or m k 0) q ∙ u))
      (lt_or_ge j e)
