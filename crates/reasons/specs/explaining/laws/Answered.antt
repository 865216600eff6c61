-- What was asked, over the slices that a build leaves: the table and the cells in them are the definition's.
use Rattle.std.specs.Prelude.{◌≡◌, ℕ, suc, ◌+◌, ◌-◌, ◌≤◌, length, drop, replicate}
use Rattle.std.proofs.Common.{ap, ◌∙◌, length-append}
use mathlib.Core.List.{List, [], map}
use Rattle.std.proofs.Math.Logic.{⊎_elim}
use native.Mathlib.Omega.{arith}
use Rattle.std.proofs.Math.ListN.{get_or, take, length-map, get_or-map, get_or-eq_default}
use Rattle.base.specs.common.laws.Decide.{lt_or_ge}
use Rattle.base.specs.numbers.Numbers.{EMPTY}
use Rattle.mesh.specs.Mesh.{leftmost_of}
use Rattle.mesh.specs.Accepted.{Topology}
use Rattle.cell_memory.specs.layout.Regions.{joined, offsets_from}
use Rattle.cell_memory.specs.layout.Cleared.{padded}
use Rattle.cell_memory.specs.layout.laws.Compacted.{offsets_length}
use Rattle.walks.specs.shared.Cells.{Cells, cell_of}
use Rattle.cell_query.specs.ReadBack.{read_from, cut}
use Rattle.definition.specs.Cell.{Entry, unmarked}
use Rattle.building.specs.answers.laws.Left.{offsets_head}
use Rattle.reasons.specs.declared.Question.{Question}
use Rattle.reasons.specs.declared.Reason.{Reason}
use Rattle.reasons.specs.Answer.{answer_to, Askable}

module _ (cells : List (List Entry)) (n : ℕ) (many : length cells ≡ n) (off ix : List ℕ) (room rooms : ℕ) (q : off ≡ padded room EMPTY (offsets_from 0 (map unmarked cells)))
    (p : ix ≡ padded rooms EMPTY (joined (map unmarked cells))) where
  abbrev plain : List (List ℕ)
  plain = map unmarked cells

  heads : take (suc n) off ≡ offsets_from 0 plain
  heads = offsets_head cells n many room off q

  pub heads_long : length (take (suc n) off) ≡ n + 1
  heads_long = ap length heads ∙ offsets_length 0 plain ∙ omega (arith, length-map cells unmarked)

  pub heads_cut : Cells (take (suc n) off) (length ix)
  heads_cut = rw heads (cut plain (length ix) (omega (arith, ap length p, length-append (joined plain) (replicate (rooms - length (joined plain)) EMPTY))))

  -- the cell of each site, and nothing past them
  cell_is : (s : ℕ) → cell_of (take (suc n) off) ix s ≡ unmarked (get_or cells s [])
  unfolding cell_of
  cell_is s =
      ⊎_elim
      (λ l. rw (heads, p) (read_from [] _ plain s (omega (arith, length-map cells unmarked))) ∙ get_or-map unmarked cells s [])
      (λ l. past l)
      (lt_or_ge s n)
    where
      past : n ≤ s → take (get_or (take (suc n) off) (s + 1) 0 - get_or (take (suc n) off) s 0) (drop (get_or (take (suc n) off) s 0) ix) ≡ unmarked (get_or cells s [])
      past l =
          let z : get_or (take (suc n) off) (s + 1) 0 ≡ 0 = get_or-eq_default (take (suc n) off) 0 (omega (arith, heads_long)) in
          let e : get_or cells s [] ≡ [] = get_or-eq_default cells [] (omega arith) in
          let d : 0 - get_or (take (suc n) off) s 0 ≡ 0 = omega arith in
          rw (z, d, e)

  pub cells_are : cell_of (take (suc n) off) ix ≡ (λ (s : ℕ). unmarked (get_or cells s []))
  cells_are = λ i s. cell_is s i

  module _ (tri he hull table : List ℕ) (t : Topology tri he hull n) (e : table ≡ leftmost_of tri he n) where
    pub askable : Askable tri he table (take (suc n) off) ix
    askable = record { hull = hull; n = n; mesh = t; table_is = e; many = heads_long; cut = heads_cut }

    pub answer_is : (question : Question) {r : Reason} → r ≡ answer_to tri he table (cell_of (take (suc n) off) ix) question
        → r ≡ answer_to tri he (leftmost_of tri he n) (λ (s : ℕ). unmarked (get_or cells s [])) question
    answer_is question h = h ∙ ap (λ (l : List ℕ). answer_to tri he l (cell_of (take (suc n) off) ix) question) e ∙ ap (λ (f : ℕ → List ℕ). answer_to tri he (leftmost_of tri he n) f question) cells_are
