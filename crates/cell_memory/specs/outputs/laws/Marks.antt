-- The definition's marked cells in their regions: what the index list holds is the cells with the marks taken off.
use Rattle.std.specs.Prelude.{◌≡◌, refl, false, List, [], ◌∷◌, ◌++◌, map, ◌≢◌, ℕ, zero, suc, ◌+◌, ◌≤◌, ◌<◌, length, get_or, set, replicate}
use Rattle.std.proofs.Common.{sym, ap, ◌∙◌, arith}
use Rattle.std.proofs.lemmas.List.{length-map}
use Rattle.std.proofs.Math.ListN.{get_or-map}
use Rattle.std.proofs.lemmas.List.Edits.{sets}
use Rattle.base.specs.numbers.Numbers.{EMPTY}
use Rattle.definition.specs.Cell.{Entry, unmarked}
use Rattle.definition.specs.Build.{is_empty, all_entries}
use Rattle.cell_memory.specs.layout.Regions.{joined, Regions}
use Rattle.cell_memory.specs.layout.laws.Regions.{begins_empty, begins_full, regions_set}

unmarked_none : (c : List Entry) → unmarked c ≡ [] → c ≡ []
unmarked_none [] q = refl
unmarked_none (x ∷ c) q = absurd (omega (arith, ap length q))

full_false : (c : List Entry) → c ≢ [] → is_empty c ≡ false
full_false [] n = absurd (n refl)
full_false (x ∷ c) n = refl

set_unmarked : (cells : List (List Entry)) (s : ℕ) (c : List Entry) → map unmarked (set cells s c) ≡ set (map unmarked cells) s (unmarked c)
set_unmarked [] s c = refl
set_unmarked (d ∷ cells) zero c = refl
set_unmarked (d ∷ cells) (suc s) c = ap (λ (l : List (List ℕ)). unmarked d ∷ l) (set_unmarked cells s c)

pub none_unmarked : (n : ℕ) → map unmarked (replicate n []) ≡ replicate n []
none_unmarked zero = refl
none_unmarked (suc n) = ap (λ (l : List (List ℕ)). [] ∷ l) (none_unmarked n)

-- all entries are those of the cells one after the other
pub entries_joined : (cells : List (List Entry)) → joined (map unmarked cells) ≡ all_entries cells
unfolding joined all_entries
entries_joined [] = refl
entries_joined (c ∷ cells) = ap (λ (l : List ℕ). unmarked c ++ l) (entries_joined cells)

module _ (ix starts : List ℕ) (cells : List (List Entry)) (r : Regions ix starts (map unmarked cells)) (s : ℕ) (l : s < length cells) where
  in_cells : s < length (map unmarked cells)
  in_cells = rw (length-map cells unmarked) l

  at_site : get_or (map unmarked cells) s [] ≡ unmarked (get_or cells s [])
  at_site = get_or-map unmarked cells s []

  -- the region's first entry tells whether the cell is still empty
  pub empty_still : get_or ix (get_or starts s 0) 0 ≡ EMPTY → get_or cells s [] ≡ []
  empty_still q = unmarked_none (get_or cells s []) (sym at_site ∙ begins_empty (r.each s in_cells) q)

  pub full_already : get_or starts s 0 < get_or starts (suc s) 0 → get_or ix (get_or starts s 0) 0 ≢ EMPTY → is_empty (get_or cells s []) ≡ false
  full_already h n = full_false (get_or cells s []) (λ q. begins_full (r.each s in_cells) h n (at_site ∙ ap unmarked q))

  -- a cell, empty so far, written into its region
  pub cell_set :
      (new : List ℕ) (c : List Entry)
      → get_or cells s [] ≡ []
      → get_or starts s 0 + length (unmarked c) ≤ get_or starts (suc s) 0
      → ((i : ℕ) → i < length (unmarked c) → get_or (unmarked c) i 0 ≢ EMPTY)
      → new ≡ sets ix (get_or starts s 0) (unmarked c)
      → Regions new starts (map unmarked (set cells s c))
  cell_set new c blank room real w =
      rw (set_unmarked cells s c) (regions_set ix starts (map unmarked cells) r new s (unmarked c) in_cells (at_site ∙ ap unmarked blank) room real w)
