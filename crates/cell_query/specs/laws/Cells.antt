-- The query for one cell: its number by the tests made, and the part of the index list that an admitted one has.
use Rattle.std.specs.Prelude.{◌≡◌, List, [], ◌≢◌, ℕ, ◌+◌, ◌-◌, ◌≤◌, ◌<◌, length, get_or}
use Rattle.std.proofs.Common.{◌∙◌, arith, eq-eqb, ne_eqb, rules}
use Rattle.walks.specs.shared.Cells.{Cells, cell_of}
use Rattle.base.specs.numbers.Numbers.{refused_offsets}
use Rattle.arguments.specs.asking.Asks.{site_rules, Asked, CellsOf, cell_rules}
use Rattle.arguments.specs.asking.laws.Asks.{site_below}
use Rattle.base.specs.common.Refusals.{Finds}
use Rattle.base.specs.common.laws.Refusals.{breaks, keeps, nothing, finds_one, finds_first, finds_keep}
use Rattle.cell_query.specs.Cells.{CellNumber, CellAnswer, PlaceAnswer}

-- there is one number
pub cell_number : (off ix : List ℕ) (s : ℕ) {a b : ℕ} → CellNumber off ix s a → CellNumber off ix s b → a ≡ b
cell_number off ix s x y = finds_one x.found y.found

-- n is the number of sites, a what rule 4 says
module _ (off ix : List ℕ) (s n a : ℕ) (count : n ≡ length off - 1) (ask : Asked (site_rules n s) a) where
  pub no_site : a ≢ 0 → CellNumber off ix s a
  no_site q =
      let f : Finds (site_rules (length off - 1) s) 0 a = rw count at ask.found in
      record { found = finds_first (cell_rules off ix (length off - 1)) q f }

  below : a ≡ 0 → s < length off - 1
  below z = rw (← count) (site_below n s ask z)

  pub not_cut : a ≡ 0 → (CellsOf off ix n → ⊥) → CellNumber off ix s refused_offsets
  not_cut z c = record { found = keeps (below z) (breaks (λ x. c (rw count x))) }

  pub cut : a ≡ 0 → CellsOf off ix n → CellNumber off ix s 0
  cut z c = record { found = keeps (below z) (keeps (rw count at c) nothing) }

-- what an admitted site has
pub record HasCell (off ix : List ℕ) (s : ℕ) : Type 0 where
  pub cells : Cells off (length ix)
  pub below : s + 1 < length off

pub has_cell : {off ix : List ℕ} {r : ℕ} (s : ℕ) → CellNumber off ix s r → r ≡ 0 → HasCell off ix s
has_cell s x z =
    let k = finds_keep (λ r. r ≡ 0) (search rules) z x.found in
    record { cells = k.1.0.cut; below = omega (arith, k.0) }

module _ (off ix : List ℕ) (s r : ℕ) (a : CellNumber off ix s r) where
  pub part_refused : r ≢ 0 → CellAnswer off ix s [] r
  part_refused n = record { number = a; entries = rw (ne_eqb r 0 n) }

  pub place_refused : r ≢ 0 → PlaceAnswer off ix s 0 0 r
  place_refused n = record { number = a; from = rw (ne_eqb r 0 n); many = rw (ne_eqb r 0 n) }

  -- t is the site as an index
  module _ (z : r ≡ 0) (t : ℕ) (q : t ≡ s) where
    abbrev has : HasCell off ix s
    has = has_cell s a z

    pub part_asks : Cells off (length ix) × (t + 1 < length off)
    part_asks = (has.cells, omega (arith, has.below))

    pub in_order : get_or off t 0 ≤ get_or off (t + 1) 0
    in_order = has.cells.rising t part_asks.1

    pub part_given : (p : List ℕ) → p ≡ cell_of off ix t → CellAnswer off ix s p r
    part_given p e = record { number = a; entries = e ∙ rw (q, eq-eqb r 0 z) }

    pub place_given : PlaceAnswer off ix s (get_or off t 0) (get_or off (t + 1) 0 - get_or off t 0) 0
    place_given = record { number = rw z at a; from = rw q; many = rw q }
