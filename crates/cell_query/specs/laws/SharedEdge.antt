-- The answer about the edge that two cells share, from the tests that the code makes.
use Rattle.std.specs.Prelude.{◌≡◌, refl, Bool, List, ◌≢◌, ℕ, ◌+◌, ◌-◌, ◌<◌, length, Ok, Err}
use Rattle.std.proofs.Common.{◌∙◌, ⊎_elim, arith, ne_eqb}
use Rattle.base.specs.common.laws.Refusals.{breaks, keeps, nothing}
use Rattle.base.specs.numbers.Numbers.{refused_site}
use Rattle.base.specs.declared.refusal.Refusal.{Refusal}
use Rattle.base.specs.declared.refusal.Refusal.TheVariants as refusal
use Rattle.base.specs.refusal.Number.{number_of}
use Rattle.base.specs.refusal.laws.Number.{some_number}
use Rattle.walks.specs.shared.Cells.{Cells, share_edge_of}
use Rattle.arguments.specs.asking.Asks.{site_rules, Asked, CellsOf}
use Rattle.arguments.specs.asking.laws.Asks.{site_below}
use Rattle.cell_query.specs.SharedEdge.{told, SharesAnswer}

-- what rule 4 refuses
no_cell : (n s : ℕ) {k : ℕ} → Asked (site_rules n s) k → k ≢ 0 → (s < n → ⊥) × (k ≡ refused_site)
no_cell n s a z = ⊎_elim (λ x. x) (λ x. absurd (z x.1)) a.found.judged

-- two cells: n is the count
module _ (off ix : List ℕ) (a b n : ℕ) (count : n ≡ length off - 1) where
  pub no_first : (r : Refusal) → Asked (site_rules n a) (number_of r) → SharesAnswer off ix a b (told (Err r))
  no_first r p =
      let x = no_cell n a p (some_number r) in
      record { number = rw x.1 (breaks (λ y. x.0 (omega (arith, y.0)))); yes = rw (ne_eqb (number_of r) 0 (some_number r)) refl }

  pub no_second : (r : Refusal) → Asked (site_rules n b) (number_of r) → SharesAnswer off ix a b (told (Err r))
  no_second r q =
      let x = no_cell n b q (some_number r) in
      record { number = rw x.1 (breaks (λ y. x.0 (omega (arith, y.1)))); yes = rw (ne_eqb (number_of r) 0 (some_number r)) refl }

  module _ (p : Asked (site_rules n a) 0) (q : Asked (site_rules n b) 0) where
    below : (a < length off - 1) × (b < length off - 1)
    below = rw (← count) (site_below n a p refl, site_below n b q refl)

    pub none_cut : (CellsOf off ix n → ⊥) → SharesAnswer off ix a b (told (Err refusal.Offsets))
    none_cut c = record { number = keeps below (breaks (λ y. c (rw count y))); yes = refl }

    -- s and t are the sites as indexes
    module _ (s t : ℕ) (e : s ≡ a) (f : t ≡ b) (c : CellsOf off ix n) where
      pub shares_asks : Cells off (length ix) × (s + 1 < length off) × (t + 1 < length off)
      shares_asks = (c.cut, omega (arith, c.many, below.0), omega (arith, c.many, below.1))

      pub shares_told : (y : Bool) → y ≡ share_edge_of off ix s t → SharesAnswer off ix a b (told (Ok y))
      shares_told y g = record { number = keeps below (keeps (rw (← count) c) nothing); yes = g ∙ rw (e, f) refl }
