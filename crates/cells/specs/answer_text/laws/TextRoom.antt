-- There is room for the text: of 96 cells with 3,076 entries.
use Rattle.std.specs.Prelude.{refl, List, [], ◌∷◌, ℕ, ◌≤◌, length, get_or}
use Rattle.std.proofs.Common.{arith}
use Rattle.cells.specs.listing.laws.Listing.{listing_short}
use Rattle.cells.specs.answer_text.Shown.{Laid, box_lines}

module _ (T : ℕ) (counts : List ℕ) {n : ℕ} {off ix : List ℕ} {space : ℕ} (p : Laid n off ix space) where
  pub box_fits : length (box_lines n T off ix counts) ≤ space
  box_fits = omega (
    arith,
    listing_short n T (get_or counts 0 0) off ix p.layout
        (get_or counts 1 0 ∷ get_or counts 2 0 ∷ get_or counts 3 0 ∷ get_or counts 4 0 ∷ []) (get_or counts 5 0) (get_or counts 6 0) (get_or counts 7 0) (get_or counts 8 0) refl,
    p.few,
    p.short,
    p.room,
  )
