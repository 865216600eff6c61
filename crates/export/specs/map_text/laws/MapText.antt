-- The lines of the text for map tools as a loop writes them, and its length: it is bounded by the entries of its cells.
use Rattle.std.specs.Prelude.{◌≡◌, refl, List, ◌++◌}
use Rattle.std.proofs.Common.{ap, ⊎_elim, add-zero, zero-add}
use Prim.Native.Nat.{ℕ, zero, suc, ◌+◌, ◌*◌, ◌≤◌}
use native.Mathlib.Omega.{arith}
use Rattle.std.proofs.Math.ListN.{length, get_or, length-append}
use Rattle.std.proofs.lemmas.List.{length-map}
use Rattle.base.specs.common.laws.Decide.{lt_or_ge}
use Rattle.octets.specs.laws.Lines.{lines_from}
use Rattle.printing.specs.parts.laws.Listed.{cell_length}
use Rattle.printing.specs.parts.Text.{ascii, decimal}
use Rattle.printing.specs.parts.laws.Decimal.{decimal_short}
use Rattle.printing.specs.parts.Listed.{listed_cell, Layout}
use Rattle.wkb.specs.Polygon.{pattern_at, patterns_of, size}
use Rattle.wkb.specs.Promise.{ImageFits, image}
use Rattle.wkb.specs.ReadBack.{length_polygon}
use Rattle.wkb.specs.laws.Room.{size_none, size_ring}
use Rattle.octets.specs.hex.Hex.{hex}
use Rattle.export.specs.map_text.MapText.{map_line, heading, map_lines, map_text}
use Rattle.octets.specs.hex.laws.Hex.{hex_length}

-- the lines of the cells, as a loop writes them
pub lines_are : (v off ix : List ℕ) (n i : ℕ) → map_lines v off ix i n ≡ lines_from (λ k. map_line k (image v (listed_cell off ix k))) i n
unfolding map_lines
lines_are v off ix zero i = refl
lines_are v off ix (suc n) i = ap (λ (t : List ℕ). map_line i (image v (listed_cell off ix i)) ++ t) (lines_are v off ix n (suc i))

-- ---- lengths

size_most : (n : ℕ) → size n ≤ 29 + 16 * n
size_most n = ⊎_elim (λ h. omega (arith, size_none n h)) (λ h. omega (arith, size_ring n h)) (lt_or_ge n 3)

-- a cell of at most 3,076 entries
pub sized_short : (n room : ℕ) → n ≤ 3076 → 49245 ≤ room → ImageFits n room
sized_short n room h g = record { counted = omega arith; long = omega (arith, size_most n) }

pub image_short : (v c : List ℕ) → length (image v c) ≤ 29 + 16 * length c
image_short v c = omega (arith, length_polygon (patterns_of v c), length-map c (pattern_at v), size_most (length (patterns_of v c)))

line_short : (i : ℕ) (v c : List ℕ) → length (map_line i (image v c)) ≤ 70 + 32 * length c
unfolding map_line
line_short i v c =
    let a = decimal i ++ ascii "," in
    omega (
      arith,
      length-append (a ++ hex (image v c)) (ascii "\n"),
      length-append a (hex (image v c)),
      length-append (decimal i) (ascii ","),
      decimal_short i,
      hex_length (image v c),
      image_short v c,
    )

module _ (v off ix : List ℕ) (n : ℕ) (lay : Layout off ix n) where
  lines_short : (m i : ℕ) → i + m ≤ n → length (map_lines v off ix i m) + 32 * get_or off i 0 ≤ 70 * m + 32 * get_or off (i + m) 0
  unfolding map_lines
  lines_short zero i h = rw (add-zero i) (omega arith)
  lines_short (suc m) i h =
      let e : suc i + m ≡ i + suc m = omega arith in
      let c = listed_cell off ix i in
      let q : length (map_lines v off ix (suc i) m) + 32 * get_or off (suc i) 0 ≤ 70 * m + 32 * get_or off (i + suc m) 0 = rw e at (lines_short m (suc i) (omega arith)) in
      omega (arith, length-append (map_line i (image v c)) (map_lines v off ix (suc i) m), line_short i v c, cell_length off ix n lay i (omega arith), lay.rise i (omega arith))

  -- what the text of n cells and so many entries needs
  pub text_short : length (map_text v off ix n) ≤ 14 + 70 * n + 32 * get_or off n 0
  unfolding map_text heading
  text_short =
      let q : length (map_lines v off ix 0 n) + 32 * get_or off 0 0 ≤ 70 * n + 32 * get_or off n 0 = rw (zero-add n) at (lines_short n 0 (omega arith)) in
      omega (arith, length-append heading (map_lines v off ix 0 n))
