-- The listing grows at its end by an entry or a line, and its length is bounded by the numbers it prints.
use Rattle.std.specs.Prelude.{◌≡◌, refl, List, [], ◌∷◌, ◌++◌, take, drop}
use Rattle.std.proofs.Common.{sym, ap, ◌∙◌, append_assoc, add-one, add-zero, zero-add, take-append-drop, take-suc}
use Prim.Native.Nat.{ℕ, zero, suc, ◌+◌, ◌*◌, ◌≤◌, ◌<◌}
use native.Mathlib.Omega.{arith}
use Rattle.std.proofs.Math.ListN.{length, get_or, length-append}
use Rattle.std.proofs.Math.Seq.{take-length}
use Rattle.octets.specs.laws.Lines.{lines_from}
use Rattle.printing.specs.parts.Text.{ascii, decimal}
use Rattle.printing.specs.parts.Labelled.{entries, labelled}
use Rattle.printing.specs.parts.Listed.{listed_cell, Layout}
use Rattle.printing.specs.parts.laws.Labelled.{entries_short, labelled_short}
use Rattle.printing.specs.parts.laws.Listed.{cell_length}
use Rattle.cells.specs.listing.Listing.{counts, cell_line, cell_lines, counts_and_cells, corners, reused_line, listing}

-- ---- entries

entries_append : (k l : List ℕ) → entries (k ++ l) ≡ entries k ++ entries l
unfolding entries
entries_append [] l = refl
entries_append (v ∷ k) l = ap (λ (t : List ℕ). 32 ∷ decimal v ++ t) (entries_append k l) ∙ sym (append_assoc (32 ∷ decimal v) (entries k) (entries l))

pub entries_more : (l : List ℕ) (i : ℕ) → i < length l → entries (take (i + 1) l) ≡ entries (take i l) ++ entries (get_or l i 0 ∷ [])
entries_more l i h = ap (λ (k : ℕ). entries (take k l)) (add-one i) ∙ ap entries (take-suc l i 0 h) ∙ entries_append (take i l) (get_or l i 0 ∷ [])

pub entries_whole : (l : List ℕ) (i : ℕ) → entries (take (length l) l) ≡ entries (take i l) ++ entries (drop i l)
entries_whole l i = ap entries (take-length l ∙ sym (take-append-drop i l)) ∙ entries_append (take i l) (drop i l)

pub entries_none : (l : List ℕ) → entries (take 0 l) ≡ []
unfolding entries
entries_none l = refl

-- ---- lines

-- the lines of the cells, as a loop writes them
pub lines_are : (os cs : List ℕ) (n i : ℕ) → cell_lines os cs i n ≡ lines_from (λ k. cell_line k (listed_cell os cs k)) i n
unfolding cell_lines
lines_are os cs zero i = refl
lines_are os cs (suc n) i = ap (λ (t : List ℕ). cell_line i (listed_cell os cs i) ++ t) (lines_are os cs n (suc i))

-- ---- lengths

line_short : (i : ℕ) (c : List ℕ) → length (cell_line i c) ≤ 17 + 11 * length c
unfolding cell_line
line_short i c =
    let a = labelled "cell" i in
    let b = a ++ ascii ":" in
    omega (arith, length-append (b ++ entries c) (ascii "\n"), length-append b (entries c), length-append a (ascii ":"), labelled_short "cell" i, entries_short c)

module _ (os cs : List ℕ) (n : ℕ) (lay : Layout os cs n) where
  lines_short : (m i : ℕ) → i + m ≤ n → length (cell_lines os cs i m) + 11 * get_or os i 0 ≤ 17 * m + 11 * get_or os (i + m) 0
  unfolding cell_lines
  lines_short zero i h = rw (add-zero i) (omega arith)
  lines_short (suc m) i h =
      let e : suc i + m ≡ i + suc m = omega arith in
      let c = listed_cell os cs i in
      let q = lines_short m (suc i) (omega arith) in
      let q' : length (cell_lines os cs (suc i) m) + 11 * get_or os (suc i) 0 ≤ 17 * m + 11 * get_or os (i + suc m) 0 = rw e at q in
      omega (arith, length-append (cell_line i c) (cell_lines os cs (suc i) m), line_short i c, cell_length os cs n lay i (omega arith), lay.rise i (omega arith))

counts_short : (a b c : ℕ) → length (counts a b c) ≤ 58
unfolding counts
counts_short a b c =
    let x = labelled "sites" a in
    let y = labelled " triangles" b in
    let z = labelled " vertices" c in
    omega
    (arith, length-append (x ++ y ++ z) (ascii "\n"), length-append (x ++ y) z, length-append x y, labelled_short "sites" a, labelled_short " triangles" b, labelled_short " vertices" c)

corners_short : (owners : List ℕ) (lost : ℕ) → length owners ≡ 4 → length (corners owners lost) ≤ 68
unfolding corners
corners_short owners lost h =
    let x = ascii "corners" ++ entries owners in
    let y = labelled " lost" lost in
    omega (arith, length-append (x ++ y) (ascii "\n"), length-append x y, length-append (ascii "corners") (entries owners), labelled_short " lost" lost, entries_short owners)

reused_short : (a b c : ℕ) → length (reused_line a b c) ≤ 40
unfolding reused_line
reused_short a b c =
    let x = ascii "reused" ++ entries (a ∷ b ∷ c ∷ []) in
    omega (arith, length-append x (ascii "\n"), length-append (ascii "reused") (entries (a ∷ b ∷ c ∷ [])), entries_short (a ∷ b ∷ c ∷ []))

-- what a listing of n cells and so many entries needs
module _ (a t v : ℕ) (os cs : List ℕ) (lay : Layout os cs a) where
  all_lines : length (cell_lines os cs 0 a) ≤ 17 * a + 11 * get_or os a 0
  all_lines =
      let q = lines_short os cs a lay a 0 (omega arith) in
      let q' : length (cell_lines os cs 0 a) + 11 * get_or os 0 0 ≤ 17 * a + 11 * get_or os a 0 = rw (zero-add a) at q in
      omega arith

  pub counts_and_cells_short : length (counts_and_cells a t v os cs) ≤ 58 + 17 * a + 11 * get_or os a 0
  unfolding counts_and_cells
  counts_and_cells_short = omega (arith, length-append (counts a t v) (cell_lines os cs 0 a), counts_short a t v, all_lines)

  pub listing_short : (owners : List ℕ) (lost x y z : ℕ) → length owners ≡ 4 → length (listing a t v os cs owners lost x y z) ≤ 166 + 17 * a + 11 * get_or os a 0
  unfolding listing
  listing_short owners lost x y z h =
      let b = counts_and_cells a t v os cs in
      omega
      (arith, length-append (b ++ corners owners lost) (reused_line x y z), length-append b (corners owners lost), corners_short owners lost h, reused_short x y z, counts_and_cells_short)
