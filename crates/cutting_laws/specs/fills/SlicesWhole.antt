-- Theorem: the slices that the cutting leaves hold pieces whose exact areas add up to exactly the box's (`slices_whole`) and whose vertices lie in it (`slices_inside`), on every accepted
-- mesh whose border's number is 0, whatever its triangles: by the sums of ring_area over the cells, as an audit takes them. So does any form of sides (`slices_form`); and the offsets cut the
-- entries into cells (`slices_cells`).
use Rattle.std.specs.Prelude.{◌≡◌, refl, ℕ, zero, suc, ◌+◌, ◌-◌, ◌*◌, ◌/◌, ◌≤◌, ◌<◌, Float, length, take, replicate}
use Rattle.std.proofs.Common.{sym, ◌∙◌, arith, length-append, get_or-take}
use Rattle.std.proofs.Math.Path.{ap}
use mathlib.Core.List.{List, [], ◌∷◌, map}
use Rattle.std.specs.Float.Ieee.{nan}
use Rattle.std.proofs.Math.ListN.{get_or}
use Rattle.std.proofs.lemmas.List.{length-map, length-replicate}
use Rattle.std.proofs.Math.Seq.{length-take-le}
use Rattle.base.specs.common.Binary64 as B
use Rattle.base.specs.numbers.Numbers.{EMPTY}
use Rattle.plane.specs.points.Flat.{point_at}
use Rattle.plane.specs.declared.points.Point.{Point}
use Rattle.ring_area.specs.Steps.{gains_of, losses_of}
use Rattle.plane.specs.boxes.Box.{corners_of}
use Rattle.plane.specs.declared.boxes.BoundingBox.{BoundingBox}
use Rattle.mesh.specs.Mesh.{leftmost_of}
use Rattle.mesh.specs.Accepted.{Topology}
use Rattle.mesh.specs.laws.Facts.{tab_length}
use Rattle.cell_memory.specs.layout.Cleared.{cleared_from}
use Rattle.walks.specs.shared.Cells.{Cells, cell_of}
use Rattle.cutting.specs.cuts.Numbers.{◌≈◌}
use Rattle.cutting.specs.cuts.Rings.{sum_by}
use Rattle.cutting.specs.cuts.Written.{round, written_ring}
use Rattle.cutting.specs.sides.Kept.{Ordered}
use Rattle.cutting.specs.sides.Area.{SideForm, places_of}
use Rattle.cutting.specs.sides.Exact.{twice_round}
use Rattle.cutting.specs.sides.Alike.{area_form, twice_rounds}
use Rattle.cutting.specs.pen.Pen.{same_place}
use Rattle.cutting.specs.border.Border.{border_number}
use Rattle.cutting_writer.specs.stream.Stages.{Ring, cut_four}
use Rattle.cutting_writer.specs.sites.Pieces.{Sheet, sheet_from, cornered, start_sheet, cut_sheet, CutInto, Cuttable}
use Rattle.cutting_laws.specs.theorem.MeshPieces.{numbers_from, piece_places, all_places, all_gains, all_losses}
use Rattle.cutting_laws.specs.theorem.CutWhole.{twice_parts, all_parts, form_sum, cut_inside}
use Rattle.cutting_laws.specs.ringed.Filled.{site_places}
use Rattle.cutting_writer.specs.shown.laws.Sites.{ring_same, piece_from}
use Rattle.cutting_writer.specs.shown.laws.Sheets.{SheetEnds, sheet_stands}
use Rattle.cutting_laws.specs.fills.laws.Put.{centers_kept, corners_in}
use Rattle.cutting_laws.specs.fills.laws.Slices.{AllAlike, sums_alike, cleared_below, cells_alike, first_begin, offsets_rise}
use Rattle.cutting_laws.specs.fills.laws.Within.{EachInBox, each_in}

map_same : {A B : Type 0} (f g : A → B) → ((x : A) → f x ≡ g x) → (l : List A) → map f l ≡ map g l
map_same f g e [] = refl
map_same f g e (x ∷ l) = λ i. e x i ∷ map_same f g e l i

shifted : {A : Type 0} (g : ℕ → A) (i k : ℕ) → map (λ s. g (suc s)) (numbers_from i k) ≡ map g (numbers_from (suc i) k)
shifted g i zero = refl
shifted {A} g i (suc k) = ap (λ (l : List A). g (suc i) ∷ l) (shifted g (suc i) k)

by_number : {A : Type 0} (f : ℕ → A) (l : List ℕ) → map f l ≡ map (λ s. f (get_or l s 0)) (numbers_from 0 (length l))
by_number f [] = refl
by_number {A} f (x ∷ l) = ap (λ (m : List A). f x ∷ m) (by_number f l ∙ shifted (λ s. f (get_or (x ∷ l) s 0)) 0 (length l))

cleared_length : {A : Type 0} (n : ℕ) (a : A) (l : List A) → n ≤ length l → length (cleared_from n a l) ≡ length l
cleared_length n a l h = omega (arith, length-append (take n l) (replicate (length l - n) a), length-take-le n l h, length-replicate (length l - n) a)

module _ {tri he hull : List ℕ} {n : ℕ} (ok : Topology tri he hull n) (b : BoundingBox) (ordered : Ordered b) (sites v : List Float) (ix off : List ℕ)
    (none : border_number b sites tri hull (leftmost_of tri he n) v ≡ 0) (ready : Cuttable b sites tri he (leftmost_of tri he n) v ix off)
  where
    abbrev table : List ℕ
    table = leftmost_of tri he n

    abbrev t : ℕ
    t = length tri / 3

    abbrev w : List Float
    w = cornered b t v

    small : t < EMPTY
    small = omega (arith, ok.small)

    ends : SheetEnds b sites tri he t w (corners_in b t v ready.corners) small ready.thirds 0 table (start_sheet b t v ix off)
    ends = sheet_stands b sites tri he t w (corners_in b t v ready.corners) small ready.thirds table 0 (start_sheet b t v ix off) (record { many = omega arith; kept = λ i l. refl })
        refl ready.room (omega (arith, ready.one_more))

    pub few_vertices : (cut_sheet b sites tri he table v ix off).page.pen.count ≤ EMPTY
    unfolding cut_sheet
    few_vertices = ends.room.small

    -- the pieces that were written are those of the theorem
    abbrev piece_at : ℕ → List Point
    piece_at = piece_from b sites tri he t w (corners_in b t v ready.corners) small ready.thirds

    piece_is : (s : ℕ) → piece_at (get_or table s 0) ≡ piece_places sites tri he n v b s
    piece_is s =
        ap (λ (r : Ring). written_ring same_place (places_of (cut_four b sites r))) (ring_same sites tri he t v w ready.thirds (centers_kept b t v ready.corners) (get_or table s 0))
        ∙ sym (site_places sites tri he n v b s)

    pieces_are : map piece_at table ≡ all_places sites tri he n v b
    pieces_are =
        by_number piece_at table ∙ ap (λ (k : ℕ). map (λ s. piece_at (get_or table s 0)) (numbers_from 0 k)) (tab_length ok)
        ∙ map_same (λ s. piece_at (get_or table s 0)) (piece_places sites tri he n v b) piece_is (numbers_from 0 n)

    module _ {r : ℕ} {v₁ : List Float} {ix₁ off₁ : List ℕ} (into : CutInto n (cut_sheet b sites tri he table v ix off) r v₁ ix₁ off₁) where
      abbrev sheet : Sheet
      sheet = sheet_from b sites tri he t 0 table (start_sheet b t v ix off)

      -- the places of each cell's entries
      abbrev pub cell_places : List (List Point)
      cell_places = map (λ s. map (point_at v₁) (cell_of off₁ ix₁ s)) (numbers_from 0 n)

      same_entries : (i : ℕ) → i < sheet.page.pen.at → get_or ix₁ i 0 ≡ get_or sheet.page.indexes i 0
      unfolding cut_sheet
      same_entries i h = ap (λ (l : List ℕ). get_or l i 0) into.indexes ∙ cleared_below sheet.page.pen.at i EMPTY 0 sheet.page.indexes h ends.room.indexes

      entries_long : sheet.page.pen.at ≤ length ix₁
      unfolding cut_sheet
      entries_long = rw (into.indexes, cleared_length sheet.page.pen.at EMPTY sheet.page.indexes ends.room.indexes) ends.room.indexes

      same_numbers : (i : ℕ) → i < 2 * sheet.page.pen.count → get_or v₁ i nan ≡ get_or sheet.page.vertices i nan
      unfolding cut_sheet
      same_numbers i h = ap (λ (l : List Float). get_or l i nan) into.vertices ∙ cleared_below (2 * sheet.page.pen.count) i B.zero nan sheet.page.vertices h ends.room.vertices

      offsets_room : n + 1 ≤ length sheet.offsets
      offsets_room = omega (arith, ends.long, ready.one_more, tab_length ok)

      same_offsets : (i : ℕ) → i ≤ n → get_or off₁ i 0 ≡ get_or sheet.offsets i 0
      unfolding cut_sheet
      same_offsets i h = ap (λ (l : List ℕ). get_or l i 0) into.offsets ∙ cleared_below (n + 1) i EMPTY 0 sheet.offsets (omega arith) offsets_room

      few : length (map piece_at table) ≡ n
      few = length-map table piece_at ∙ tab_length ok

      cells_same : AllAlike (map (λ s. map (point_at v₁) (cell_of off₁ ix₁ s)) (numbers_from 0 (length (map piece_at table)))) (map piece_at table)
      cells_same =
          cells_alike sheet.page.indexes ix₁ sheet.page.vertices v₁ sheet.page.pen.count sheet.offsets off₁ sheet.page.pen.at n same_entries entries_long same_numbers
          same_offsets 0 0 (map piece_at table) (omega (arith, few)) ends.stand

      -- the offsets of all sites, which cut the entries into cells
      pub slices_offsets : length (take (n + 1) off₁) ≡ n + 1
      unfolding cut_sheet
      slices_offsets = length-take-le (n + 1) off₁ (rw (into.offsets, cleared_length (n + 1) EMPTY sheet.offsets offsets_room) offsets_room)

      pub slices_cells : Cells (take (n + 1) off₁) (length ix₁)
      slices_cells = record { some = omega (arith, long); start = at_place 0 (omega arith) ∙ begin; rising = rising; within = within }
        where
          long : length (take (n + 1) off₁) ≡ n + 1
          long = slices_offsets

          at_place : (i : ℕ) → i < n + 1 → get_or (take (n + 1) off₁) i 0 ≡ get_or off₁ i 0
          at_place i h = get_or-take (n + 1) off₁ i 0 h

          begin : get_or off₁ 0 0 ≡ 0
          begin =
              first_begin sheet.page.indexes ix₁ sheet.page.vertices v₁ sheet.page.pen.count sheet.offsets off₁ sheet.page.pen.at n same_entries entries_long same_numbers
              same_offsets 0 0 (map piece_at table) (omega (arith, few)) ends.stand

          rise : (i : ℕ) → i ≤ n → (get_or off₁ i 0 ≤ sheet.page.pen.at) × (i < n → get_or off₁ i 0 ≤ get_or off₁ (i + 1) 0)
          rise i h =
              let q : 0 + i ≡ i = omega arith in
              let r =
              offsets_rise sheet.page.indexes ix₁ sheet.page.vertices v₁ sheet.page.pen.count sheet.offsets off₁ sheet.page.pen.at n same_entries entries_long
              same_numbers same_offsets 0 0 (map piece_at table) (omega (arith, few)) ends.stand i (omega (arith, few)) in
              let w = rw q at r in
              (w.0, λ k. w.1 (omega (arith, few)))

          rising : (i : ℕ) → i + 1 < length (take (n + 1) off₁) → get_or (take (n + 1) off₁) i 0 ≤ get_or (take (n + 1) off₁) (i + 1) 0
          rising i h = rw (at_place i (omega (arith, long)), at_place (i + 1) (omega (arith, long))) ((rise i (omega (arith, long))).1 (omega (arith, long)))

          within : (i : ℕ) → i < length (take (n + 1) off₁) → get_or (take (n + 1) off₁) i 0 ≤ length ix₁
          within i h = rw (at_place i (omega (arith, long))) (omega (arith, (rise i (omega (arith, long))).0, entries_long))

      -- cell by cell the places of the theorem's pieces, equal by value
      pub cells_are : AllAlike cell_places (all_places sites tri he n v b)
      cells_are =
          let cells = rw few at cells_same in
          rw pieces_are at cells

      -- any form of sides adds up over the cells to what it is round the box
      pub slices_form : (f : SideForm b) → sum_by (round f.of) cell_places ≈ round f.of (corners_of b)
      slices_form f = omega (arith, sums_alike f cell_places (all_places sites tri he n v b) cells_are, form_sum ok b ordered sites v none f)

      pub slices_whole : all_gains cell_places + losses_of (corners_of b) ≡ gains_of (corners_of b) + all_losses cell_places
      slices_whole =
          let a = all_parts cell_places in
          let c = twice_parts (corners_of b) in
          omega (arith, slices_form (area_form b), twice_rounds cell_places, twice_round (corners_of b), a.0, a.1, c.0, c.1)

      -- every vertex that a piece names is in the box, by exact comparison
      places_in : (i k : ℕ) → i + k ≤ n → EachInBox b (map (piece_places sites tri he n v b) (numbers_from i k))
      places_in i zero l = tt
      places_in i (suc k) l = (cut_inside ok b ordered sites v none i (omega arith), places_in (suc i) k (omega arith))

      pub slices_inside : EachInBox b cell_places
      slices_inside = each_in b cell_places (all_places sites tri he n v b) cells_are (places_in 0 n (omega arith))
