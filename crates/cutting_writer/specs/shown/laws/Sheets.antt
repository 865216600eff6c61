-- Law: after all sites the entries of each piece, from its offset on, stand for the piece by the definition, one after the other (`sheet_stands`).
use Rattle.std.specs.Prelude.{◌≡◌, refl, None, ℕ, suc, ◌+◌, ◌*◌, ◌≤◌, ◌<◌, Float, length, get_or}
use Rattle.std.proofs.Math.Path.{subst}
use Rattle.std.proofs.Common.{◌∙◌, arith}
use mathlib.Core.List.{List, [], ◌∷◌, map}
use Rattle.std.proofs.Math.ListN.{set, length-set}
use Rattle.std.proofs.Math.Seq.{get_or-set_same, get_or-set_other}
use Rattle.base.specs.numbers.Numbers.{EMPTY}
use Rattle.plane.specs.declared.points.Point.{Point}
use Rattle.plane.specs.declared.boxes.BoundingBox.{BoundingBox}
use Rattle.cutting.specs.pen.Pen.{Page}
use Rattle.cutting.specs.pen.Room.{Roomy}
use Rattle.cutting_writer.specs.sites.Pieces.{Sheet, site_cut, sheet_from, RoomyFrom}
use Rattle.cutting_writer.specs.join.laws.Shown.{Shown, CornersIn, Based, shown_kept}
use Rattle.cutting_writer.specs.shown.laws.Inking.{origin, EntriesStand}
use Rattle.cutting_writer.specs.shown.laws.Sites.{PageKept, keeps_same, keeps_on, piece_from, site_stands, site_keeps, site_based, site_fresh}

-- the entries from `begin` on stand for these places, by the first n vertices
abbrev pub StandsAt : List ℕ → List Float → ℕ → ℕ → List Point → Type 0
StandsAt ix v n begin ps = (k : ℕ) → k < length ps → (get_or ix (begin + k) 0 < n) × Shown v (get_or ix (begin + k) 0) (get_or ps k origin)

-- pieces one after the other, each from its offset on, the first at place s of the offsets; all end at `end`
abbrev pub AllStand : List ℕ → List Float → ℕ → List ℕ → ℕ → ℕ → List (List Point) → ℕ → Type 0
AllStand ix v n off s begin [] end = (get_or off s 0 ≡ begin) × (begin ≡ end)
AllStand ix v n off s begin (ps ∷ r) end = (get_or off s 0 ≡ begin) × StandsAt ix v n begin ps × AllStand ix v n off (suc s) (begin + length ps) r end

-- what stands on a page stands on a later one
stands_later : (g h : Page) (begin : ℕ) (ps : List Point) → EntriesStand begin ps g → PageKept g h → StandsAt h.indexes h.vertices h.pen.count begin ps
stands_later g h begin ps s k i l =
    let w = s.shown i l in
    rw (k.entries (begin + i) (omega (arith, s.at)))
    (omega (arith, w.0, k.count), shown_kept g.vertices h.vertices g.pen.count (get_or g.indexes (begin + i) 0) (get_or ps i origin) k.kept w.0 w.1)

module _ (b : BoundingBox) (sites : List Float) (tri he : List ℕ) (centers : ℕ) (v : List Float) (corners : CornersIn b centers v) (small : centers < EMPTY) (thirds : length he ≤ 3 * centers)
  where
    abbrev after : ℕ → List ℕ → Sheet → Sheet
    after s table sh = sheet_from b sites tri he centers s table sh

    abbrev pieces : List ℕ → List (List Point)
    pieces table = map (piece_from b sites tri he centers v corners small thirds) table

    -- what the sheet holds in the end
    pub record SheetEnds (s : ℕ) (table : List ℕ) (sh : Sheet) : Type 0 where
      pub keeps : PageKept sh.page (after s table sh).page
      pub room : Roomy (after s table sh).page
      pub long : length (after s table sh).offsets ≡ length sh.offsets
      pub before : (i : ℕ) → i < s → get_or (after s table sh).offsets i 0 ≡ get_or sh.offsets i 0
      pub stand : AllStand (after s table sh).page.indexes (after s table sh).page.vertices (after s table sh).page.pen.count (after s table sh).offsets s sh.page.pen.at
          (pieces table) (after s table sh).page.pen.at

    pub sheet_stands : (table : List ℕ) (s : ℕ) (sh : Sheet) → Based centers v sh.page → sh.page.pen.ends ≡ None → RoomyFrom b sites tri he centers sh.page table
        → s + length table < length sh.offsets → SheetEnds s table sh
    unfolding sheet_from RoomyFrom
    sheet_stands [] s sh based none room long = record {
      keeps = keeps_same sh.page;
      room = room.0;
      long = length-set sh.offsets s sh.page.pen.at;
      before = λ i l. get_or-set_other sh.offsets s i sh.page.pen.at 0 (λ e. omega arith);
      stand = (get_or-set_same sh.offsets s sh.page.pen.at 0 (omega arith), refl);
    }
    sheet_stands (t ∷ table) s sh based none room long =
        let g : Page = sh.page in
        let h : Page = site_cut b sites tri he centers g t in
        let next : Sheet = record { page = h; offsets = set sh.offsets s g.pen.at } in
        let stood = site_stands b sites tri he centers v corners small thirds g based none t room.0 in
        let i = sheet_stands table (suc s) next (site_based b sites tri he centers v corners small thirds g based none t room.0)
        (site_fresh b sites tri he centers v corners small thirds g based none t room.0)
        room.2 (omega (arith, length-set sh.offsets s g.pen.at)) in
        record {
          keeps = keeps_on (site_keeps b sites tri he centers v corners small thirds g based none t room.0) i.keeps;
          room = i.room;
          long = i.long ∙ length-set sh.offsets s g.pen.at;
          before = λ j l. i.before j (omega arith) ∙ get_or-set_other sh.offsets s j g.pen.at 0 (λ e. omega arith);
          stand = (
            i.before s (omega arith) ∙ get_or-set_same sh.offsets s g.pen.at 0 (omega arith),
            stands_later h (after (suc s) table next).page g.pen.at (piece_from b sites tri he centers v corners small thirds t) stood i.keeps,
            subst (λ (k : ℕ). AllStand (after (suc s) table next).page.indexes (after (suc s) table next).page.vertices (after (suc s) table next).page.pen.count
                (after (suc s) table next).offsets (suc s) k (pieces table) (after (suc s) table next).page.pen.at) stood.at i.stand,
          );
        }
