-- The loop over all sites: the definition on what is left of the table, from the present sheet, is the whole (`sheeting-start`, `sheeting_step`, `sheeting_end`).
use Rattle.std.specs.Prelude.{◌≡◌, refl, ℕ, suc, ◌+◌, ◌*◌, ◌/◌, ◌≤◌, ◌<◌, Float, get_or}
use Rattle.std.proofs.Common.{sym, ◌∙◌, add-one, arith, drop-cons}
use Rattle.std.proofs.Math.Path.{ap, subst}
use mathlib.Core.List.{List, [], ◌∷◌}
use Rattle.std.proofs.Math.ListN.{length, set, drop}
use Rattle.std.proofs.Math.Seq.{drop-length}
use Rattle.base.specs.common.Binary64.{zero}
use Rattle.base.specs.numbers.Numbers.{EMPTY}
use Rattle.cell_memory.specs.layout.Cleared.{cleared_from}
use Rattle.plane.specs.declared.boxes.BoundingBox.{BoundingBox}
use Rattle.mesh.specs.Mesh.{whole_of}
use Rattle.cutting.specs.cuts.Stream.{feed_all}
use Rattle.cutting.specs.declared.pen.Pen.{Pen}
use Rattle.cutting.specs.pen.Pen.{Page, page}
use Rattle.cutting.specs.pen.Room.{Roomy, Later, Ready, roomy_before}
use Rattle.cutting_writer.specs.stream.Stages.{ink_at, cut_four}
use Rattle.cutting_writer.specs.stream.laws.Stages.{ink_grows, all_grows}
use Rattle.cutting_writer.specs.turn.Turned.{turned_round}
use Rattle.cutting_writer.specs.end.Ended.{pen_ended, ended}
use Rattle.cutting_writer.specs.site.Ring.{site_ring}
use Rattle.cutting_writer.specs.ring.Inside.{out_on}
use Rattle.cutting_writer.specs.ring.laws.Inside.{inside_made}
use Rattle.cutting_writer.specs.copied.Copied.{CopiedInto}
use Rattle.cutting_writer.specs.sites.Pieces.{Sheet, site_ink, site_cut, sheet_from, cornered, start_pen, start_sheet, cut_sheet, CutInto, RoomyFrom, Cuttable}
use Rattle.cutting_writer.specs.sites.Loop.{sheet, Sheetable}
use Rattle.cutting_writer.specs.sites.laws.Anyhow.{sheet_anyhow, alike_cleared}

module _ (b : BoundingBox) (sites : List Float) (tri he : List ℕ) (centers : ℕ) where
  pub ink_later : (g : Page) (t : ℕ) → Later g (site_ink b sites tri he centers g t)
  unfolding site_ink
  ink_later g t = all_grows (λ g. g) (ink_at b centers) (ink_grows b sites centers) g (cut_four b sites (site_ring sites tri he g.vertices t))

  -- closing a piece keeps the count of vertices
  pub cut_count : (g : Page) (t : ℕ) → g.pen.count ≤ (site_cut b sites tri he centers g t).pen.count
  unfolding site_cut
  cut_count g t = (ink_later g t).count

  pub record Sheeting (table : List ℕ) (sh₀ : Sheet) (pen : Pen) (v : List Float) (ix off : List ℕ) (s : ℕ) : Type 0 where
    pub all : sheet_from b sites tri he centers s (drop s table) (sheet pen v ix off) ≡ sheet_from b sites tri he centers 0 table sh₀
    pub room : RoomyFrom b sites tri he centers (page pen v ix) (drop s table)
    pub corners : centers + 4 ≤ pen.count
    pub place : s ≤ length table

  module _ {table : List ℕ} {sh₀ : Sheet} {pen : Pen} {v : List Float} {ix off : List ℕ} (s : ℕ) (x : Sheeting table sh₀ pen v ix off s) where
    pub sheeting_at : pen.at ≤ EMPTY
    unfolding RoomyFrom
    sheeting_at = go (drop s table) x.room
      where
        go : (l : List ℕ) → RoomyFrom b sites tri he centers (page pen v ix) l → pen.at ≤ EMPTY
        go [] r = r.1
        go (t ∷ l) r = r.1

    module _ (more : s < length table) where
      abbrev t : ℕ
      t = get_or table s 0

      room_cons : RoomyFrom b sites tri he centers (page pen v ix) (get_or table s 0 ∷ drop (suc s) table)
      room_cons = subst (λ (l : List ℕ). RoomyFrom b sites tri he centers (page pen v ix) l) (drop-cons table s 0 more) x.room

      pub sheeting_asks : Ready centers (page pen v ix) (site_ink b sites tri he centers (page pen v ix) (get_or table s 0))
      unfolding RoomyFrom
      sheeting_asks = record { corners = x.corners; room = room_cons.0 }

      pub sheeting_step : {r : Pen} {v₁ : List Float} {ix₁ : List ℕ} → page r v₁ ix₁ ≡ site_cut b sites tri he centers (page pen v ix) (get_or table s 0)
          → Sheeting table sh₀ r v₁ ix₁ (set off s pen.at) (s + 1)
      unfolding RoomyFrom sheet_from
      sheeting_step {r} {v₁} {ix₁} e = record {
        all = rw (add-one s)
            (ap (λ (g : Page). sheet_from b sites tri he centers (suc s) (drop (suc s) table) (record { page = g; offsets = set off s pen.at })) e
            ∙ subst (λ (l : List ℕ). sheet_from b sites tri he centers s l (sheet pen v ix off) ≡ sheet_from b sites tri he centers 0 table sh₀) (drop-cons table s 0 more) x.all);
        room = rw (add-one s) (subst (λ (g : Page). RoomyFrom b sites tri he centers g (drop (suc s) table)) (sym e) room_cons.2);
        corners = let c : r.count ≡ (site_cut b sites tri he centers (page pen v ix) (get_or table s 0)).pen.count = ap (λ (g : Page). g.pen.count) e in
            omega (arith, c, cut_count (page pen v ix) (get_or table s 0), x.corners);
        place = omega arith;
      }

    pub sheeting_end : (over : length table ≤ s) → (sheet pen v ix (set off s pen.at) ≡ sheet_from b sites tri he centers 0 table sh₀) × Roomy (page pen v ix)
    unfolding RoomyFrom sheet_from
    sheeting_end over = (
      subst (λ (l : List ℕ). sheet_from b sites tri he centers s l (sheet pen v ix off) ≡ sheet_from b sites tri he centers 0 table sh₀) nil x.all,
      (subst (λ (l : List ℕ). RoomyFrom b sites tri he centers (page pen v ix) l) nil x.room).0,
    )
      where
        nil : drop s table ≡ []
        nil = let q : s ≡ length table = omega (arith, x.place) in rw q (drop-length table)

-- ---- the end of one piece
module _ (b : BoundingBox) (sites : List Float) (tri he : List ℕ) (centers : ℕ) (g h : Page) (t : ℕ) (e : h ≡ site_ink b sites tri he centers g t) where
  pub piece_ends : Roomy (site_ink b sites tri he centers g t) → (g.pen.at ≤ h.pen.at) × (h.pen.at ≤ length h.indexes)
  piece_ends r =
      subst (λ (u : Page). (g.pen.at ≤ u.pen.at) × (u.pen.at ≤ length u.indexes)) (sym e) ((ink_later b sites tri he centers g t).at, r.indexes)

  pub piece_made : {r : Pen} {ix : List ℕ} → r ≡ pen_ended g.pen.at h.pen → ix ≡ turned_round g.pen.at r.at h.indexes
      → page r h.vertices ix ≡ site_cut b sites tri he centers g t
  unfolding site_cut
  piece_made {r} {ix} q d =
      let k : ix ≡ turned_round g.pen.at (pen_ended g.pen.at h.pen).at h.indexes = d ∙ ap (λ (z : Pen). turned_round g.pen.at z.at h.indexes) q in
      let w : page r h.vertices ix ≡ ended g.pen.at h = (λ i. page (q i) h.vertices (k i)) in
      w ∙ ap (ended g.pen.at) e

-- ---- a piece that was copied
module _ (b : BoundingBox) (sites : List Float) (tri he : List ℕ) (centers t : ℕ) (thirds : length he ≤ 3 * centers) (small : length he < EMPTY) (g : Page)
    (r : Ready centers g (site_ink b sites tri he centers g t))
  where
    pub center_room : 2 * (length he / 3) ≤ length g.vertices
    center_room = omega (arith, r.corners, (roomy_before (ink_later b sites tri he centers g t) r.room).vertices)

    pub copied_made : {h : Page} → CopiedInto b he t g h → h ≡ site_cut b sites tri he centers g t
    unfolding site_cut site_ink
    copied_made x = x.made ∙ ap (ended g.pen.at) (inside_made b tri he centers t thirds small sites g r x.inside (feed_all out_on g (whole_of he t)) refl)

-- ---- all of them
module _ {b : BoundingBox} {sites : List Float} {tri he table : List ℕ} {v : List Float} {ix off : List ℕ} (k : Cuttable b sites tri he table v ix off) where
  pub cuttable_few : length tri / 3 < EMPTY
  unfolding RoomyFrom
  cuttable_few = go table k.room
    where
      go : (l : List ℕ) → RoomyFrom b sites tri he (length tri / 3) (start_sheet b (length tri / 3) v ix off).page l → length tri / 3 < EMPTY
      go [] r = omega (arith, r.0.small)
      go (t ∷ l) r = omega (arith, r.0.small, (ink_later b sites tri he (length tri / 3) (start_sheet b (length tri / 3) v ix off).page t).count)

  module _ {v₁ : List Float} (q : v₁ ≡ cornered b (length tri / 3) v) where
    -- whatever the offsets hold
    pub cuttable_sheet : (off₀ : List ℕ) → length off₀ ≡ length off → Sheetable b sites tri he table (length tri / 3) (start_pen (length tri / 3)) v₁ ix off₀
    cuttable_sheet off₀ long = record {
      thirds = k.thirds;
      small = k.small;
      corners = omega arith;
      few = k.few;
      one_more = omega (arith, long, k.one_more);
      room = subst (λ (u : List Float). RoomyFrom b sites tri he (length tri / 3) (page (start_pen (length tri / 3)) u ix) table) (sym q) k.room;
    }

    pub sheet_cleared : {pen : Pen} {v₂ v₃ : List Float} {ix₁ ix₂ off₁ off₂ : List ℕ} (off₀ : List ℕ) → length off₀ ≡ length off
        → sheet pen v₂ ix₁ off₁ ≡ sheet_from b sites tri he (length tri / 3) 0 table (sheet (start_pen (length tri / 3)) v₁ ix off₀)
        → Roomy (page pen v₂ ix₁) → v₃ ≡ cleared_from (2 * pen.count) zero v₂ → ix₂ ≡ cleared_from pen.at EMPTY ix₁ → off₂ ≡ cleared_from (length table + 1) EMPTY off₁
        → CutInto (length table) (cut_sheet b sites tri he table v ix off) pen.count v₃ ix₂ off₂
    unfolding cut_sheet
    sheet_cleared off₀ long made room c₁ c₂ c₃ =
        let m = made ∙ ap (λ (u : List Float). sheet_from b sites tri he (length tri / 3) 0 table (sheet (start_pen (length tri / 3)) u ix off₀)) q in
        let a = sheet_anyhow b sites tri he (length tri / 3) table (page (start_pen (length tri / 3)) (cornered b (length tri / 3) v) ix) off₀ off long (omega (arith, long, k.one_more)) in
        record {
          count = ap (λ (s : Sheet). s.page.pen.count) m ∙ ap (λ (g : Page). g.pen.count) a.page;
          small = room.small;
          vertices = c₁ ∙ ap (λ (s : Sheet). cleared_from (2 * s.page.pen.count) zero s.page.vertices) m ∙ ap (λ (g : Page). cleared_from (2 * g.pen.count) zero g.vertices) a.page;
          indexes = c₂ ∙ ap (λ (s : Sheet). cleared_from s.page.pen.at EMPTY s.page.indexes) m ∙ ap (λ (g : Page). cleared_from g.pen.at EMPTY g.indexes) a.page;
          offsets = c₃ ∙ ap (λ (s : Sheet). cleared_from (length table + 1) EMPTY s.offsets) m ∙ alike_cleared (length table + 1) EMPTY _ _ a.long a.entries;
        }
