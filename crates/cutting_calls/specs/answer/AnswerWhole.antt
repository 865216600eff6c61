-- Theorem: where the cutting answers 0, the exact areas of the pieces in its slices add up to exactly the box's (`whole`), and every vertex that a piece names is in the box by exact
-- comparison (`inside`): on its promise alone, whatever the mesh. Any form of sides adds up to what it is round the box (`forms`), and the offsets cut the
-- entries into cells (`cells`).
use Rattle.std.specs.Prelude.{◌≡◌, refl, Bool, true, false, List, [], ◌∷◌, ◌++◌, map, ℕ, zero, suc, ◌+◌, ◌*◌, ◌/◌, ◌≤◌, Float, length, take}
use Rattle.std.proofs.Common.{sym, ◌∙◌, ⊎_elim, arith, length-append}
use Rattle.base.specs.common.Binary64 as B
use Rattle.base.specs.common.Pick.{pick}
use Rattle.base.specs.common.Refusals.{Keep}
use Rattle.base.specs.common.laws.Refusals.{finds_none, finds_split}
use Rattle.base.specs.numbers.Numbers.{EMPTY, refused_circumcenter}
use Rattle.plane.specs.points.Flat.{point_at, pour}
use Rattle.plane.specs.declared.points.Point.{Point}
use Rattle.vertices.specs.laws.Points.{length_pour}
use Rattle.ring_area.specs.Steps.{gains_of, losses_of}
use Rattle.plane.specs.boxes.Box.{corners_of}
use Rattle.plane.specs.declared.boxes.BoundingBox.{BoundingBox}
use Rattle.plane.specs.declared.given.Given.{Given}
use Rattle.mesh.specs.Rules.{call_rules}
use Rattle.mesh.specs.Accepted.{Mesh, table_of, site_count}
use Rattle.mesh.specs.laws.Facts.{topology, tab_length}
use Rattle.plane.specs.centers.Circumcenter.{ok_center}
use Rattle.mesh_check.specs.whole.laws.AtExit.{exit_made}
use Rattle.definition.specs.declared.Fault.{Fault}
use Rattle.definition.specs.Fault.{Outcome, ok, refused}
use Rattle.definition.specs.Build.{center_at, centers_from}
use Rattle.walks.specs.shared.Cells.{Cells, cell_of}
use Rattle.arguments.specs.asking.Asks.{box_rules}
use Rattle.arguments.specs.asking.laws.Asks.{box_answers}
use Rattle.admission.specs.Admits.{asked_rules, Admitted}
use Rattle.admission.specs.laws.Admits.{asked_finds, call_answers, admitted}
use Rattle.cutting_calls.specs.cut_admission.CutSlices.{CutSlices, cut_room_of}
use Rattle.cutting_calls.specs.cut_admission.laws.CutRoom.{cut_granted}
use Rattle.cutting.specs.cuts.Numbers.{◌≈◌}
use Rattle.cutting.specs.cuts.Rings.{sum_by}
use Rattle.cutting.specs.cuts.Written.{round}
use Rattle.cutting.specs.sides.Area.{SideForm}
use Rattle.cutting.specs.sides.Kept.{Ordered}
use Rattle.cutting.specs.border.Border.{border_number}
use Rattle.cell_memory.specs.layout.Cleared.{cleared_from}
use Rattle.cutting_writer.specs.sites.Pieces.{Sheet, cut_sheet, CutInto, Cuttable}
use Rattle.cutting_laws.specs.theorem.MeshPieces.{numbers_from, all_gains, all_losses}
use Rattle.cutting_laws.specs.fills.laws.Within.{EachInBox}
use Rattle.cutting_laws.specs.fills.SlicesWhole.{few_vertices, slices_offsets, slices_cells, slices_form, slices_whole, slices_inside}
use Rattle.cutting_laws.specs.fit.laws.Room.{roomy_start}
use Rattle.cutting_calls.specs.call.Promise.{centers_of, number_by, sheet_by, cut_number, cut_of, CutAnswer}
use Rattle.cutting_calls.specs.call.Steps.{InOrder}

-- the places of each cell's entries, in the slices at exit
abbrev pub pieces_in : Mesh → CutSlices → List (List Point)
pieces_in m new = map (λ s. map (point_at new.vertices) (cell_of new.offsets new.indexes s)) (numbers_from 0 (site_count m.sites))

-- the exact areas of all of them are together exactly the box's: what is added and what is taken off, as ring_area has it
abbrev pub FillsBox : BoundingBox → List (List Point) → Type 0
FillsBox b ps = all_gains ps + losses_of (corners_of b) ≡ gains_of (corners_of b) + all_losses ps

-- what stands in the slices: areas, places, any form of sides, and cells cut by the first offsets, one more than there are sites
record CutStands (b : BoundingBox) (m : Mesh) (new : CutSlices) : Type 0 where
  fills : FillsBox b (pieces_in m new)
  in_box_lem : EachInBox b (pieces_in m new)
  forms : (f : SideForm b) → sum_by (round f.of) (pieces_in m new) ≈ round f.of (corners_of b)
  long : length (take (site_count m.sites + 1) new.offsets) ≡ site_count m.sites + 1
  cut : Cells (take (site_count m.sites + 1) new.offsets) (length new.indexes)

-- as many circumcenters as triangles, or 11
abbrev Fit : ℕ → Outcome Fault (List Point) → Type 0
Fit k (ok ws) = length ws ≡ k
Fit k (refused f) = f.number ≡ refused_circumcenter

one_more : (k : ℕ) (vs : List Point) (c : Point) (o : Outcome Fault (List Point)) → Fit (length (vs ++ c ∷ []) + k) o → Fit (length vs + suc k) o
one_more k vs c (ok ws) h = omega (arith, h, length-append vs (c ∷ []))
one_more k vs c (refused f) h = h

centers_fit : (sites : List Float) (tri : List ℕ) (t k : ℕ) (vs : List Point) → Fit (length vs + k) (centers_from sites tri t k vs)
unfolding centers_from
centers_fit sites tri t zero vs = omega arith
centers_fit sites tri t (suc k) vs = go (ok_center c) (one_more k vs c (centers_from sites tri (suc t) k (vs ++ c ∷ [])) (centers_fit sites tri (suc t) k (vs ++ c ∷ [])))
  where
    c : Point
    c = center_at sites tri t

    go : (a : Bool) → Fit (length vs + suc k) (centers_from sites tri (suc t) k (vs ++ c ∷ []))
        → Fit (length vs + suc k)
        (pick a (λ _. centers_from sites tri (suc t) k (vs ++ c ∷ [])) (λ _. refused (record { number = refused_circumcenter; place = t; from = 0; to = 0 })))
    go true h = h
    go false h = refl

module _ (m : Mesh) (g : Given) (order : InOrder g) (old new : CutSlices) (count : ℕ) (answer : CutAnswer m g old new 0 count) where
  abbrev n : ℕ
  n = site_count m.sites

  abbrev T : ℕ
  T = length m.triangles / 3

  kept : Keep (call_rules m (cut_room_of m old ≡ true) (box_rules g.sound)) × (cut_number m g.bounds old.vertices ≡ 0)
  kept = ⊎_elim
      (λ w. absurd (w.1 refl))
      (λ w. (w.0, sym (asked_finds (cut_number m g.bounds old.vertices) w.1)))
      (finds_split (call_rules m (cut_room_of m old ≡ true) (box_rules g.sound)) (asked_rules (cut_number m g.bounds old.vertices))
      (call_answers m (cut_room_of m old ≡ true) (box_rules g.sound) (box_answers g.sound)) answer.number)

  through : Admitted m (cut_room_of m old) (box_rules g.sound)
  through = admitted (box_answers g.sound) (record { found = finds_none kept.0 }) refl

  module _ (centers : List Point) (many : length centers ≡ T) (once : border_number g.bounds m.sites m.triangles m.hull (table_of m) (pour centers old.vertices) ≡ 0) where
    abbrev v : List Float
    v = pour centers old.vertices

    ready : Cuttable g.bounds m.sites m.triangles m.halfedges (table_of m) v old.indexes old.offsets
    ready =
        let k = cut_granted n T (length m.hull) (length old.work) (length old.vertices) (length old.indexes) (length old.offsets) through.roomed in
        let ok = through.accepted in
        let long : length v ≡ length old.vertices = length_pour centers old.vertices (omega (arith, many, k.vertices)) in
        record {
          thirds = omega (arith, ok.counts.same, ok.counts.threes);
          small = omega (arith, ok.counts.same, ok.counts.few_triangles);
          few = rw (tab_length (topology ok)) (omega (arith, ok.counts.few_sites));
          corners = omega (arith, long, k.vertices);
          one_more = rw (tab_length (topology ok)) k.one_more;
          room = roomy_start m g.bounds ok (order through.fit.0) v old.indexes old.offsets (omega (arith, long, k.vertices)) k.entries once;
        }

    abbrev made : Sheet
    made = cut_sheet g.bounds m.sites m.triangles m.halfedges (table_of m) v old.indexes old.offsets

    made_whole : count ≡ made.page.pen.count → new.vertices ≡ cleared_from (2 * made.page.pen.count) B.zero made.page.vertices
        → new.indexes ≡ cleared_from made.page.pen.at EMPTY made.page.indexes → new.offsets ≡ cleared_from (n + 1) EMPTY made.offsets
        → CutStands g.bounds m new
    made_whole counted vertices indexes offsets = record {
      fills = slices_whole (topology through.accepted) g.bounds (order through.fit.0) m.sites v old.indexes old.offsets once ready into;
      in_box_lem = slices_inside (topology through.accepted) g.bounds (order through.fit.0) m.sites v old.indexes old.offsets once ready into;
      forms = slices_form (topology through.accepted) g.bounds (order through.fit.0) m.sites v old.indexes old.offsets once ready into;
      long = slices_offsets (topology through.accepted) g.bounds (order through.fit.0) m.sites v old.indexes old.offsets once ready into;
      cut = slices_cells (topology through.accepted) g.bounds (order through.fit.0) m.sites v old.indexes old.offsets once ready into;
    }
      where
        few : count ≤ EMPTY
        few = omega (arith, counted, few_vertices (topology through.accepted) g.bounds (order through.fit.0) m.sites v old.indexes old.offsets once ready)

        into : CutInto n made count new.vertices new.indexes new.offsets
        into = record { count = counted; small = few; vertices = vertices; indexes = indexes; offsets = offsets }

  abbrev sheet : Outcome Fault (List Point) → Sheet
  sheet o = sheet_by g.bounds m.sites m.triangles m.halfedges (table_of m) old.vertices old.indexes old.offsets o

  stands : CutStands g.bounds m new
  unfolding cut_number cut_of
  stands =
      go (centers_of m.sites m.triangles) (centers_fit m.sites m.triangles 0 T []) kept.1 answer.counted
      (answer.vertices ∙ exit_made B.zero _ old.vertices 0 refl) (answer.indexes ∙ exit_made EMPTY _ old.indexes 0 refl) (answer.offsets ∙ exit_made EMPTY _ old.offsets 0 refl)
    where
      go : (o : Outcome Fault (List Point)) → Fit (0 + T) o → number_by g.bounds m.sites m.triangles m.hull (table_of m) old.vertices o ≡ 0
          → count ≡ (sheet o).page.pen.count → new.vertices ≡ cleared_from (2 * (sheet o).page.pen.count) B.zero (sheet o).page.vertices
          → new.indexes ≡ cleared_from (sheet o).page.pen.at EMPTY (sheet o).page.indexes → new.offsets ≡ cleared_from (n + 1) EMPTY (sheet o).offsets
          → CutStands g.bounds m new
      go (ok centers) fit number counted vertices indexes offsets =
          made_whole centers (omega (arith, fit)) number counted vertices indexes offsets
      go (refused f) fit number counted vertices indexes offsets = absurd (omega (arith, fit, number))

  pub ordered : Ordered g.bounds
  ordered = order through.fit.0

  pub whole : FillsBox g.bounds (pieces_in m new)
  whole = stands.fills

  pub inside : EachInBox g.bounds (pieces_in m new)
  inside = stands.in_box_lem

  pub forms : (f : SideForm g.bounds) → sum_by (round f.of) (pieces_in m new) ≈ round f.of (corners_of g.bounds)
  forms = stands.forms

  pub offsets_long : length (take (site_count m.sites + 1) new.offsets) ≡ site_count m.sites + 1
  offsets_long = stands.long

  pub cells : Cells (take (site_count m.sites + 1) new.offsets) (length new.indexes)
  cells = stands.cut
