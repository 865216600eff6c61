-- Law: 7T + 2H + 4 vertices and 16T + 11H entries have room for the pieces of every accepted mesh whose border's number is 0, tangled ones too (`roomy_start`).
use Rattle.std.specs.Prelude.{◌≡◌, refl, Bool, true, false, List, Float, get_or, drop, ltb}
use Rattle.std.proofs.Common.{◌∙◌, arith, length-set, drop-cons, ltb-false}
use Prim.Native.Nat.{ℕ, zero, suc, ◌+◌, ◌-◌, ◌*◌, ◌/◌, ◌≤◌, ◌<◌}
use Rattle.std.proofs.Math.ListN.{length}
use Rattle.std.proofs.Math.Seq.{drop-length}
use Rattle.base.specs.common.Pick.{pick}
use Rattle.base.specs.common.Count.{sum_to}
use Rattle.base.specs.numbers.Numbers.{EMPTY}
use Rattle.plane.specs.declared.boxes.BoundingBox.{BoundingBox}
use Rattle.mesh.specs.Mesh.{leftmost_of}
use Rattle.mesh.specs.Accepted.{Mesh, Accepted, Topology, table_of, site_count}
use Rattle.mesh.specs.laws.Facts.{topology, tab_length}
use Rattle.cutting.specs.sides.Kept.{Ordered}
use Rattle.cutting.specs.border.Border.{border_number}
use Rattle.cutting.specs.rings.Counts.{site_names}
use Rattle.cutting.specs.rooms.laws.Rings.{bisectors, entries_room, points_room}
use Rattle.cutting.specs.declared.pen.Pen.{Pen}
use Rattle.cutting.specs.pen.Pen.{Page}
use Rattle.cutting.specs.pen.Room.{Roomy}
use Rattle.cutting_writer.specs.stream.Stages.{cut_four}
use Rattle.cutting_writer.specs.turn.laws.Turning.{turned_length}
use Rattle.cutting_writer.specs.end.Ended.{closes, closed_at, kept_at, pen_ended, ended}
use Rattle.cutting_writer.specs.site.Ring.{site_ring}
use Rattle.cutting_writer.specs.sites.Pieces.{site_ink, site_cut, cornered, start_sheet, RoomyFrom}
use Rattle.cutting_writer.specs.sites.laws.Sheets.{ink_later}
use Rattle.cutting_laws.specs.fit.laws.Bounds.{Takes, ink_bound}
use Rattle.cutting_laws.specs.fit.laws.Rings.{ring_bound}

-- ---- closing a piece takes entries off, if anything
kept_between : (begin at : ℕ) → begin ≤ at → (begin ≤ kept_at begin at) × (kept_at begin at ≤ at)
unfolding kept_at
kept_between begin at h = go (ltb (at - begin) 3)
  where
    go : (t : Bool) → (begin ≤ pick t (λ _. begin) (λ _. at)) × (pick t (λ _. begin) (λ _. at) ≤ at)
    go true = (omega arith, h)
    go false = (h, omega arith)

closed_between : (begin : ℕ) (pen : Pen) → begin ≤ pen.at → (begin ≤ closed_at begin pen) × (closed_at begin pen ≤ pen.at)
unfolding closed_at
closed_between begin pen h = go (ltb (pen.at - begin) 2) refl (closes pen.ends)
  where
    go : (t : Bool) → ltb (pen.at - begin) 2 ≡ t → (z : Bool)
        → (begin ≤ pick t (λ _. pen.at) (λ _. pick z (λ _. pen.at - 1) (λ _. pen.at))) × (pick t (λ _. pen.at) (λ _. pick z (λ _. pen.at - 1) (λ _. pen.at)) ≤ pen.at)
    go true q z = (h, omega arith)
    go false q true = (omega (arith, ltb-false (pen.at - begin) 2 q), omega arith)
    go false q false = (h, omega arith)

ended_between : (begin : ℕ) (pen : Pen) → begin ≤ pen.at → (begin ≤ (pen_ended begin pen).at) × ((pen_ended begin pen).at ≤ pen.at)
ended_between begin pen h =
    let c = closed_between begin pen h in
    let k = kept_between begin (closed_at begin pen) c.0 in
    (k.0, omega (arith, k.1, c.1))

ended_long : (begin : ℕ) (g : Page) → begin ≤ g.pen.at → g.pen.at ≤ length g.indexes → length (ended begin g).indexes ≡ length g.indexes
ended_long begin g h r =
    let e = ended_between begin g.pen h in
    turned_length begin (pen_ended begin g.pen).at g.indexes 0 e.0 (omega (arith, e.1))

module _ {tri he hull : List ℕ} {n : ℕ} (ok : Topology tri he hull n) (b : BoundingBox) (ordered : Ordered b) (sites centers : List Float)
    (none : border_number b sites tri hull (leftmost_of tri he n) centers ≡ 0) (numbers entries : ℕ) (vertex-room : 7 * (length tri / 3) + 2 * length hull + 4 ≤ numbers / 2)
    (entry_room : 16 * (length tri / 3) + 11 * length hull ≤ entries) (few : 16 * (length tri / 3) + 11 * length hull + 4 ≤ EMPTY)
  where
    abbrev T : ℕ
    T = length tri / 3

    -- what each site takes at most, whatever stands in the slices
    abbrev entries_of : ℕ → ℕ
    entries_of s = 81 * length (site_names ok s) / 16

    abbrev points_of : ℕ → ℕ
    points_of s = 2 * bisectors (site_names ok s)

    entries_most : (s : ℕ) → s ≤ n → sum_to entries_of s ≤ 16 * T + 11 * length hull
    entries_most s l = entries_room ok entries_of (λ k _. omega arith) s l

    points_most : (s : ℕ) → s ≤ n → sum_to points_of s ≤ 6 * T + 2 * length hull
    points_most s l = points_room ok points_of (λ k _. omega arith) s l

    -- the page before site s
    record Filled (s : ℕ) (g : Page) : Type 0 where
      pub at : g.pen.at ≤ sum_to entries_of s
      pub count : g.pen.count ≤ T + 4 + sum_to points_of s
      pub corners : T + 4 ≤ g.pen.count
      pub vertices : length g.vertices ≡ numbers
      pub indexes : length g.indexes ≡ entries

    filled_roomy : (s : ℕ) (g : Page) → s ≤ n → Filled s g → Roomy g × (g.pen.at ≤ EMPTY)
    filled_roomy s g l f =
        let e = entries_most s l in
        let p = points_most s l in (
          record {
            vertices = omega (arith, e, p, f.count, f.vertices, vertex-room);
            indexes = omega (arith, e, f.at, f.indexes, entry_room);
            small = omega (arith, p, f.count, few);
          },
          omega (arith, e, f.at, few),
        )

    module _ (s : ℕ) (l : s < n) (g : Page) (f : Filled s g) where
      abbrev t : ℕ
      t = get_or (leftmost_of tri he n) s 0

      inked_takes : Takes b T (entries_of s) (points_of s) g (site_ink b sites tri he T g t)
      unfolding site_ink
      inked_takes =
          let r = ring_bound ok b ordered sites centers none (omega (arith, few)) g.vertices s l in
          let k = ink_bound b T (cut_four b sites (site_ring sites tri he g.vertices t)) r.near r.numbers g f.corners in
          record { entries_most = omega (arith, k.entries_most, r.entries); points_most = omega (arith, k.points_most, r.points) }

      ink_filled : Filled (suc s) (site_ink b sites tri he T g t)
      ink_filled =
          let k = inked_takes in
          let y = ink_later b sites tri he T g t in
          record {
            at = omega (arith, k.entries_most, f.at);
            count = omega (arith, k.points_most, f.count);
            corners = omega (arith, y.count, f.corners);
            vertices = y.numbers ∙ f.vertices;
            indexes = y.entries ∙ f.indexes;
          }

      cut_filled : Filled (suc s) (site_cut b sites tri he T g t)
      unfolding site_cut
      cut_filled =
          let i = ink_filled in
          let y = ink_later b sites tri he T g t in
          let e = ended_between g.pen.at (site_ink b sites tri he T g t).pen y.at in
          let r = (filled_roomy (suc s) (site_ink b sites tri he T g t) l i).0 in
          record {
            at = omega (arith, e.1, i.at);
            count = i.count;
            corners = i.corners;
            vertices = i.vertices;
            indexes = ended_long g.pen.at (site_ink b sites tri he T g t) y.at r.indexes ∙ i.indexes;
          }

    roomy_from : (k s : ℕ) → s + k ≡ n → (g : Page) → Filled s g → RoomyFrom b sites tri he T g (drop s (leftmost_of tri he n))
    unfolding RoomyFrom
    roomy_from zero s q g f =
        let e : s ≡ length (leftmost_of tri he n) = omega (arith, tab_length ok) in
        rw (e, drop-length (leftmost_of tri he n)) (filled_roomy s g (omega arith) f)
    roomy_from (suc k) s q g f =
        rw (drop-cons (leftmost_of tri he n) s 0 (omega (arith, tab_length ok))) (
          (filled_roomy (suc s) (site_ink b sites tri he T g (get_or (leftmost_of tri he n) s 0)) (omega arith) (ink_filled s (omega arith) g f)).0,
          (filled_roomy s g (omega arith) f).1,
          roomy_from k (suc s) (omega arith) (site_cut b sites tri he T g (get_or (leftmost_of tri he n) s 0)) (cut_filled s (omega arith) g f),
        )

cornered_long : (b : BoundingBox) (centers : ℕ) (v : List Float) → length (cornered b centers v) ≡ length v
unfolding cornered
cornered_long b centers v = simp length-set

pub roomy_start : (m : Mesh) (b : BoundingBox) → Accepted m → Ordered b → (v : List Float) (ix off : List ℕ)
    → 7 * (length m.triangles / 3) + 2 * length m.hull + 4 ≤ length v / 2 → 16 * (length m.triangles / 3) + 11 * length m.hull ≤ length ix
    → border_number b m.sites m.triangles m.hull (table_of m) v ≡ 0
    → RoomyFrom b m.sites m.triangles m.halfedges (length m.triangles / 3) (start_sheet b (length m.triangles / 3) v ix off).page (table_of m)
roomy_start m b ok ordered v ix off vertex-room entry_room none =
    roomy_from (topology ok) b ordered m.sites v none (length v) (length ix) vertex-room entry_room
    (omega (arith, ok.counts.few_triangles, ok.counts.hull_of_sites, ok.counts.few_sites)) (site_count m.sites) 0 (omega arith) (start_sheet b (length m.triangles / 3) v ix off).page
    (record { at = omega arith; count = omega arith; corners = omega arith; vertices = cornered_long b (length m.triangles / 3) v; indexes = refl })
