-- A hull site's half-edge whose try is known to put nothing: where its walk ends, and that the slices hold what the definition's try there gives.
use Rattle.std.specs.Prelude.{◌≡◌, refl, Bool, true, false, List, ℕ, ◌/◌, ◌≤◌, ◌<◌, eqb, Float, length, get_or}
use Rattle.std.proofs.Common.{sym, ap, ◌∙◌, subst, arith, eqb-true}
use Rattle.std.proofs.lemmas.Bool.{eqb-false}
use Rattle.base.specs.common.Decide.{Says}
use Rattle.base.specs.numbers.Numbers.{EMPTY}
use Rattle.plane.specs.points.Flat.{points}
use Rattle.plane.specs.declared.points.Point.{Point}
use Rattle.plane.specs.declared.boxes.BoundingBox.{BoundingBox}
use Rattle.plane.specs.declared.lines.Crossing.TheVariants.{None}
use Rattle.mesh.specs.Mesh.{end_of, pair_of, turn_of}
use Rattle.mesh.specs.laws.Facts.{paired}
use Rattle.walks.specs.neighbours.Cursor.{rest_of, Settled}
use Rattle.walks.specs.neighbours.laws.Rest.{rest_step_lem, rest_settled, rest_done}
use Rattle.definition.specs.declared.Fault.{Fault}
use Rattle.definition.specs.Fault.{Outcome, ok, refused}
use Rattle.definition.specs.Cell.{vertex_at, edge_crossing}
use Rattle.definition.specs.Build.{CellState}
use Rattle.cell_builder.specs.declared.finish.Progress.{Progress}
use Rattle.cell_builder.specs.tried.SlicesInvariant.{Plan, Ground, Amid, Does, SomeHeld, edge_try}
use Rattle.cell_builder.specs.tried.laws.OneTry.{corners_in}
use Rattle.cell_builder.specs.tried.laws.HullAndEdgeTries.{edge_site, region_place}
use Rattle.cell_builder.specs.turned.Turns.{HullsIdle, HullBlank, ClosedRetry, Retries}
use Rattle.cell_builder.specs.turned.laws.IdleRing.{idle_end}
use Rattle.cell_builder.specs.turned.laws.IdleSites.{walk_end}
use Rattle.cell_builder.specs.turned.laws.Onward.{onward}
use Rattle.cell_builder.specs.turned.laws.OneTurn.{all_entries_lem, retry_nothing}

-- ---- where a walk ends

module _ (he : List ℕ) (s : ℕ) where
  -- at e, after `last`, it ends where the whole walk does
  pub record Ending (last e : ℕ) : Type 0 where
    pub within : last < length he
    pub settled : Settled he s e
    pub same : idle_end last (rest_of he s e) ≡ walk_end he s

  pub ending_start : s < length he → Settled he s s → (last e : ℕ) → last ≡ s → e ≡ s → Ending last e
  ending_start l sound last e q z = rw (q, z) (record { within = l; settled = sound; same = refl })

  module _ {last e : ℕ} (w : Ending last e) where
    pub ending_step : e < length he → (x : ℕ) → x ≡ turn_of he s e → Ending e x × (length (rest_of he s x) < length (rest_of he s e))
    ending_step l x q =
        let more = rest_step_lem he s e w.settled l in
        rw q (
          record { within = l; settled = rest_settled he s e w.settled l; same = sym (ap (idle_end last) more) ∙ w.same },
          omega (arith, ap length more),
        )

    pub ending_end : length he ≤ e → (last ≡ walk_end he s) × (last < length he)
    ending_end l = (sym (ap (idle_end last) (rest_done he s e l)) ∙ w.same, w.within)

-- ---- what is asked there

-- the first entry of a region, then the table's entry
pub blank_says : (he table ix off : List ℕ) (site : ℕ) → get_or ix (get_or off site 0) 0 ≡ EMPTY → (r : Bool) → r ≡ eqb (pair_of he (get_or table site 0)) EMPTY
    → Says r (HullBlank he table ix off site)
blank_says he table ix off site z true q = record { blank = z; on_hull_lem = eqb-true _ _ (sym q) }
blank_says he table ix off site z false q = λ b. eqb-false _ _ (sym q) b.on_hull_lem

pub blank_at : (he table ix off : List ℕ) {j k : ℕ} → j ≡ k → HullBlank he table ix off j → HullBlank he table ix off k
blank_at he table ix off q b = subst (HullBlank he table ix off) q b

module _ (tri he table ix off : List ℕ) (b : BoundingBox) (vs : List Point) (e last : ℕ) (q : last ≡ walk_end he e) where
  pub retry_says : HullBlank he table ix off (end_of tri e) → (r : Bool) → Says r (edge_crossing b (vertex_at vs (e / 3)) (vertex_at vs (last / 3)) ≡ None)
      → Says r (ClosedRetry tri he table ix off b vs e)
  retry_says u true m = record { site = u; outside = rw q at m }
  retry_says u false m = λ c. m (rw q c.outside)

-- ---- the slices

-- whatever the outcome of a try, without a fault there are cells
pub stands : {w : Plan} {g : Ground} (o : Outcome Fault CellState) {r : Progress} {v : List Float} {ix : List ℕ} → Does w g o r v ix → SomeHeld w g r v ix
stands (ok s) d z = (s, d)
stands (refused e) d z = absurd (omega (arith, d.1, rw d.0 at z))

module _ {w : Plan} {g : Ground} {s : CellState} {p : Progress} {v : List Float} {ix : List ℕ} (a : Amid w g s p v ix) {e : ℕ} (h : e < length w.triangles) where
  pub retries : Retries w.triangles w.halfedges w.table ix w.offsets p.count (length v) e
  retries = record {
    paired = paired a.on.mesh;
    threes = a.on.mesh.threes;
    same = a.on.mesh.same;
    few = a.on.few_entries;
    in_mesh = h;
    entry = (all_entries_lem (onward a)).each e h;
    starts = omega (arith, edge_site a e _ h refl, a.on.places);
    place = region_place a e _ h refl;
    centers = omega (arith, corners_in a);
    room = a.holds.room;
  }

  pub retry_kept : HullsIdle w g s → ClosedRetry w.triangles w.halfedges w.table ix w.offsets w.frame.bounds (points p.count v) e → Does w g (edge_try w e s) p v ix
  retry_kept known c = rw (retry_nothing (onward a) h known c.site.on_hull_lem (rw a.verts c.outside)) a
