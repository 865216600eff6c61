-- From the circumcenters' pass to the pieces: refused by 11, or what comes of the circumcenters (`centered_asks`, `centered_made`).
use Rattle.std.specs.Prelude.{◌≡◌, List, [], Bool, true, false, ◌≢◌, ℕ, ◌+◌, ◌/◌, ◌≤◌, ◌<◌, eqb, Float, length}
use Rattle.std.proofs.Common.{sym, ap, subst, ◌∙◌, arith}
use Rattle.base.specs.common.Binary64.{zero}
use Rattle.base.specs.numbers.Numbers.{refused_circumcenter, refused_triangle}
use Rattle.plane.specs.declared.points.Point.{Point}
use Rattle.plane.specs.declared.boxes.BoundingBox.{BoundingBox}
use Rattle.definition.specs.declared.Fault.{Fault}
use Rattle.definition.specs.Fault.{Outcome, ok, refused}
use Rattle.cell_memory.specs.layout.Cleared.{padded}
use Rattle.cell_builder.specs.rings.Centers.{CentersBy}
use Rattle.base.specs.common.Pick.{pick}
use Rattle.ring_area.specs.lowest.Lowest.{any_below}
use Rattle.cutting.specs.border.Border.{refused_border, undirected_at, turns_to, once_of, border_number}
use Rattle.cutting_writer.specs.sites.Pieces.{cut_sheet, CutInto, Cuttable}
use Rattle.cutting_calls.specs.call.Promise.{CutDone, centers_of, number_by, sheet_by}
use Rattle.cutting_calls.specs.call.Steps.{CutBy, Centered, CutCentered, Meshed}

module _ (b : BoundingBox) (sites : List Float) (tri he hull table : List ℕ) (v : List Float) (ix off : List ℕ) (t : ℕ) (w : List Float) where
  pub refused_number : (o : Outcome Fault (List Point)) → CentersBy o (length tri / 3) t v w → t < length tri / 3 → number_by b sites tri hull table v o ≡ refused_circumcenter
  refused_number (ok centers) c l = absurd (omega (arith, c.0))
  refused_number (refused f) c l = ap (λ (z : Fault). z.number) c.0

  pub centered_asks : (o : Outcome Fault (List Point)) → centers_of sites tri ≡ o → CentersBy o (length tri / 3) t v w → length tri / 3 ≤ t → length w ≡ length v
      → Meshed b sites tri he hull table v ix off → Centered b sites tri he hull table w ix off
  centered_asks (ok centers) q c l long k z =
      subst (λ (u : List Float). Cuttable b sites tri he table u ix off) (sym c.2)
      (k.cuttable centers q (subst (λ (u : List Float). length u ≡ length v) c.2 long) (subst (λ (u : List Float). border_number b sites tri hull table u ≡ 0) c.2 z))
  centered_asks (refused f) q c l long k z = absurd (omega (arith, c.1))

  pub centered_made : (o : Outcome Fault (List Point)) → CentersBy o (length tri / 3) t v w → length tri / 3 ≤ t → length w ≡ length v
      → {r : CutDone} {v₁ : List Float} {ix₁ off₁ : List ℕ} → CutCentered b sites tri he hull table w ix off r v₁ ix₁ off₁
      → CutBy (number_by b sites tri hull table v o) (sheet_by b sites tri he table v ix off o) (length table) v ix off r v₁ ix₁ off₁
  centered_made (ok centers) c l long {r} {v₁} {ix₁} {off₁} x = record {
    number = x.number ∙ ap (border_number b sites tri hull table) c.2;
    made = λ z. subst (λ (u : List Float). CutInto (length table) (cut_sheet b sites tri he table u ix off) r.count v₁ ix₁ off₁) c.2 (x.made z);
    late = x.late;
    none = λ z. let y = x.none z in record { none = y.none; vertices = y.vertices ∙ ap (λ (n : ℕ). padded n zero []) long; indexes = y.indexes; offsets = y.offsets };
  }
  centered_made (refused f) c l long x = absurd (omega (arith, c.1))

-- 25 is the only refusal of the border
pub border_late : (b : BoundingBox) (sites : List Float) (tri hull table : List ℕ) (v : List Float) {k : ℕ} → k ≡ border_number b sites tri hull table v → k ≢ 0 → refused_triangle ≤ k
unfolding border_number once_of
border_late b sites tri hull table v {k} q n =
    let t = turns_to b sites tri hull table v (length hull) in
    go (any_below (undirected_at sites tri hull table) (length hull)) (eqb t.comes (t.goes + 1)) q
  where
    go : (s u : Bool) → k ≡ pick s (λ _. refused_border) (λ _. pick u (λ _. 0) (λ _. refused_border)) → refused_triangle ≤ k
    go true u e = omega (arith, e)
    go false true e = absurd (n e)
    go false false e = omega (arith, e)
