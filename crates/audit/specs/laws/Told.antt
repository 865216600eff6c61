-- Rule 24 as a test, and the text by it.
use Rattle.std.specs.Prelude.{◌≡◌, ℕ, zero, suc, ◌/◌, ◌<◌, ◌≤◌, Bool, true, false, List, [], ◌∷◌, length, slice_index, refl, Float}
use Rattle.std.proofs.Common.{arith}
use Rattle.base.specs.common.laws.And.{and_left, and_right, and_both}
use Rattle.base.specs.numbers.Numbers.{refused_corner}
use Rattle.ring_area.specs.lowest.Lowest.{lowest}
use Rattle.ring_area.specs.lowest.laws.Loops.{lowest_first}
use Rattle.octets.specs.Wrote.{HasRoom}
use Rattle.plane.specs.points.Flat.{point_at}
use Rattle.plane.specs.centers.Circumcenter.{ok_center}
use Rattle.plane.specs.declared.boxes.BoundingBox.{BoundingBox}
use Rattle.areas.specs.Promise.{KeepsRule}
use Rattle.auditing.specs.total.Total.{missing_of}
use Rattle.auditing.specs.Verdict.{AuditVerdict, verdict_on}
use Rattle.audit.specs.turns.Turned.{turned_at, turned_count}
use Rattle.audit.specs.turns.laws.Turns.{count_few}
use Rattle.audit.specs.text.AuditLines.{audit_lines}
use Rattle.audit.specs.text.laws.Short.{lines_short}
use Rattle.printing.specs.parts.Labelled.{refusal}
use Rattle.audit.specs.Printed.{ok_corners, told}

corners_ok : (v : List Float) (es : List ℕ) → KeepsRule v es → ok_corners v es ≡ true
unfolding ok_corners
corners_ok v [] k = refl
corners_ok v (e ∷ es) k = and_both (ok_center (point_at v e)) (ok_corners v es) (k.each 0 (omega arith)) (corners_ok v es (record { each = λ i h. k.each (suc i) (omega arith) }))

ok_at : (v : List Float) (es : List ℕ) → ok_corners v es ≡ true → (k : ℕ) → k < length es → ok_center (point_at v (slice_index es k)) ≡ true
unfolding ok_corners
ok_at v [] h k l = absurd (omega arith)
ok_at v (e ∷ es) h zero l = and_left (ok_center (point_at v e)) (ok_corners v es) h
ok_at v (e ∷ es) h (suc k) l = ok_at v es (and_right (ok_center (point_at v e)) (ok_corners v es) h) k (omega arith)

broken : (v : List Float) (es : List ℕ) → (KeepsRule v es → ⊥) → ok_corners v es ≡ false
broken v es n = by (ok_corners v es) refl
  where
    by : (t : Bool) → ok_corners v es ≡ t → t ≡ false
    by true e = absurd (n (record { each = ok_at v es e }))
    by false e = refl

-- ---- numbers that fit, lines that have room
pub turned_few : (sites : List Float) (tri : List ℕ) → turned_count sites tri (length tri / 3) ≤ length tri / 3
turned_few sites tri = count_few sites tri (length tri / 3)

pub lowest_few : (sites : List Float) (tri : List ℕ) → lowest (turned_at sites tri) (length tri / 3) ≤ length tri / 3
lowest_few sites tri = (lowest_first (turned_at sites tri) (length tri / 3)).within

module _ (l : List ℕ) (c t w : ℕ) (d : AuditVerdict) (x : Float) (h : 65536 ≤ length l) where
  pub lines_within : length (audit_lines c t w d x) ≤ length l
  lines_within = omega (arith, lines_short c t w d x)

  pub lines_fit : HasRoom l 0 (audit_lines c t w d x)
  lines_fit = omega (arith, lines_short c t w d x)

-- ---- the text
module _ (b : BoundingBox) (sites : List Float) (tri : List ℕ) (v : List Float) (off ix : List ℕ) where
  pub told_refused : (KeepsRule v ix → ⊥) → told b sites tri v off ix ≡ refusal refused_corner
  unfolding told
  told_refused n = rw (broken v ix n)

  pub told_lines : KeepsRule v ix → {c t l : ℕ} {d : AuditVerdict} {x : Float} → c ≡ turned_count sites tri (length tri / 3) → t ≡ length tri / 3 → l ≡ lowest (turned_at sites tri) (length tri / 3)
      → d ≡ verdict_on b 20 sites [] [] v off ix → x ≡ missing_of b v off ix → told b sites tri v off ix ≡ audit_lines c t l d x
  unfolding told
  told_lines k p q r s u = rw (corners_ok v ix k, p, q, r, s, u)
