-- What a certificate's promise gives the theorems on kind 0 (CertificateTrue): number 0 and kind 0 say that the arguments keep the rules and that the verdict is that of no fault.
use Rattle.std.specs.Prelude.{◌≡◌, refl, true, List, ℕ, ◌+◌, ◌*◌, ◌/◌, ◌<◌, Float, length}
use Rattle.std.proofs.Math.Path.{sym}
use Rattle.std.proofs.Common.{◌∙◌, lit≤}
use Prim.{tt}
use Rattle.std.specs.Float.Ieee.{lt}
use Rattle.plane.specs.points.Flat.{point_at}
use Rattle.plane.specs.points.Finite.{point_weaken, site_bounded}
use Rattle.plane.specs.given.Finite.{Fits}
use Rattle.plane.specs.declared.given.Given.{Given}
use Rattle.auditing.specs.Promise.{unless_refused}
use Rattle.audit_truth.specs.Held.{HeldPoint, HeldBox, AllHeld, HeldEdges}
use Rattle.certifying.specs.rules.Kept.{CertifyAdmitted, admitted}
use Rattle.certifying.specs.call.Promise.{CertifyAnswer}
use Rattle.certifying.specs.call.Verdict.{certify_kind, certify_on}
use Rattle.certifying.specs.truth.CertificateTrue.{CertifyKept}
use Rattle.certifying.specs.truth.Places.{raised_units}
use Rattle.certifying.specs.truth.laws.Boxed.{edge_held}
use Rattle.certifying.specs.truth.laws.Order.{lt_raised}

module _ {g : Given} {sites v : List Float} {off ix : List ℕ} {bits : ℕ} {old new : List ℕ} {k s e o : ℕ} (a : CertifyAnswer g sites v off ix bits old new 0 k s e o) where
  rules : CertifyAdmitted g.sound sites v off ix old bits
  rules = admitted {work = old} a.number refl

  pub answer_sound : g.sound ≡ true
  answer_sound = rules.box

  pub answer_zero : k ≡ 0 → certify_kind (certify_on g.bounds bits sites v off ix) ≡ 0
  unfolding unless_refused
  answer_zero z = sym a.kind_is ∙ z

  module _ (given : Fits g) (edges : HeldEdges g.bounds) (sites_held : AllHeld sites) (corners_held : AllHeld v) where
    box_held : HeldBox g.bounds
    box_held =
        let h = given.bounded rules.box in
        record {
          left = record { held = edges.left; bounded = h.left };
          right = record { held = edges.right; bounded = h.right };
          top = record { held = edges.top; bounded = h.top };
          bottom = record { held = edges.bottom; bounded = h.bottom };
        }

    site_held : (i : ℕ) → i < length sites / 2 → HeldPoint (point_at sites i)
    site_held i h =
        let p = point_weaken {j = 400} (lit≤ tt) (site_bounded (point_at sites i) (rules.near.sites_kept i h)) in
        record { x = record { held = sites_held (2 * i); bounded = p.x }; y = record { held = sites_held (2 * i + 1); bounded = p.y } }

    pub answer_kept : CertifyKept g.bounds bits sites v off ix
    answer_kept = record {
      box = box_held;
      fine = rules.fine;
      many = rules.near.pieces.cut.many;
      rings = rules.near.rings;
      sites_held = site_held;
      corners_held = corners_held;
    }

    -- edges in order
    module _ (c : ℕ) (pos : 0 < c) where
      pub answer_across : lt g.bounds.left g.bounds.right ≡ true → c * raised_units g.bounds.left < c * raised_units g.bounds.right
      answer_across = lt_raised c pos g.bounds.left g.bounds.right (edge_held box_held.left) (edge_held box_held.right)

      pub answer_down : lt g.bounds.top g.bounds.bottom ≡ true → c * raised_units g.bounds.top < c * raised_units g.bounds.bottom
      answer_down = lt_raised c pos g.bounds.top g.bounds.bottom (edge_held box_held.top) (edge_held box_held.bottom)
