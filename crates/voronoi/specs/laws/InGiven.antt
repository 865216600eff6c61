-- A promise on the box that a call made is one on the box that it was given: the two are equal.
use Rattle.std.specs.Prelude.{◌≡◌, List, ℕ, Float}
use Rattle.std.proofs.Common.{subst}
use Rattle.plane.specs.declared.points.Point.{Point}
use Rattle.plane.specs.declared.given.Given.{Given}
use Rattle.plane.specs.declared.boxes.BoundingBox.{BoundingBox}
use Rattle.plane.specs.declared.lines.Crossing.{Crossing}
use Rattle.mesh.specs.Accepted.{Mesh}
use Rattle.admission.specs.Slices.{Slices}
use Rattle.reasons.specs.declared.Question.{Question}
use Rattle.reasons.specs.declared.ReasonNumbers.{ReasonNumbers}
use Rattle.reasons.specs.call.Call.{WhyCall}
use Rattle.voronoi.specs.Plane.{Edges, Centered, Corners, Inside, ExclusivelyInside, WhichEdge, Meets}
use Rattle.cutting_calls.specs.cut_admission.CutSlices.{CutSlices}
use Rattle.voronoi.specs.Builds.{Build}
use Rattle.voronoi.specs.Cuts.{Cut}
use Rattle.voronoi.specs.Audits.{Audit}
use Rattle.voronoi.specs.Certificates.{Certify}

module _ {g h : Given} (e : g ≡ h) where
  pub edges_in : {n : ℕ} {l t r b a d : Float} → Edges g n l t r b a d → Edges h n l t r b a d
  edges_in {n} {l} {t} {r} {b} {a} {d} p = subst (λ (x : Given). Edges x n l t r b a d) e p

  pub centered_in : {n : ℕ} {x y a d : Float} → Centered g n x y a d → Centered h n x y a d
  centered_in {n} {x} {y} {a} {d} p = subst (λ (k : Given). Centered k n x y a d) e p

  pub corners_in : {l k : List Float} {n : ℕ} → Corners g l n k → Corners h l n k
  corners_in {l} {k} {n} p = subst (λ (x : Given). Corners x l n k) e p

  pub inside_in : (p : Point) {n y : ℕ} → Inside g p n y → Inside h p n y
  inside_in p {n} {y} q = subst (λ (x : Given). Inside x p n y) e q

  pub exclusively_in : (p : Point) {n y : ℕ} → ExclusivelyInside g p n y → ExclusivelyInside h p n y
  exclusively_in p {n} {y} q = subst (λ (x : Given). ExclusivelyInside x p n y) e q

  pub side_in : (p : Point) {n s : ℕ} → WhichEdge g p n s → WhichEdge h p n s
  side_in p {n} {s} q = subst (λ (x : Given). WhichEdge x p n s) e q

  -- the line or the ray
  pub meets_in : (c : BoundingBox → Point → Point → Crossing) (p q : Point) {n k : ℕ} {x y u v : Float} → Meets c g p q n k x y u v → Meets c h p q n k x y u v
  meets_in c p q {n} {k} {x} {y} {u} {v} m = subst (λ (o : Given). Meets c o p q n k x y u v) e m

  pub build_in : {m : Mesh} {old new : Slices} {r : ℕ} → Build m g old new r → Build m h old new r
  build_in {m} {old} {new} {r} b = subst (λ (x : Given). Build m x old new r) e b

  pub cut_in : {m : Mesh} {old new : CutSlices} {r n : ℕ} → Cut m g old new r n → Cut m h old new r n
  cut_in {m} {old} {new} {r} {n} c = subst (λ (x : Given). Cut m x old new r n) e c

  pub why_in : {m : Mesh} {q : Question} {old new : Slices} {t : ReasonNumbers} → WhyCall m g q old new t → WhyCall m h q old new t
  why_in {m} {q} {old} {new} {t} w = subst (λ (x : Given). WhyCall m x q old new t) e w

  pub audit_in : {sites v : List Float} {off ix starts others : List ℕ} {bits r k s c o : ℕ} {m : Float} → Audit g sites v off ix starts others bits r k s c o m
      → Audit h sites v off ix starts others bits r k s c o m
  audit_in {sites} {v} {off} {ix} {starts} {others} {bits} {r} {k} {s} {c} {o} {m} a = subst (λ (x : Given). Audit x sites v off ix starts others bits r k s c o m) e a

  pub certify_in : {sites v : List Float} {off ix : List ℕ} {bits : ℕ} {w w' : List ℕ} {r k s c o : ℕ} → Certify g sites v off ix bits w w' r k s c o
      → Certify h sites v off ix bits w w' r k s c o
  certify_in {sites} {v} {off} {ix} {bits} {w} {w'} {r} {k} {s} {c} {o} a = subst (λ (x : Given). Certify x sites v off ix bits w w' r k s c o) e a
