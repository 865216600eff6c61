-- The stages as the code goes through them.
use Rattle.std.specs.Prelude.{◌≡◌, Bool, true, false, not, List, ℕ, ◌-◌, ◌/◌, ◌≤◌, ◌<◌, Float, length, Ok, Err}
use Rattle.std.proofs.Math.Path.{refl, ap}
use Rattle.std.proofs.Common.{sym, ◌∙◌, subst, arith, lt-ltb, le-ltb}
use Rattle.base.specs.common.Pick.{pick}
use Rattle.ring_area.specs.lowest.Lowest.{lowest, any_below}
use Rattle.ring_area.specs.lowest.laws.Loops.{no_both}
use Rattle.plane.specs.declared.boxes.BoundingBox.{BoundingBox}
use Rattle.auditing.specs.rings.Fan.{site_folds}
use Rattle.auditing.specs.corners.Outside.{site_outside}
use Rattle.auditing.specs.nearer.Nearer.{far_of, site_nearer}
use Rattle.auditing.specs.nearer.Steps.{PiecesKept}
use Rattle.auditing.specs.places.Places.{twin_at, has_twin}
use Rattle.auditing.specs.Verdict.{AuditVerdict, twin_verdict, places_stage, total_stage, nearer_verdict, nearer_stage, outside_verdict, outside_stage, rings_stage}
use Rattle.auditing.specs.laws.Names.{taken}
use Rattle.auditing.specs.declared.AuditFault.TheVariants.{Ring, Uncovered, Twin}

-- the lowest s below n is named, or what comes after is asked
module _ (p : ℕ → Bool) (n : ℕ) (named : ℕ → AuditVerdict) (after : AuditVerdict) {s : ℕ} (e : s ≡ lowest p n) where
  abbrev pub stage : AuditVerdict
  stage = pick (any_below p n) (λ _. named (lowest p n)) (λ _. after)

  pub stage_named : {r : AuditVerdict} → s < n → r ≡ named s → r ≡ stage
  stage_named h f = f ∙ ap named e ∙ sym (rw (lt-ltb (lowest p n) n (subst (λ (k : ℕ). k < n) e h)) refl)

  pub stage_after : {r : AuditVerdict} → n ≤ s → r ≡ after → r ≡ stage
  stage_after h f = f ∙ sym (rw (le-ltb (lowest p n) n (subst (λ (k : ℕ). n ≤ k) e h)) refl)

-- ---- the fifth
pub twin_named : (sites : List Float) (s : ℕ) {a b : ℕ} → a ≡ s → b ≡ lowest (twin_at sites s) s → ◌≡◌ {A = AuditVerdict} (Err (Twin a b)) (twin_verdict sites s)
twin_named sites s e f = rw (e, f) refl

module _ (sites : List Float) {s : ℕ} (e : s ≡ lowest (has_twin sites) (length sites / 2)) where
  pub places_named : {r : AuditVerdict} → s < length sites / 2 → r ≡ twin_verdict sites s → r ≡ places_stage sites
  unfolding places_stage
  places_named = stage_named (has_twin sites) (length sites / 2) (twin_verdict sites) (Ok tt) e

  pub places_none : length sites / 2 ≤ s → ◌≡◌ {A = AuditVerdict} (Ok tt) (places_stage sites)
  unfolding places_stage
  places_none h = stage_after (has_twin sites) (length sites / 2) (twin_verdict sites) (Ok tt) e h refl

-- ---- the fourth
pub total_told : (whole : Bool) (sites : List Float) → not whole ≡ true → ◌≡◌ {A = AuditVerdict} (Err Uncovered) (total_stage whole sites)
unfolding total_stage
total_told true sites e = absurd (no_both (sym e))
total_told false sites e = refl

pub total_after : (whole : Bool) (sites : List Float) {r : AuditVerdict} → not whole ≡ false → r ≡ places_stage sites → r ≡ total_stage whole sites
unfolding total_stage
total_after true sites e f = f
total_after false sites e f = absurd (no_both e)

-- ---- the third
module _ (whole : Bool) (far : Float) (sites : List Float) (starts others : List ℕ) (v : List Float) (off ix : List ℕ) {s : ℕ}
    (e : s ≡ lowest (site_nearer far sites starts others v off ix) (length sites / 2)) where
  pub nearer_stage_lem : {r : AuditVerdict} → s < length sites / 2 → r ≡ nearer_verdict far sites starts others v off ix s → r ≡ nearer_stage whole far sites starts others v off ix
  unfolding nearer_stage
  nearer_stage_lem = stage_named (site_nearer far sites starts others v off ix) (length sites / 2) (nearer_verdict far sites starts others v off ix) (total_stage whole sites) e

  pub nearer_after : {r : AuditVerdict} → length sites / 2 ≤ s → r ≡ total_stage whole sites → r ≡ nearer_stage whole far sites starts others v off ix
  unfolding nearer_stage
  nearer_after = stage_after (site_nearer far sites starts others v off ix) (length sites / 2) (nearer_verdict far sites starts others v off ix) (total_stage whole sites) e

-- ---- the second and the first: as many sites as the offsets say
pub count_is : {sites v : List Float} {off ix : List ℕ} → PiecesKept sites v off ix → length off - 1 ≡ length sites / 2
count_is {sites} {v} {off} p = omega (arith, p.cut.many)

module _ (whole : Bool) (b : BoundingBox) (bits : ℕ) (sites : List Float) (starts others : List ℕ) (v : List Float) (off ix : List ℕ) (p : PiecesKept sites v off ix) where
  module _ {s : ℕ} (e : s ≡ lowest (site_outside b v off ix) (length off - 1)) where
    same : s ≡ lowest (site_outside b v off ix) (length sites / 2)
    same = e ∙ ap (lowest (site_outside b v off ix)) (count_is p)

    pub outside_stage_lem : {r : AuditVerdict} → s < length sites / 2 → r ≡ outside_verdict b v off ix s → r ≡ outside_stage whole b bits sites starts others v off ix
    unfolding outside_stage
    outside_stage_lem = stage_named (site_outside b v off ix) (length sites / 2) (outside_verdict b v off ix) (nearer_stage whole (far_of b bits) sites starts others v off ix) same

    pub outside_taken : s < length sites / 2 → site_outside b v off ix s ≡ true
    outside_taken h = taken (site_outside b v off ix) (length sites / 2) same h

    pub outside_after : {r : AuditVerdict} {far : Float} {w : ℕ} → w ≡ bits → far ≡ far_of b w → length sites / 2 ≤ s → r ≡ nearer_stage whole far sites starts others v off ix
        → r ≡ outside_stage whole b bits sites starts others v off ix
    unfolding outside_stage
    outside_after {r} {far} x f h g =
        stage_after (site_outside b v off ix) (length sites / 2) (outside_verdict b v off ix) (nearer_stage whole (far_of b bits) sites starts others v off ix) same h
        (g ∙ ap (λ (t : Float). nearer_stage whole t sites starts others v off ix) (f ∙ ap (far_of b) x))

  module _ (box : ℕ) {s : ℕ} (e : s ≡ lowest (site_folds box bits v off ix) (length off - 1)) where
    all : s ≡ lowest (site_folds box bits v off ix) (length sites / 2)
    all = e ∙ ap (lowest (site_folds box bits v off ix)) (count_is p)

    pub rings_stage_lem : {a : ℕ} → s < length sites / 2 → a ≡ s → ◌≡◌ {A = AuditVerdict} (Err (Ring a)) (rings_stage box whole b bits sites starts others v off ix)
    unfolding rings_stage
    rings_stage_lem h f = stage_named (site_folds box bits v off ix) (length sites / 2) (λ k. Err (Ring k)) (outside_stage whole b bits sites starts others v off ix) all h (rw f refl)

    pub rings_after : {r : AuditVerdict} → length sites / 2 ≤ s → r ≡ outside_stage whole b bits sites starts others v off ix → r ≡ rings_stage box whole b bits sites starts others v off ix
    unfolding rings_stage
    rings_after = stage_after (site_folds box bits v off ix) (length sites / 2) (λ k. Err (Ring k)) (outside_stage whole b bits sites starts others v off ix) all
