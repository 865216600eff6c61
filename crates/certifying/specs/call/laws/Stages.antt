-- The stages of the verdict as the code makes them.
use Rattle.std.specs.Prelude.{◌≡◌, Bool, not, ℕ, ◌+◌, ◌-◌, ◌/◌, ◌≤◌, ◌<◌, Float, Ok, Err}
use Rattle.std.proofs.Math.Path.{refl, sym, ap, subst}
use Rattle.std.proofs.Common.{◌∙◌, inl, arith}
use Rattle.std.proofs.Math.Bool.{true, false}
use mathlib.Core.List.{List, []}
use Rattle.std.proofs.Math.Logic.{⊎_elim}
use borrow.Author.Tests.{lt-ltb, le-ltb, ltb-true, not-true, not-false}
use Rattle.std.proofs.Math.Dec.{ltb}
use Rattle.std.specs.Float.Ieee.{lt}
use Rattle.std.proofs.Math.ListN.{length, get_or}
use Rattle.base.specs.common.Binary64.{◌⊠◌}
use Rattle.base.specs.common.Pick.{pick}
use Rattle.base.specs.common.laws.Decide.{lt_or_ge}
use Rattle.ring_area.specs.lowest.Lowest.{lowest, any_below}
use Rattle.ring_area.specs.lowest.laws.Loops.{lowest_takes, some_below}
use Rattle.root.specs.Root.{magnitude}
use Rattle.plane.specs.points.Flat.{point_at}
use Rattle.plane.specs.declared.points.Point.{Point}
use Rattle.plane.specs.declared.boxes.BoundingBox.{BoundingBox}
use Rattle.walks.specs.shared.Cells.{cell_of}
use Rattle.arguments.specs.asking.Asks.{CellsOf}
use Rattle.auditing.specs.corners.Outside.{site_outside, entry_outside}
use Rattle.auditing.specs.nearer.Nearer.{tolerance_of, no_lists, held_count, beyond_at, nearer_at, corner_nearer, cell_nearer, site_nearer}
use Rattle.auditing.specs.nearer.Steps.{HeldNames}
use Rattle.auditing.specs.places.Places.{twin_at, has_twin}
use Rattle.certifying.specs.sides.Sides.{ends_of, side_count, surplus_at, left_once}
use Rattle.certifying.specs.sides.Chains.{laid_ends, InsertSafe, InsertsAll}
use Rattle.certifying.specs.call.Steps.{JudgeSafe, SidesChained, SideNamed}
use Rattle.certifying.specs.call.Verdict.{larger_of, reach_of, certify_far, certify_twin, twin_stage, certify_nearer, near_stage, border_stage, site_of_side, certify_side, side_stage}
use Rattle.certifying.specs.call.Verdict.{CertifyVerdict, certify_outside, certify_on}
use Rattle.certifying.specs.declared.call.CertifyFault.{CertifyFault}
use Rattle.certifying.specs.declared.call.CertifyFault.TheVariants.{Outside, Surplus, Border, Nearer, Twin}

-- ---- the tolerance
pub larger_second : (x y : Float) → lt x y ≡ true → y ≡ larger_of x y
unfolding larger_of
larger_second x y e = rw e refl

pub larger_first : (x y : Float) → lt x y ≡ false → x ≡ larger_of x y
unfolding larger_of
larger_first x y e = rw e refl

pub far_is : (b : BoundingBox) (bits : ℕ) {l t r u x y z w : Float} → l ≡ magnitude b.left → t ≡ magnitude b.top → r ≡ magnitude b.right → u ≡ magnitude b.bottom
    → x ≡ larger_of l t → y ≡ larger_of r u → z ≡ larger_of x y → w ≡ tolerance_of bits → z ⊠ w ≡ certify_far b bits
unfolding certify_far reach_of
far_is b bits e f g h i j k m = rw (m, k, i, j, e, f, g, h) refl

-- ---- a stage: the lowest number that the test takes is named, or what comes after
module _ (p : ℕ → Bool) (n : ℕ) (named : ℕ → CertifyVerdict) (after : CertifyVerdict) {s : ℕ} (e : s ≡ lowest p n) where
  abbrev verdict : CertifyVerdict
  verdict = pick (any_below p n) (λ _. named (lowest p n)) (λ _. after)

  pub stage_named : {r : CertifyVerdict} → s < n → r ≡ named s → r ≡ verdict
  stage_named h f = let t : any_below p n ≡ true = lt-ltb (lowest p n) n (subst (λ (k : ℕ). k < n) e h) in rw t (f ∙ ap named e)

  pub stage_after : {r : CertifyVerdict} → n ≤ s → r ≡ after → r ≡ verdict
  stage_after h f = let t : any_below p n ≡ false = le-ltb (lowest p n) n (subst (λ (k : ℕ). n ≤ k) e h) in rw t f

  pub stage_taken : s < n → p s ≡ true
  stage_taken h = ap p e ∙ lowest_takes p n (subst (λ (k : ℕ). k < n) e h)

-- the same where a fault is named
module _ (p : ℕ → Bool) (n : ℕ) (named : ℕ → CertifyFault) (after : CertifyVerdict) {s : ℕ} (e : s ≡ lowest p n) where
  abbrev faulted : CertifyVerdict
  faulted = pick (any_below p n) (λ _. Err (named (lowest p n))) (λ _. after)

  pub fault_named : {r : CertifyFault} → s < n → r ≡ named s → Err r ≡ faulted
  fault_named h f = stage_named p n (λ k. Err (named k)) after e h (ap (λ (x : CertifyFault). Err x) f)

  pub fault_after : {r : CertifyVerdict} → n ≤ s → r ≡ after → r ≡ faulted
  fault_after h f = stage_after p n (λ k. Err (named k)) after e h f

-- ---- the fifth
pub twin_named : (sites : List Float) (s : ℕ) {a o : ℕ} → a ≡ s → o ≡ lowest (twin_at sites s) s → Twin a o ≡ certify_twin sites s
twin_named sites s e f = rw (e, f) refl

module _ (sites : List Float) {s : ℕ} (e : s ≡ lowest (has_twin sites) (length sites / 2)) where
  pub twins_named : {r : CertifyFault} → s < length sites / 2 → r ≡ certify_twin sites s → Err r ≡ twin_stage sites
  unfolding twin_stage
  twins_named h f = fault_named (has_twin sites) (length sites / 2) (certify_twin sites) (Ok tt) e h f

  pub twins_none : length sites / 2 ≤ s → Ok tt ≡ twin_stage sites
  unfolding twin_stage
  twins_none h = fault_after (has_twin sites) (length sites / 2) (certify_twin sites) (Ok tt) e h refl

-- ---- the fourth
pub names_none : (sites : List Float) {none : List ℕ} (s : ℕ) → s < length sites / 2 → HeldNames sites s none true
names_none sites s h = record { own = h; named = inl refl }

module _ (far : Float) (sites v : List Float) (off ix : List ℕ) {s : ℕ} (e : s ≡ lowest (site_nearer far sites [] [] v off ix) (length sites / 2)) where
  pub near_named : {r : CertifyFault} → s < length sites / 2 → r ≡ certify_nearer far sites v off ix s → Err r ≡ near_stage far sites v off ix
  unfolding near_stage
  near_named h f = fault_named (site_nearer far sites [] [] v off ix) (length sites / 2) (certify_nearer far sites v off ix) (twin_stage sites) e h f

  pub near_after : {r : CertifyVerdict} → length sites / 2 ≤ s → r ≡ twin_stage sites → r ≡ near_stage far sites v off ix
  unfolding near_stage
  near_after h f = fault_after (site_nearer far sites [] [] v off ix) (length sites / 2) (certify_nearer far sites v off ix) (twin_stage sites) e h f

  pub near_taken : s < length sites / 2 → site_nearer far sites [] [] v off ix s ≡ true
  near_taken h = stage_taken (site_nearer far sites [] [] v off ix) (length sites / 2) (λ k. Err (certify_nearer far sites v off ix k)) (twin_stage sites) e h

-- what it names
module _ (far : Float) (sites v : List Float) (off ix none : List ℕ) (no : none ≡ []) (s : ℕ) {cell : List ℕ} (z : cell ≡ cell_of off ix s) {k : ℕ}
    (e : k ≡ lowest (corner_nearer far sites s none true v cell) (length cell)) where
  pub corner_there : site_nearer far sites [] [] v off ix s ≡ true → k < length cell
  unfolding site_nearer cell_nearer no_lists cell_of
  corner_there t = subst (λ (i : ℕ). i < length cell) (sym e) (ltb-true (lowest (corner_nearer far sites s none true v cell) (length cell)) (length cell) (rw (no, z) t))

  module _ {w j : ℕ} {p : Point} (g : w ≡ get_or cell k 0) (q : p ≡ point_at v w) (f : j ≡ lowest (beyond_at far p sites s none true) (held_count true none (length sites / 2))) where
    pub other_there : k < length cell → j < length sites / 2
    unfolding corner_nearer nearer_at held_count
    other_there h =
        subst (λ (i : ℕ). i < length sites / 2) (sym f)
        (ltb-true (lowest (beyond_at far p sites s none true) (length sites / 2)) (length sites / 2)
        (ap (λ (t : Point). nearer_at far t sites s none true) (q ∙ ap (point_at v) g)
        ∙ (ap (corner_nearer far sites s none true v cell) e ∙ lowest_takes (corner_nearer far sites s none true v cell) (length cell) (subst (λ (i : ℕ). i < length cell) e h))))

    pub nearer_named : {a b : ℕ} → a ≡ s → b ≡ j → Nearer a (get_or cell k 0) b ≡ certify_nearer far sites v off ix s
    unfolding certify_nearer held_count
    nearer_named m l = rw (m, l, f, q, g, e, z, no) refl

-- ---- the tolerance in place
pub near_far : (b : BoundingBox) (bits : ℕ) (sites v : List Float) (off ix : List ℕ) {far : Float} {w : ℕ} {r : CertifyVerdict} → w ≡ bits → far ≡ certify_far b w
    → r ≡ near_stage far sites v off ix → r ≡ near_stage (certify_far b bits) sites v off ix
near_far b bits sites v off ix e f g = g ∙ ap (λ (t : Float). near_stage t sites v off ix) (f ∙ ap (certify_far b) e)

-- ---- the third
module _ (b : BoundingBox) (bits : ℕ) (sites v : List Float) (off ix : List ℕ) {n : ℕ} {w : List ℕ} (h : SidesChained v off ix n w) where
  module _ {t : Bool} (e : t ≡ left_once b v ix (laid_ends w n) n) where
    once_there : t ≡ left_once b v ix (ends_of off ix) (side_count off)
    once_there = e ∙ ap (λ (l : List ℕ). left_once b v ix l n) h.ends ∙ ap (left_once b v ix (ends_of off ix)) h.count

    pub border_named : not t ≡ true → Err Border ≡ border_stage b bits sites v off ix
    unfolding border_stage
    border_named g = let k : left_once b v ix (ends_of off ix) (side_count off) ≡ false = sym once_there ∙ not-true t g in rw k refl

    pub border_after : not t ≡ false → {r : CertifyVerdict} → r ≡ near_stage (certify_far b bits) sites v off ix → r ≡ border_stage b bits sites v off ix
    unfolding border_stage
    border_after g f = let k : left_once b v ix (ends_of off ix) (side_count off) ≡ true = sym once_there ∙ not-false t g in rw k f

  -- ---- the second
  module _ {e : ℕ} (q : e ≡ lowest (surplus_at b v ix (laid_ends w n) n) n) where
    side_there : e ≡ lowest (surplus_at b v ix (ends_of off ix) (side_count off)) (side_count off)
    side_there =
        q ∙ ap (λ (l : List ℕ). lowest (surplus_at b v ix l n) n) h.ends ∙ ap (λ (m : ℕ). lowest (surplus_at b v ix (ends_of off ix) m) m) h.count

    pub side_named : {r : CertifyFault} → e < n → r ≡ certify_side sites off ix e → Err r ≡ side_stage b bits sites v off ix
    unfolding side_stage
    side_named l f =
        fault_named (surplus_at b v ix (ends_of off ix) (side_count off)) (side_count off) (certify_side sites off ix) (border_stage b bits sites v off ix) side_there
        (subst (λ (m : ℕ). e < m) h.count l) f

    pub side_after : {r : CertifyVerdict} → n ≤ e → r ≡ border_stage b bits sites v off ix → r ≡ side_stage b bits sites v off ix
    unfolding side_stage
    side_after l f =
        fault_after (surplus_at b v ix (ends_of off ix) (side_count off)) (side_count off) (certify_side sites off ix) (border_stage b bits sites v off ix) side_there
        (subst (λ (m : ℕ). m ≤ e) h.count l) f

-- the ring of a side ends after it: the last one does
module _ (sites : List Float) (off ix : List ℕ) (e : ℕ) (h : SideNamed sites off ix e) {s : ℕ} (q : s ≡ site_of_side off (length sites / 2) e) where
  pub side_site : s < length sites / 2
  unfolding site_of_side
  side_site =
      subst (λ (i : ℕ). i < length sites / 2) (sym q)
      (ltb-true (lowest (λ i. ltb e (get_or off (i + 1) 0)) (length sites / 2)) (length sites / 2) (some_below (λ i. ltb e (get_or off (i + 1) 0)) (length sites / 2 - 1) below (lt-ltb e _ last)))
    where
      some : 0 < length sites / 2
      some = ⊎_elim (λ p. p) (λ p. absurd (none p)) (lt_or_ge 0 (length sites / 2))
        where
          none : length sites / 2 ≤ 0 → ⊥
          none p =
              let i : length off - 1 ≡ 0 = omega (arith, h.cut.many, p) in
              let z : side_count off ≡ 0 = ap (λ (k : ℕ). get_or off k 0) i ∙ h.cut.cut.start in
              omega (arith, h.below, z)

      below : length sites / 2 - 1 < length sites / 2
      below = omega (arith, some)

      last : e < get_or off (length sites / 2 - 1 + 1) 0
      last =
          let i : length off - 1 ≡ length sites / 2 - 1 + 1 = omega (arith, h.cut.many, some) in
          subst (λ (k : ℕ). e < get_or off k 0) i h.below

pub side_entry : (sites : List Float) (off ix : List ℕ) (e : ℕ) → SideNamed sites off ix e → e < length ix
side_entry sites off ix e h = omega (arith, h.below, h.cut.cut.within (length off - 1) (omega (arith, h.cut.cut.some)))

pub side_is : (sites : List Float) (off ix : List ℕ) (e : ℕ) {s a : ℕ} → s ≡ site_of_side off (length sites / 2) e → a ≡ s → Surplus a (get_or ix e 0) ≡ certify_side sites off ix e
side_is sites off ix e q f = rw (f, q) refl

-- ---- the first
module _ (b : BoundingBox) (bits : ℕ) (sites v : List Float) (off ix : List ℕ) (c : CellsOf off ix (length sites / 2)) {s : ℕ} (e : s ≡ lowest (site_outside b v off ix) (length off - 1)) where
  same : s ≡ lowest (site_outside b v off ix) (length sites / 2)
  same = e ∙ ap (lowest (site_outside b v off ix)) (plain _ _ c.many)
    where
      plain : (m n : ℕ) → m ≡ n + 1 → m - 1 ≡ n
      plain m n q = omega arith

  pub outside_named : {r : CertifyFault} → s < length sites / 2 → r ≡ certify_outside b v off ix s → Err r ≡ certify_on b bits sites v off ix
  unfolding certify_on
  outside_named = fault_named (site_outside b v off ix) (length sites / 2) (certify_outside b v off ix) (side_stage b bits sites v off ix) same

  pub outside_after : {r : CertifyVerdict} → length sites / 2 ≤ s → r ≡ side_stage b bits sites v off ix → r ≡ certify_on b bits sites v off ix
  unfolding certify_on
  outside_after = fault_after (site_outside b v off ix) (length sites / 2) (certify_outside b v off ix) (side_stage b bits sites v off ix) same

  pub outside_taken : s < length sites / 2 → site_outside b v off ix s ≡ true
  outside_taken = stage_taken (site_outside b v off ix) (length sites / 2) (λ k. Err (certify_outside b v off ix k)) (side_stage b bits sites v off ix) same

pub outside_is : (b : BoundingBox) (v : List Float) (off ix : List ℕ) (s : ℕ) {a e : ℕ} → a ≡ s → e ≡ entry_outside b v off ix s → Outside a e ≡ certify_outside b v off ix s
unfolding certify_outside
outside_is b v off ix s f g = rw (f, g) refl

-- ---- the sides laid and inserted in the work
module _ {b : BoundingBox} {bits : ℕ} {sites v : List Float} {off ix work : List ℕ} (a : JudgeSafe b bits sites v off ix work) {n : ℕ} (e : n ≡ side_count off) where
  pub insert_safe : InsertSafe v off ix n work
  insert_safe =
      let c = a.near.rings.cut in
      let k : side_count off ≤ length ix = c.within (length off - 1) (omega (arith, c.some)) in
      record { lay = record { cut = c; few = omega (arith, k, a.near.rings.few); room = omega (arith, k, a.room) }; count = e; named = a.near.rings.named }

  pub chained_safe : {new : List ℕ} → InsertsAll v off ix n work new → JudgeSafe b bits sites v off ix new × SidesChained v off ix n new
  chained_safe h =
      let k = a.near in (
        record {
          box = a.box;
          fine = a.fine;
          room = omega (arith, a.room, h.long);
          near = record { pieces = k.pieces; rings = k.rings; sites_kept = k.sites_kept; few = k.few; roomy = omega (arith, k.roomy, h.long) };
        },
        record { count = e; ends = h.ends; chained = h.chained },
      )
