-- One walk that both looks and lays: as far as it came its circumcenters are in the box, and the pen takes them as they stand in the stage (`lapping_start`, `lapping_step`, `lapping_end`).
use Rattle.std.specs.Prelude.{◌≡◌, false, Some, None, List, ℕ, ◌+◌, ◌-◌, ◌/◌, ◌≤◌, ◌<◌, Float}
use Rattle.std.proofs.Math.Path.{refl, sym, ap, subst}
use Rattle.std.proofs.Common.{◌∙◌, add-one, get_or-set_other, eq-eqb, ne_eqb}
use Rattle.std.proofs.Math.Bool.{true}
use native.Mathlib.Omega.{arith}
use Rattle.std.proofs.Math.ListN.{length, get_or, set}
use Rattle.std.proofs.Math.Seq.{get_or-set_same}
use Rattle.base.specs.numbers.Numbers.{EMPTY}
use Rattle.plane.specs.points.Flat.{point_at}
use Rattle.plane.specs.sides.Sides.{inside_of}
use Rattle.plane.specs.declared.points.Point.{Point}
use Rattle.plane.specs.declared.boxes.BoundingBox.{BoundingBox}
use Rattle.mesh.specs.Mesh.{around, turn_of}
use Rattle.cutting.specs.rings.Names.{on_hull}
use Rattle.cutting.specs.declared.pen.Pen.{Pen}
use Rattle.cutting.specs.pen.Pen.{same_place, repeats, page, pen_on, entries_on}
use Rattle.cutting_writer.specs.ring.laws.Walks.{Scan, scan_start, scan_step, scan_end, Inking, inking_over, inking_step}
use Rattle.cutting_writer.specs.turn.Turned.{turned_round}
use Rattle.cutting_writer.specs.end.Ended.{pen_ended, ended}
use Rattle.cutting_writer.specs.copied.Copied.{laid_to, pen_in, LapCorner, JoinedTo, Lapped, CopiedInto}
use Rattle.cutting_writer.specs.copied.laws.Laying.{laid_ahead, laid_step, lap_ended}

-- the pen goes on to a place that does not repeat its last
on_first : (pen : Pen) (p : Point) → pen.ends ≡ None → pen_in pen 1 p p ≡ pen_on pen p
unfolding pen_on repeats
on_first pen p none = rw none refl

entries_first : (pen : Pen) (p : Point) (q : ℕ) (ix : List ℕ) → pen.ends ≡ None → set ix pen.at q ≡ entries_on pen p q ix
unfolding entries_on repeats
entries_first pen p q ix none = rw none refl

on_next : (pen : Pen) (i : ℕ) (first last p : Point) → same_place last p ≡ false → pen_in pen (i + 1) first p ≡ pen_on (pen_in pen i first last) p
unfolding pen_on repeats
on_next pen i first last p other = rw other (let z : pen.at + (i + 1) ≡ pen.at + i + 1 = omega arith in λ j. record { at = z j; count = pen.count; ends = Some (record { first = first; last = p }) })

entries_next : (pen : Pen) (i : ℕ) (first last p : Point) (q : ℕ) (ix : List ℕ) → same_place last p ≡ false
    → set ix (pen.at + i) q ≡ entries_on (pen_in pen i first last) p q ix
unfolding entries_on repeats
entries_next pen i first last p q ix other = rw other refl

module _ (b : BoundingBox) (he : List ℕ) (centers : List Float) (t : ℕ) where
  -- after i half-edges, the last of them `from`
  pub record Lapping (stage : List ℕ) (i from : ℕ) (first last : Point) : Type 0 where
    pub scan : Scan b he centers t (length he + 1 - i) from
    pub inside : inside_of b (point_at centers (from / 3)) ≡ true
    pub here : last ≡ point_at centers (from / 3)
    pub entry : get_or stage (i - 1) 0 ≡ from / 3
    pub some : 1 ≤ i
    pub inked : (pen : Pen) (ix : List ℕ) → pen.ends ≡ None
        → Inking he t (page pen centers ix) (pen_in pen i first last) (laid_to stage pen.at i ix) (length he - i) (turn_of he t from)

  pub lapping_start : (stage : List ℕ) → 0 < length stage → length he < EMPTY → t < length he → on_hull he t ≡ false → (p : Point) → p ≡ point_at centers (t / 3)
      → inside_of b p ≡ true → Lapping (set stage 0 (t / 3)) 1 t p p
  unfolding laid_to
  lapping_start stage room small there begins p here inside = record {
    scan = let z : length he ≡ length he + 1 - 1 = omega arith in subst (λ (k : ℕ). Scan b he centers t k t) z (scan_start b he centers t small there begins);
    inside = sym (ap (inside_of b) here) ∙ inside;
    here = here;
    entry = get_or-set_same stage 0 (t / 3) 0 room;
    some = omega arith;
    inked = λ pen ix none.
        let laid : laid_to (set stage 0 (t / 3)) pen.at 1 ix ≡ set ix pen.at (t / 3) =
        laid_step stage pen.at 0 ix (t / 3) room ∙ (let z : pen.at + 0 ≡ pen.at = omega arith in ap (λ (k : ℕ). set ix k (t / 3)) z) in
        inking_step he t (page pen centers ix) pen ix (length he) t (record { all = refl; entries = refl }) (omega arith) there p here (pen_in pen 1 p p)
        (laid_to (set stage 0 (t / 3)) pen.at 1 ix) (on_first pen p none, laid ∙ entries_first pen p (t / 3) ix none) (turn_of he t t) refl;
  }

  -- what is not reached yet may change
  pub lapping_ahead : (stage : List ℕ) (i from : ℕ) (first last : Point) → Lapping stage i from first last → (k q : ℕ) → i ≤ k → Lapping (set stage k q) i from first last
  lapping_ahead stage i from first last x k q ahead = record {
    scan = x.scan;
    inside = x.inside;
    here = x.here;
    entry = get_or-set_other stage k (i - 1) q 0 (λ z. omega (arith, x.some)) ∙ x.entry;
    some = x.some;
    inked = λ pen ix none. rw (laid_ahead stage pen.at i ix k q ahead) (x.inked pen ix none);
  }

  module _ (stage : List ℕ) (i from : ℕ) (first last : Point) (x : Lapping stage i from first last) where
    -- one more, which stands in the stage
    pub lapping_step : i < length he → (e : ℕ) (p : Point) → LapCorner b he centers t e p → JoinedTo he from last e p → get_or stage i 0 ≡ e / 3 → Lapping stage (i + 1) e first p
    unfolding turn_of laid_to
    lapping_step more e p at to laid = record {
      scan = let z : length he + 1 - i - 1 ≡ length he + 1 - (i + 1) = omega arith in
          rw z at (scan_step b he centers t (length he + 1 - i) from (omega (arith, x.some)) x.scan true (sym x.inside) refl e to.step at.other at.there);
      inside = sym (ap (inside_of b) at.here) ∙ at.inside;
      here = at.here;
      entry = let z : i ≡ i + 1 - 1 = omega arith in ap (λ (k : ℕ). get_or stage k 0) (sym z) ∙ laid;
      some = omega arith;
      inked = λ pen ix none.
          let on : turn_of he t from ≡ e = rw (ne_eqb (around he from) t (λ z. at.other (to.step ∙ z))) (sym to.step) in
          let here-inked : Inking he t (page pen centers ix) (pen_in pen i first last) (laid_to stage pen.at i ix) (length he - i) e = rw on at (x.inked pen ix none) in
          let more-laid : laid_to stage pen.at (i + 1) ix ≡ set (laid_to stage pen.at i ix) (pen.at + i) (e / 3) =
          rw (add-one i) (ap (set (laid_to stage pen.at i ix) (pen.at + i)) laid) in
          let z : length he - i - 1 ≡ length he - (i + 1) = omega arith in
          rw z at (inking_step he t (page pen centers ix) (pen_in pen i first last) (laid_to stage pen.at i ix) (length he - i) e here-inked (omega arith) at.there p at.here
          (pen_in pen (i + 1) first p) (laid_to stage pen.at (i + 1) ix)
          (on_next pen i first last p to.apart, more-laid ∙ entries_next pen i first last p (e / 3) (laid_to stage pen.at i ix) to.apart) (turn_of he t e) refl);
    }

    pub lapping_end : i ≤ length he → around he from ≡ t → same_place first last ≡ false → 3 ≤ i → Lapped b he centers t i stage first last
    unfolding turn_of
    lapping_end few back apart many = record {
      inside = scan_end b he centers t (length he + 1 - i) from (omega (arith, x.some)) x.scan true (sym x.inside) refl (around he from) refl back;
      apart = apart;
      many = many;
      inked = λ pen ix none.
          let on : turn_of he t from ≡ EMPTY = rw (eq-eqb (around he from) t back) refl in
          inking_over he t (page pen centers ix) (pen_in pen i first last) (laid_to stage pen.at i ix) (length he - i) (turn_of he t from) (x.inked pen ix none)
          (omega (arith, on, x.scan.small));
    }

-- ---- the piece, put there the other way round
pub lap_copied : (b : BoundingBox) (he : List ℕ) (centers : List Float) (t n : ℕ) (stage : List ℕ) (first last : Point) → Lapped b he centers t n stage first last
    → (pen : Pen) (ix : List ℕ) → pen.ends ≡ None → {m : List ℕ} → m ≡ turned_round pen.at (pen.at + n) (laid_to stage pen.at n ix)
    → CopiedInto b he t (page pen centers ix) (page (record { at = pen.at + n; count = pen.count; ends = None }) centers m)
lap_copied b he centers t n stage first last x pen ix none {m} q =
    let p = lap_ended pen n first last x.apart x.many in
    let k : m ≡ turned_round pen.at (pen_ended pen.at (pen_in pen n first last)).at (laid_to stage pen.at n ix) =
    q ∙ ap (λ (z : Pen). turned_round pen.at z.at (laid_to stage pen.at n ix)) p in
    record { inside = x.inside; made = (λ i. page (p i) centers (k i)) ∙ ap (ended pen.at) (x.inked pen ix none) }
