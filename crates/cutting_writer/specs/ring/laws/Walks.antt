-- The two walks of a ring that lies wholly in the box. The first: what is left of it inside makes the whole inside (`scan_start`, `scan_step`, `scan_end`). The second: what is left of
-- it, from the present page, is the whole (`inking_step`, `inking_over`, `inking_out`).
use Rattle.std.specs.Prelude.{◌≡◌, Bool, true, not, ℕ, suc, ◌-◌, ◌/◌, ◌≤◌, ◌<◌, Float, length}
use Rattle.std.proofs.Math.Path.{refl, ap}
use Rattle.std.proofs.Common.{sym, ◌∙◌, arith}
use Rattle.std.proofs.Math.Bool.{false, not-not}
use mathlib.Core.List.{List, [], ◌∷◌}
use borrow.Author.Tests.{eq-eqb, ne_eqb, lt-leb}
use Rattle.base.specs.numbers.Numbers.{EMPTY}
use Rattle.plane.specs.points.Flat.{point_at}
use Rattle.plane.specs.sides.Sides.{inside_of}
use Rattle.plane.specs.declared.points.Point.{Point}
use Rattle.plane.specs.declared.boxes.BoundingBox.{BoundingBox}
use Rattle.mesh.specs.Mesh.{next_of, around, turn_of, walk_of, whole_of}
use Rattle.mesh.specs.laws.WalkSteps.{walk_go, walk_done}
use Rattle.cutting.specs.cuts.Stream.{feed_all}
use Rattle.cutting.specs.rings.Names.{on_hull}
use Rattle.cutting.specs.declared.pen.Pen.{Pen}
use Rattle.cutting.specs.pen.Pen.{Page, page, pen_on, entries_on}
use Rattle.cutting_writer.specs.stream.laws.Stages.{all_grows}
use Rattle.cutting_writer.specs.site.Ring.{last_or}
use Rattle.cutting_writer.specs.site.laws.Walk.{no_walk}
use Rattle.cutting_writer.specs.ring.Inside.{CentersInside, RingInside, out_on}
use Rattle.cutting_writer.specs.ring.laws.Inside.{outs_grow}

-- ---- the first walk
module _ (b : BoundingBox) (he : List ℕ) (centers : List Float) (t : ℕ) where
  -- what is left of a walk lies inside and does not end at infinity, whatever came before
  pub record RestInside (left e : ℕ) : Type 0 where
    pub corners : CentersInside b centers (walk_of he t left e)
    pub ends : (d : ℕ) → on_hull he (next_of (last_or d (walk_of he t left e))) ≡ false

  pub record Scan (left e : ℕ) : Type 0 where
    pub small : length he < EMPTY
    pub there : t < length he
    pub here : e < length he
    pub enough : RestInside left e → RingInside b he centers t

  pub scan_start : length he < EMPTY → t < length he → on_hull he t ≡ false → Scan (length he) t
  scan_start s l h = record { small = s; there = l; here = l; enough = λ x. record { there = l; begins = h; corners = x.corners; ends = x.ends t } }

  module _ (left e : ℕ) (more : 0 < left) (x : Scan left e) (r : Bool) (asked : r ≡ inside_of b (point_at centers (e / 3))) (taken : not r ≡ false) (a : ℕ) (q : a ≡ around he e) where
    inside : inside_of b (point_at centers (e / 3)) ≡ true
    inside = sym asked ∙ sym (not-not r) ∙ ap not taken

    gone : walk_of he t left e ≡ e ∷ walk_of he t (left - 1) (turn_of he t e)
    gone = let one : left ≡ suc (left - 1) = omega arith in ap (λ (n : ℕ). walk_of he t n e) one ∙ walk_go he t (left - 1) e x.here

    pub scan_step : (a ≡ t → ⊥) → a < length he → Scan (left - 1) a
    unfolding turn_of
    scan_step other l =
        let on : turn_of he t e ≡ a = rw (ne_eqb (around he e) t (λ z. other (q ∙ z))) (sym q) in
        let rest : walk_of he t left e ≡ e ∷ walk_of he t (left - 1) a = gone ∙ ap (λ (n : ℕ). e ∷ walk_of he t (left - 1) n) on in
        record { small = x.small; there = x.there; here = l; enough = λ y. x.enough (record { corners = rw rest (inside, y.corners); ends = λ d. rw rest (y.ends e) }) }

    pub scan_end : a ≡ t → RingInside b he centers t
    unfolding turn_of
    scan_end back =
        let on : turn_of he t e ≡ EMPTY = rw (eq-eqb (around he e) t (sym q ∙ back)) refl in
        let done : walk_of he t (left - 1) EMPTY ≡ [] = walk_done he t (left - 1) EMPTY (omega (arith, x.small)) in
        let rest : walk_of he t left e ≡ e ∷ [] = gone ∙ ap (λ (n : ℕ). e ∷ walk_of he t (left - 1) n) on ∙ ap (λ (l : List ℕ). e ∷ l) done in
        let paired : on_hull he (next_of e) ≡ false = lt-leb (length he) (around he e) (omega (arith, q, back, x.there)) in
        x.enough (record { corners = rw rest (inside, tt); ends = λ d. rw rest paired })

-- ---- the second
module _ (he : List ℕ) (t : ℕ) (g : Page) where
  pub record Inking (pen : Pen) (ix : List ℕ) (left e : ℕ) : Type 0 where
    pub all : feed_all out_on (page pen g.vertices ix) (walk_of he t left e) ≡ feed_all out_on g (whole_of he t)
    pub entries : length ix ≡ length g.indexes

  pub inking_over : (pen : Pen) (ix : List ℕ) (left e : ℕ) → Inking pen ix left e → length he ≤ e → page pen g.vertices ix ≡ feed_all out_on g (whole_of he t)
  inking_over pen ix left e x l = rw (walk_done he t left e l) at x.all

  pub inking_out : (pen : Pen) (ix : List ℕ) (left e : ℕ) → Inking pen ix left e → left ≡ 0 → page pen g.vertices ix ≡ feed_all out_on g (whole_of he t)
  inking_out pen ix left e x z = rw (z, no_walk he t e) at x.all

  module _ (pen : Pen) (ix : List ℕ) (left e : ℕ) (x : Inking pen ix left e) (more : 0 < left) (l : e < length he) (p : Point) (here : p ≡ point_at g.vertices (e / 3)) where
    abbrev before : Page
    before = page pen g.vertices ix

    abbrev rest : List ℕ
    rest = walk_of he t (left - 1) (turn_of he t e)

    onward : feed_all out_on (out_on before e) rest ≡ feed_all out_on g (whole_of he t)
    onward = let one : left ≡ suc (left - 1) = omega arith in rw (ap (λ (n : ℕ). walk_of he t n e) one ∙ walk_go he t (left - 1) e l) at x.all

    pub inking_asks : (feed_all out_on g (whole_of he t)).pen.at ≤ length g.indexes → (pen_on pen p).at ≤ length ix
    inking_asks room =
        let same : (pen_on pen p).at ≡ (out_on before e).pen.at = ap (λ (u : Point). (pen_on pen u).at) here in
        let end : (feed_all out_on (out_on before e) rest).pen.at ≡ (feed_all out_on g (whole_of he t)).pen.at = ap (λ (h : Page). h.pen.at) onward in
        omega (arith, room, same, end, (all_grows (λ (h : Page). h) out_on outs_grow (out_on before e) rest).at, x.entries)

    pub inking_step : (r : Pen) (ix₁ : List ℕ) → (r ≡ pen_on pen p) × (ix₁ ≡ entries_on pen p (e / 3) ix) → (n : ℕ) → n ≡ turn_of he t e → Inking r ix₁ (left - 1) n
    inking_step r ix₁ d n m =
        let pens : r ≡ pen_on pen (point_at g.vertices (e / 3)) = d.0 ∙ ap (pen_on pen) here in
        let written : ix₁ ≡ entries_on pen (point_at g.vertices (e / 3)) (e / 3) ix = d.1 ∙ ap (λ (u : Point). entries_on pen u (e / 3) ix) here in
        let q : page r g.vertices ix₁ ≡ out_on before e = λ i. page (pens i) g.vertices (written i) in
        record {
          all = ap (λ (h : Page). feed_all out_on h (walk_of he t (left - 1) n)) q ∙ rw m onward;
          entries = ap (λ (h : Page). length h.indexes) q ∙ (outs_grow before e).entries ∙ x.entries;
        }
