-- The loops of rule 9: what each keeps from turn to turn, and how its answer comes out.
use Rattle.std.specs.Prelude.{◌≡◌, refl, Bool, List, ◌≢◌, ℕ, ◌+◌, ◌≤◌, ◌<◌, length, get_or, set, replicate, ⊤, Result}
use Rattle.std.proofs.Common.{ap, ◌∙◌, add-one, length-set, below_more}
use Rattle.std.proofs.Math.Bool.{true, false}
use Rattle.std.proofs.Math.Logic.{⊎_elim}
use native.Mathlib.Omega.{arith}
use borrow.Author.Tests.{lt-ltb, le-ltb}
use Rattle.base.specs.common.laws.Decide.{lt_or_ge, eq_or_ne}
use Rattle.base.specs.common.Decide.{First, Says}
use Rattle.base.specs.numbers.Numbers.{EMPTY}
use Rattle.mesh.specs.Hull.{FreshAt}
use Rattle.mesh.specs.declared.MeshFault.{MeshFault}
use Rattle.mesh_check.specs.border.Answer.{HullAnswer, MarksLeft}
use Rattle.mesh_check.specs.border.Marks.{marks_to, unmark_at, left_to, TakesAt, Unmarking, GoneAt, lowest_of, hull_fault_of}
use Rattle.mesh_check.specs.border.laws.Marks.{MarkAt, marks_at}
use Rattle.mesh_check.specs.border.laws.Unmarked.{Unmarked, answer_place, answer_edge, answer_right}

-- the loop that marks: the places below i are fresh and marked
pub record Marking (hull : List ℕ) (sites : ℕ) (old work : List ℕ) (i : ℕ) : Type 0 where
  pub room : i ≤ length hull
  pub long : length work ≡ length old
  pub marks : work ≡ marks_to hull (length old) i
  pub fresh : (k : ℕ) → k < i → FreshAt hull sites k

pub marking_start : (hull : List ℕ) (sites n : ℕ) (work : List ℕ) → work ≡ replicate n EMPTY → length work ≡ n → Marking hull sites work work 0
unfolding marks_to
marking_start hull sites n work q l = record { room = omega arith; long = refl; marks = rw l q; fresh = λ k h. absurd (omega arith) }

marks_next : (hull : List ℕ) (w n h : ℕ) (work : List ℕ) → work ≡ marks_to hull w n → h ≡ get_or hull n 0 → set work h n ≡ marks_to hull w (n + 1)
unfolding marks_to
marks_next hull w n h work p q = rw add-one (cc)

module _ (hull : List ℕ) (sites : ℕ) (old work : List ℕ) (i h : ℕ) (g : Marking hull sites old work i) (in_hull : i < length hull)
    (small : length hull < EMPTY) (fits : sites ≤ length old) (q : h ≡ get_or hull i 0) where
  pub no_site : sites ≤ h → First (FreshAt hull sites) (length hull) i
  no_site l = record { within = omega arith; before = g.fresh; at = λ _ f. omega (arith, f.0) }

  mark : h < sites → MarkAt hull i h (get_or work h 0)
  mark l = rw g.marks (marks_at hull (length old) i h (omega arith) (omega arith))

  pub twice : h < sites → get_or work h 0 ≢ EMPTY → First (FreshAt hull sites) (length hull) i
  twice l n =
      let m = (mark l).some n in
      record { within = omega arith; before = g.fresh; at = λ _ f. f.1 (get_or work h 0) m.0 (m.1 ∙ q) }

  pub marking_step : h < sites → get_or work h 0 ≡ EMPTY → Marking hull sites old (set work h i) (i + 1)
  marking_step l e = record {
    room = omega arith;
    long = length-set work h i ∙ g.long;
    marks = marks_next hull (length old) i h work g.marks q;
    fresh = below_more _ i g.fresh (rw (← q) l, λ j k. rw (← q) ((mark l).none e j k));
  }

pub all_marked_lem : (hull : List ℕ) (sites : ℕ) (old work : List ℕ) (i : ℕ) → Marking hull sites old work i → length hull ≤ i → First (FreshAt hull sites) (length hull) i
all_marked_lem hull sites old work i g l = record { within = g.room; before = g.fresh; at = λ h. absurd (omega arith) }

-- the loop that takes marks off
pub unmarking_start : (tri he hull t : List ℕ) → Unmarking tri he hull t t 0 (length tri)
unfolding left_to
unmarking_start tri he hull t = record { room = omega arith; long = refl; left = refl; within = omega arith; before = λ k h. absurd (omega arith); at = λ h. absurd (omega arith) }

left_next : (tri he hull t : List ℕ) (e : ℕ) (work new : List ℕ) → work ≡ left_to tri he hull t e → new ≡ unmark_at tri he hull work e → new ≡ left_to tri he hull t (e + 1)
unfolding left_to
left_next tri he hull t e work new p q = rw add-one (cc)

module _ (tri he hull t work new : List ℕ) (e stray : ℕ) (g : Unmarking tri he hull t work e stray) (l : e < length tri)
    (long : length new ≡ length work) (q : new ≡ unmark_at tri he hull work e) where
  pub unmarking_step : (sound : Bool) (r : ℕ) → Says sound (TakesAt tri he hull work e) → r ≡ lowest_of stray e sound → Unmarking tri he hull t new (e + 1) r
  unfolding lowest_of
  unmarking_step true r s z =
      let here : TakesAt tri he hull (left_to tri he hull t e) e = rw (← g.left) s in
      record {
        room = omega arith;
        long = long ∙ g.long;
        left = left_next tri he hull t e work new g.left q;
        within = rw z g.within;
        before = rw z (λ k h b. ⊎_elim (λ w. rw w here) (λ w. g.before k (omega arith) b) (eq_or_ne k e));
        at = rw z (λ h. let a = g.at h in (omega (arith, a.0), a.1));
      }
  unmarking_step false r s z =
      ⊎_elim
      (λ h. record {
        room = omega arith;
        long = long ∙ g.long;
        left = left_next tri he hull t e work new g.left q;
        within = rw (z, lt-ltb e stray h) (omega arith);
        before = rw (z, lt-ltb e stray h) (λ k x b. g.before k b (omega arith));
        at = rw (z, lt-ltb e stray h) (λ x. (omega arith, rw (← g.left) s));
      })
      (λ h. record {
        room = omega arith;
        long = long ∙ g.long;
        left = left_next tri he hull t e work new g.left q;
        within = rw (z, le-ltb e stray h) g.within;
        before = rw (z, le-ltb e stray h) (λ k x b. g.before k (omega arith) b);
        at = rw (z, le-ltb e stray h) (λ x. let a = g.at x in (omega (arith, a.0), a.1));
      })
      (lt_or_ge e stray)

pub unmarking_done : (tri he hull t work : List ℕ) (e stray : ℕ) → Unmarking tri he hull t work e stray → length tri ≤ e
    → (work ≡ left_to tri he hull t (length tri)) × First (λ d. TakesAt tri he hull (left_to tri he hull t d) d) (length tri) stray
unmarking_done tri he hull t work e stray g l =
    let q : e ≡ length tri = omega (arith, g.room) in
    (rw (← q) g.left, record { within = g.within; before = λ k h. g.before k (omega (arith, g.within)) h; at = λ h. (g.at h).1 })

pub answers : (tri he hull : List ℕ) (sites w n r e : ℕ) → Unmarked tri he hull sites w n r e → HullAnswer tri he hull sites (hull_fault_of r (length hull) e (length he))
unfolding hull_fault_of
answers tri he hull sites w n r e u =
    ⊎_elim
    (λ h. rw (lt-ltb r (length hull) h) (answer_place tri he hull sites w n r e u h))
    (λ h. ⊎_elim
    (λ k. rw (le-ltb r (length hull) h, lt-ltb e (length he) k) (answer_edge tri he hull sites w n r e u h k))
    (λ k. rw (le-ltb r (length hull) h, le-ltb e (length he) k) (answer_right tri he hull sites w n r e u h k))
    (lt_or_ge e (length he)))
    (lt_or_ge r (length hull))

-- the whole of rule 9: marks are the marks, work what is left of them
pub checked : (tri he hull : List ℕ) (sites w n stray r : ℕ) (marks work : List ℕ) (f : Result ⊤ MeshFault) → length he ≡ length tri → sites ≤ w
    → length hull < EMPTY → ((k : ℕ) → k < length tri → get_or tri k 0 < w) → First (FreshAt hull sites) (length hull) n → marks ≡ marks_to hull w n
    → work ≡ left_to tri he hull marks (length tri) → First (λ e. TakesAt tri he hull (left_to tri he hull marks e) e) (length tri) stray
    → First (GoneAt hull work) n r → f ≡ hull_fault_of r (length hull) stray (length tri) → HullAnswer tri he hull sites f
checked tri he hull sites w n stray r marks work f same fits small named fresh qm qw taken kept qf =
    rw (qf, ← same) (answers tri he hull sites w n r stray (record {
      fits = fits;
      small = small;
      starts = λ d l. named d (rw (← same) l);
      fresh = fresh;
      kept = rw (same, ← qm, ← qw) kept;
      stray = rw (same, ← qm) taken;
    }))

pub marks_left : (tri he hull : List ℕ) (sites : ℕ) (old marks new : List ℕ) (n : ℕ) → First (FreshAt hull sites) (length hull) n
    → marks ≡ marks_to hull (length old) n → new ≡ left_to tri he hull marks (length tri) → MarksLeft tri he hull sites old new
marks_left tri he hull sites old marks new n f q r = (n, f, r ∙ ap (λ t. left_to tri he hull t (length tri)) q)
