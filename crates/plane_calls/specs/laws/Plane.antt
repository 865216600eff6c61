-- The promises on points and the box from what the callees say, in the order of the calls.
use Rattle.std.specs.Prelude.{◌≡◌, refl, Bool, ◌&&◌, ◌≢◌, ℕ, ◌-◌, ◌/◌, ◌≤◌, ◌<◌, set, Result, Ok, Err, Float}
use Rattle.std.proofs.Common.{sym, ◌∙◌, inl, inr, arith, eq-eqb, ne_eqb}
use Rattle.std.proofs.Math.Path.{ap}
use Rattle.std.proofs.Math.Bool.{true, false}
use Rattle.std.proofs.lemmas.Bool.{false≢true}
use mathlib.Core.List.{List, [], ◌∷◌, ◌++◌}
use Rattle.std.proofs.Math.ListN.{length, drop, replicate, length-drop}
use Rattle.base.specs.common.Binary64.{zero}
use Rattle.base.specs.common.Pick.{pick}
use Rattle.base.specs.common.Refusals.{once}
use Rattle.base.specs.common.laws.Refusals.{breaks, keeps, nothing}
use Rattle.base.specs.numbers.Numbers.{EMPTY, refused_room, refused_box, refused_coordinate}
use Rattle.plane.specs.points.Flat.{flat, pour}
use Rattle.plane.specs.points.Rules.{ok_site}
use Rattle.plane.specs.points.Sites.{ok_sites}
use Rattle.plane.specs.declared.points.Point.{Point}
use Rattle.plane.specs.centers.Circumcenter.{center_of, ok_center, center_if, center_answer}
use Rattle.plane.specs.centers.Centroid.{ok_count, mean_of, centroid_answer}
use Rattle.plane.specs.boxes.Box.{corners_of}
use Rattle.plane.specs.sides.Sides.{inside_of, exclusive_of, which_of}
use Rattle.plane.specs.declared.boxes.BoundingBox.{BoundingBox}
use Rattle.plane.specs.declared.given.Given.{Given}
use Rattle.plane.specs.lines.Line.{line_of}
use Rattle.plane.specs.declared.lines.Crossing.{Crossing}
use Rattle.plane.specs.declared.lines.Crossing.TheVariants.{None, One, Two}
use Rattle.plane.specs.rays.Ray.{ray_of}
use Rattle.plane.specs.rays.Rules.{met_by, line_answer, ray_answer, count_of, values_of}
use Rattle.plane.specs.given.Tried.{tried_by}
use Rattle.base.specs.declared.refusal.Refusal.{Refusal}
use Rattle.base.specs.declared.refusal.Refusal.TheVariants as refusal
use Rattle.base.specs.refusal.Number.{number_of, answer_number}
use Rattle.std.specs.Result.{result_unwrap_or}
use Rattle.plane.specs.points.Plane.{at}
use Rattle.plane_calls.specs.declared.Met.{Met}
use Rattle.plane_calls.specs.Blank.{IsMet}
use Rattle.cell_memory.specs.layout.Cleared.{cleared_from}
use Rattle.plane_calls.specs.Plane.{bit, Answered, Circumcenter, Centroid, Corners, Inside, ExclusivelyInside, WhichEdge, Meets}

-- ---- a number by one test or two, and what is written beside it
module _ {A : Type 0} {blank : A} {made out : List A} {r : ℕ} where
  pub by_one : {n : ℕ} (t : Bool) → n ≢ 0 → r ≡ pick t (λ _. 0) (λ _. n) → out ≡ pick t (λ _. made) (λ _. replicate (length made) blank)
      → Answered (once n (t ≡ true) ∷ []) blank made r out
  by_one true k e o = record { number = record { judged = inr (refl, e) }; values = rw (eq-eqb r 0 e) o }
  by_one false k e o = record { number = record { judged = inl (false≢true, e) }; values = rw (ne_eqb r 0 (λ q. k (sym e ∙ q))) o }

  pub by_two : {n m : ℕ} (t u : Bool) → n ≢ 0 → m ≢ 0 → r ≡ pick t (λ _. pick u (λ _. 0) (λ _. m)) (λ _. n)
      → out ≡ pick (t && u) (λ _. made) (λ _. replicate (length made) blank) → Answered (once n (t ≡ true) ∷ once m (u ≡ true) ∷ []) blank made r out
  by_two true true k l e o = record { number = record { judged = inr (refl, inr (refl, e)) }; values = rw (eq-eqb r 0 e) o }
  by_two true false k l e o = record { number = record { judged = inr (refl, inl (false≢true, e)) }; values = rw (ne_eqb r 0 (λ q. l (sym e ∙ q))) o }
  by_two false u k l e o = record { number = record { judged = inl (false≢true, e) }; values = rw (ne_eqb r 0 (λ q. k (sym e ∙ q))) o }

six : ◌≢◌ {A = ℕ} 6 0
six q = omega arith

three : ◌≢◌ {A = ℕ} 3 0
three q = omega arith

-- ---- one test: the refusal, with blanks, or what is made
module _ {A : Type 0} {blank : A} {made : List A} {n : ℕ} {t : Bool} where
  pub one_refused : t ≡ false → n ≢ 0 → Answered (once n (t ≡ true) ∷ []) blank made n (replicate (length made) blank)
  one_refused f k = record { number = record { judged = inl ((λ h. false≢true (sym f ∙ h)), refl) }; values = rw (ne_eqb n 0 k) refl }

  pub one_made : t ≡ true → Answered (once n (t ≡ true) ∷ []) blank made 0 made
  one_made h = record { number = record { judged = inr (h, refl) }; values = refl }

-- ---- the box, then the points
module _ {A : Type 0} {blank : A} {made : List A} (t u : Bool) where
  pub two_refused : {r : Refusal} → Err r ≡ tried_by t u → Answered (once refused_box (t ≡ true) ∷ once refused_coordinate (u ≡ true) ∷ []) blank made (number_of r) (replicate (length made) blank)
  two_refused {r} h = by_two t u three six (number t u h) (blanks t u h)
    where
      number : (t u : Bool) → Err r ≡ tried_by t u → number_of r ≡ pick t (λ _. pick u (λ _. 0) (λ _. refused_coordinate)) (λ _. refused_box)
      number true true h = absurd (cc)
      number true false h = ap number_of (the h)
        where
          the : {r s : Refusal} → ◌≡◌ {A = Result (Unit {0}) Refusal} (Err r) (Err s) → r ≡ s
          the h = cc
      number false u h = ap number_of (the h)
        where
          the : {r s : Refusal} → ◌≡◌ {A = Result (Unit {0}) Refusal} (Err r) (Err s) → r ≡ s
          the h = cc

      blanks : (t u : Bool) → Err r ≡ tried_by t u → replicate (length made) blank ≡ pick (t && u) (λ _. made) (λ _. replicate (length made) blank)
      blanks true true h = absurd (cc)
      blanks true false h = refl
      blanks false u h = refl

  pub two_made : {x : Unit {0}} → Ok x ≡ tried_by t u → Answered (once refused_box (t ≡ true) ∷ once refused_coordinate (u ≡ true) ∷ []) blank made 0 made
  two_made {x} h = by_two t u three six (number t u h) (all t u h)
    where
      number : (t u : Bool) → Ok x ≡ tried_by t u → 0 ≡ pick t (λ _. pick u (λ _. 0) (λ _. refused_coordinate)) (λ _. refused_box)
      number true true h = refl
      number true false h = absurd (cc)
      number false u h = absurd (cc)

      all : (t u : Bool) → Ok x ≡ tried_by t u → made ≡ pick (t && u) (λ _. made) (λ _. replicate (length made) blank)
      all true true h = refl
      all true false h = absurd (cc)
      all false u h = absurd (cc)

module _ (g : Given) (p : Point) {point : Bool} (q : point ≡ ok_site p) where
  pub inside_refused : {r : Refusal} → Err r ≡ tried_by g.sound point → Inside g p (number_of r) (bit false)
  unfolding bit
  inside_refused h = rw (← q) (two_refused g.sound point h)

  pub inside_made : {x : Unit {0}} {i : Bool} → Ok x ≡ tried_by g.sound point → i ≡ inside_of g.bounds p → Inside g p 0 (bit i)
  inside_made h e = rw (← q, e) (two_made g.sound point h)

  pub exclusively_refused : {r : Refusal} → Err r ≡ tried_by g.sound point → ExclusivelyInside g p (number_of r) (bit false)
  unfolding bit
  exclusively_refused h = rw (← q) (two_refused g.sound point h)

  pub exclusively_made : {x : Unit {0}} {i : Bool} → Ok x ≡ tried_by g.sound point → i ≡ exclusive_of g.bounds p → ExclusivelyInside g p 0 (bit i)
  exclusively_made h e = rw (← q, e) (two_made g.sound point h)

  pub side_refused : {r : Refusal} → Err r ≡ tried_by g.sound point → WhichEdge g p (number_of r) EMPTY
  side_refused h = rw (← q) (two_refused g.sound point h)

  module _ {x : Unit {0}} {i : ℕ} (h : Ok x ≡ tried_by g.sound point) (e : i ≡ which_of g.bounds p) where
    pub side_none : i ≡ 4 → WhichEdge g p 0 EMPTY
    side_none n = rw (← q, ← e, eq-eqb i 4 n) (two_made g.sound point h)

    pub side_some : i ≢ 4 → WhichEdge g p 0 i
    side_some n = rw (← q, ← e, ne_eqb i 4 n) (two_made g.sound point h)

-- ---- a circumcenter or a centroid taken apart
abbrev nowhere_at : Point
nowhere_at = at zero zero

pub spot : {s : Result Point Refusal} (a b : Refusal) (t u : Bool) (p : Point) → number_of a ≢ 0 → number_of b ≢ 0 → s ≡ pick t (λ _. pick u (λ _. Ok p) (λ _. Err b)) (λ _. Err a)
    → Answered (once (number_of a) (t ≡ true) ∷ once (number_of b) (u ≡ true) ∷ []) zero (p.x ∷ p.y ∷ []) (answer_number s)
    ((result_unwrap_or s nowhere_at).x ∷ (result_unwrap_or s nowhere_at).y ∷ [])
spot a b true true p k l e = rw e (by_two true true k l refl refl)
spot a b true false p k l e = rw e (by_two true false k l refl refl)
spot a b false u p k l e = rw e (by_two false u k l refl refl)

pub circumcenter : (a b c : Point) {s : Result Point Refusal} → s ≡ center_answer a b c
    → Circumcenter a b c (answer_number s) (result_unwrap_or s nowhere_at).x (result_unwrap_or s nowhere_at).y
unfolding center_answer center_if
circumcenter a b c = spot refusal.Coordinate refusal.Circumcenter (ok_site a && ok_site b && ok_site c) (ok_center (center_of a b c)) (center_of a b c) six (λ q. omega arith)

pub centroid : (l : List Float) {s : Result Point Refusal} → s ≡ centroid_answer l
    → Centroid l (answer_number s) (result_unwrap_or s nowhere_at).x (result_unwrap_or s nowhere_at).y
unfolding centroid_answer
centroid l = spot refusal.Count refusal.Coordinate (ok_count l) (ok_sites (length l / 2) l) (mean_of l (length l / 2)) (λ q. omega arith) six

-- ---- the corners: eight stores, then zeros
pub eight : (l : List Float) (a b c d e f g h : Float) → 8 ≤ length l
    → set (set (set (set (set (set (set (set l 0 a) 1 b) 2 c) 3 d) 4 e) 5 f) 6 g) 7 h ≡ a ∷ b ∷ c ∷ d ∷ e ∷ f ∷ g ∷ h ∷ drop 8 l
eight [] a b c d e f g h k = absurd (omega arith)
eight (x ∷ []) a b c d e f g h k = absurd (omega arith)
eight (x ∷ y ∷ []) a b c d e f g h k = absurd (omega arith)
eight (x ∷ y ∷ z ∷ []) a b c d e f g h k = absurd (omega arith)
eight (x ∷ y ∷ z ∷ u ∷ []) a b c d e f g h k = absurd (omega arith)
eight (x ∷ y ∷ z ∷ u ∷ v ∷ []) a b c d e f g h k = absurd (omega arith)
eight (x ∷ y ∷ z ∷ u ∷ v ∷ w ∷ []) a b c d e f g h k = absurd (omega arith)
eight (x ∷ y ∷ z ∷ u ∷ v ∷ w ∷ r ∷ []) a b c d e f g h k = absurd (omega arith)
eight (x ∷ y ∷ z ∷ u ∷ v ∷ w ∷ r ∷ s ∷ l) a b c d e f g h k = refl

module _ (g : Given) (l : List Float) where
  pub too_short : length l < 8 → Corners g l refused_room l
  too_short k = record { number = breaks (λ h. omega (arith, k, h)); slice = refl }

  module _ (k : 8 ≤ length l) where
    pub no_box : g.sound ≡ false → Corners g l refused_box l
    no_box f = record { number = keeps k (breaks (λ h. false≢true (sym f ∙ h))); slice = refl }

    cleared : (b : BoundingBox) → cleared_from 8 zero (pour (corners_of b) l) ≡ flat (corners_of b) ++ replicate (length l - 8) zero
    unfolding pour corners_of flat
    cleared b =
        let e : length (flat (corners_of b) ++ drop 8 l) - 8 ≡ length l - 8 = omega (arith, length-drop 8 l) in
        ap (λ n. flat (corners_of b) ++ replicate n zero) e

    pub put : {after poured : List Float} → g.sound ≡ true → poured ≡ pour (corners_of g.bounds) l
        → after ≡ cleared_from 8 zero poured → Corners g l 0 after
    put f p a = record { number = keeps k (keeps f nothing); slice = a ∙ ap (cleared_from 8 zero) p ∙ cleared g.bounds }

-- ---- a crossing taken apart
zeros : (c : Crossing) → zero ∷ zero ∷ zero ∷ zero ∷ [] ≡ replicate (length (values_of c)) zero
zeros None = refl
zeros (One x y) = refl
zeros (Two x y u v) = refl

-- what is met in the box
module _ (g : Given) (p q : Point) (crossing : BoundingBox → Point → Point → Crossing) where
  met_cases : (t u : Bool) (c : Crossing) {k : Crossing} {m : Met} → Ok k ≡ met_by t u c → IsMet k m
      → Answered (once refused_box (t ≡ true) ∷ once refused_coordinate (u ≡ true) ∷ []) 0 (count_of c ∷ []) 0 (m.count ∷ [])
      × Answered (once refused_box (t ≡ true) ∷ once refused_coordinate (u ≡ true) ∷ []) zero (values_of c) 0 (m.x ∷ m.y ∷ m.u ∷ m.v ∷ [])
  unfolding met_by
  met_cases true true c {k} {m} h i =
      let e : k ≡ c = cc in
      (by_two true true three six refl (ap (λ z. z ∷ []) (i.count ∙ ap count_of e)), by_two true true three six refl (i.values ∙ ap values_of e))
  met_cases true false c h i = absurd (cc)
  met_cases false u c h i = absurd (cc)

  refused_cases : (t u : Bool) (c : Crossing) {r : Refusal} → Err r ≡ met_by t u c
      → Answered (once refused_box (t ≡ true) ∷ once refused_coordinate (u ≡ true) ∷ []) 0 (count_of c ∷ []) (number_of r) (0 ∷ [])
      × Answered (once refused_box (t ≡ true) ∷ once refused_coordinate (u ≡ true) ∷ []) zero (values_of c) (number_of r) (zero ∷ zero ∷ zero ∷ zero ∷ [])
  unfolding met_by
  refused_cases true true c h = absurd (cc)
  refused_cases true false c {r} h =
      let e : r ≡ refusal.Coordinate = cc in
      (by_two true false three six (ap number_of e) refl, by_two true false three six (ap number_of e) (zeros c))
  refused_cases false u c {r} h =
      let e : r ≡ refusal.Box = cc in
      (by_two false u three six (ap number_of e) refl, by_two false u three six (ap number_of e) (zeros c))

  pub meets : {k : Crossing} {m : Met} → Ok k ≡ met_by g.sound (ok_site p && ok_site q) (crossing g.bounds p q) → IsMet k m → Meets crossing g p q 0 m.count m.x m.y m.u m.v
  meets h i = met_cases g.sound (ok_site p && ok_site q) (crossing g.bounds p q) h i

  pub meets_refused : {r : Refusal} → Err r ≡ met_by g.sound (ok_site p && ok_site q) (crossing g.bounds p q) → Meets crossing g p q (number_of r) 0 zero zero zero zero
  meets_refused h = refused_cases g.sound (ok_site p && ok_site q) (crossing g.bounds p q) h

module _ (g : Given) (p q : Point) where
  pub line_meets : {k : Crossing} {m : Met} → Ok k ≡ line_answer g p q → IsMet k m → Meets line_of g p q 0 m.count m.x m.y m.u m.v
  unfolding line_answer
  line_meets h i = meets g p q line_of h i

  pub line_refused : {r : Refusal} → Err r ≡ line_answer g p q → Meets line_of g p q (number_of r) 0 zero zero zero zero
  unfolding line_answer
  line_refused h = meets_refused g p q line_of h

  pub ray_meets : {k : Crossing} {m : Met} → Ok k ≡ ray_answer g p q → IsMet k m → Meets ray_of g p q 0 m.count m.x m.y m.u m.v
  unfolding ray_answer
  ray_meets h i = meets g p q ray_of h i

  pub ray_refused : {r : Refusal} → Err r ≡ ray_answer g p q → Meets ray_of g p q (number_of r) 0 zero zero zero zero
  unfolding ray_answer
  ray_refused h = meets_refused g p q ray_of h
