-- The box by its four floats, one question after another, and the four lists at places that were found.
use Rattle.std.specs.Prelude.{◌≡◌, refl, Bool, true, false, not, List, ℕ, Float, replicate}
use Rattle.std.proofs.Math.Path.{subst}
use Rattle.std.proofs.Common.{arith}
use Rattle.base.specs.common.Decide.{Says}
use Rattle.plane.specs.points.Plane.{at}
use Rattle.plane.specs.given.Given.{by_size}
use Rattle.mesh.specs.Accepted.{Mesh}
use Rattle.admission.specs.Slices.{Slices}
use Rattle.voronoi.specs.Builds.{Build}
use Rattle.test_replay.specs.words.Words.{word_of, after_of, pattern_of, float_of}
use Rattle.test_replay.specs.words.Held.{ListHeld, after_list_of}
use Rattle.test_replay.specs.Replayed.{box_of, AnswerHeld, Where, Then, FourHeld, ListsHeld}

pub box_read : (m : Mesh) (b : List ℕ) (s s' : Slices) (r : ℕ) (x y w h : Float) → x ≡ float_of (pattern_of b 5) → y ≡ float_of (pattern_of b 7)
    → w ≡ float_of (pattern_of b 9) → h ≡ float_of (pattern_of b 11) → Build m (by_size (at x y) w h) s s' r → Build m (box_of b) s s' r
unfolding box_of
box_read m b s s' r x y w h px py pw ph t =
    let x' = float_of (pattern_of b 5) in
    let y' = float_of (pattern_of b 7) in
    let w' = float_of (pattern_of b 9) in
    subst (λ a. Build m (by_size (at x' y') w' a) s s' r) ph
    (subst (λ a. Build m (by_size (at x' y') a h) s s' r) pw
    (subst (λ a. Build m (by_size (at x' a) w h) s s' r) py (subst (λ a. Build m (by_size (at a y) w h) s s' r) px t)))

pub heard : (Call : List ℕ → List ℕ → List ℕ → ℕ → ℕ → ℕ → Type 0) {b : List ℕ} {q : ℕ} {w' : List ℕ} {r : Bool} {out : List ℕ} {count ended number : ℕ}
    → Call w' (replicate 128 7) out count ended number → Says r (ListHeld out b q number count ended) → AnswerHeld Call b q w' r
heard Call {b} {q} {w'} {r} {out} {count} {ended} {number} a s =
    record { out = out; count = count; ended = ended; number = number; answer = a; says = s }

pub where_asked : {Ask : List ℕ → List ℕ → Bool → Type 0} (t : Bool) {other : Bool} {w w' : List ℕ} {r : Bool} → not t ≡ false → Ask w w' r
    → Where t other Ask w w' r
where_asked true e a = record { asked = λ _. a; passed = λ f. let z : ◌≡◌ {A = ℕ} 0 1 = cc in absurd (omega arith) }
where_asked false e a = let z : ◌≡◌ {A = ℕ} 0 1 = cc in absurd (omega arith)

pub where_passed : {Ask : List ℕ → List ℕ → Bool → Type 0} (t : Bool) {other : Bool} {w : List ℕ} → not t ≡ true → Where t other Ask w w other
where_passed true e = let z : ◌≡◌ {A = ℕ} 0 1 = cc in absurd (omega arith)
where_passed false e = record { asked = λ f. let z : ◌≡◌ {A = ℕ} 0 1 = cc in absurd (omega arith); passed = λ _. (refl, refl) }

pub then_stops : {Ask Next : List ℕ → List ℕ → Bool → Type 0} {w : List ℕ} (v : List ℕ) (told : Bool) → Ask w v told → not told ≡ true
    → Then Ask Next w v false
then_stops v told a e = record { between = v; told = told; asked = a; next = where_passed told e }

pub then_next : {Ask Next : List ℕ → List ℕ → Bool → Type 0} {w w' : List ℕ} {r : Bool} (v : List ℕ) (told : Bool) → Ask w v told
    → not told ≡ false → Next v w' r → Then Ask Next w w' r
then_next v told a e n = record { between = v; told = told; asked = a; next = where_asked told e n }

pub float_at : (b : List ℕ) (k j : ℕ) (x : Float) → k ≡ j → x ≡ float_of (pattern_of b k) → x ≡ float_of (pattern_of b j)
float_at b k j x e p = subst (λ a. x ≡ float_of (pattern_of b a)) e p

module _ (m : Mesh) (b : List ℕ) (built : Bool) (off ix : List ℕ) (q : ℕ) where
  pub lists_read : (s : ℕ) (x y : Float) (first second third fourth : ℕ) (w w' : List ℕ) (r : Bool) → s ≡ word_of b q
      → x ≡ float_of (pattern_of b (after_of q 1)) → y ≡ float_of (pattern_of b (after_of q 3)) → first ≡ after_of q 5 → second ≡ after_list_of b first
      → third ≡ after_list_of b second → fourth ≡ after_list_of b third → FourHeld m b built off ix s (at x y) first second third fourth w w' r
      → ListsHeld m b built off ix q w w' r
  unfolding ListsHeld
  lists_read s x y first second third fourth w w' r ps px py p1 p2 p3 p4 t =
      let F = FourHeld m b built off ix in
      let s' = word_of b q in
      let x' = float_of (pattern_of b (after_of q 1)) in
      let y' = float_of (pattern_of b (after_of q 3)) in
      let u = subst (λ a. F s' (at x' a) first second third fourth w w' r) py
      (subst (λ a. F s' (at a y) first second third fourth w w' r) px (subst (λ a. F a (at x y) first second third fourth w w' r) ps t)) in
      subst (λ a. F s' (at x' y') a (after_list_of b a) (after_list_of b (after_list_of b a)) (after_list_of b (after_list_of b (after_list_of b a))) w w' r) p1
      (subst (λ a. F s' (at x' y') first a (after_list_of b a) (after_list_of b (after_list_of b a)) w w' r) p2
      (subst (λ a. F s' (at x' y') first second a (after_list_of b a) w w' r) p3
      (subst (λ a. F s' (at x' y') first second third a w w' r) p4 u)))
