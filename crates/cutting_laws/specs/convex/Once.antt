-- Theorem: a border whose outward directions keep turning one way and come round once is never refused by 25 (`border_once`). More than that: where they keep turning, the turns that are
-- counted, less those back, are as many as the runs of directions to the left (`turns_are_runs`). A convex border has one such run: along it the sites' y rises and falls once.
--
-- What it asks of two directions in a row is what `keeps_on` computes: to the left, up, to the right, down, and to the left again, none of these left out but up and down; and where the step
-- goes from the left straight to the right, or back, that the test of the cutting (`between_down`) has it pass above, or below. That test is a sum of two products in floats where
-- the two directions' y differ in sign. So a border with two hull edges that run opposite ways but for the last bits may not keep on, convex as it is: then nothing is said here.
-- A direction to the left is one along whose edge y rises: the signs of its two numbers are those of differences of coordinates. The bends within a run are not asked for.
use Rattle.std.specs.Prelude.{◌≡◌, Bool, true, false, not, cond, List, Float, length}
use Rattle.std.proofs.Math.Path.{refl, ap}
use Rattle.std.proofs.Common.{sym, ◌∙◌, arith}
use Rattle.std.proofs.lemmas.Bool.{false≢true}
use Prim.Native.Nat.{ℕ, zero, suc, ◌+◌, ◌/◌, ◌<◌}
use Rattle.std.specs.Float.Ieee.{lt, eq}
use Rattle.base.specs.common.Binary64 as B
use Rattle.base.specs.common.Pick.{pick}
use Rattle.ring_area.specs.lowest.Lowest.{any_below}
use Rattle.plane.specs.points.Flat.{point_at}
use Rattle.plane.specs.declared.points.Point.{Point}
use Rattle.plane.specs.declared.boxes.BoundingBox.{BoundingBox}
use Rattle.mesh.specs.Mesh.{leftmost_of, start_of}
use Rattle.mesh.specs.Accepted.{Topology}
use Rattle.cutting.specs.cuts.Step.{passed_by}
use Rattle.cutting.specs.cuts.Rings.{RingEdge}
use Rattle.cutting.specs.cuts.Named.{EdgeName, ChainedEdges, ClosedEdges}
use Rattle.cutting.specs.rings.Names.{edge_of}
use Rattle.cutting.specs.rings.Rings.{starts_at}
use Rattle.cutting.specs.rings.Border.{arrives, border_names, border_closed}
use Rattle.cutting.specs.corner.Corner.{within_of, far_at}
use Rattle.cutting.specs.declared.corner.SideName.TheVariants.{Left}
use Rattle.cutting.specs.declared.corner.Corner.{Corner}
use Rattle.cutting.specs.meet.Crossing.{between_down, passes_down, upward_of}
use Rattle.cutting.specs.border.Border.{toward_of, hull_end, undirected_at, turned_by, turns_after, turns_to, border_number}
use Rattle.cutting.specs.border.laws.Counting.{once_is}

-- ---- directions by the signs of their two numbers
pub data Heading : Type 0 where
  left : Heading
  up : Heading
  right : Heading
  down : Heading
  none : Heading

unfoldable pub heading_of : Point → Heading
heading_of d =
    pick (eq d.x B.zero) (λ _. pick (lt B.zero d.y) (λ _. down) (λ _. up))
    (λ _. pick (lt d.x B.zero) (λ _. left) (λ _. pick (lt B.zero d.x) (λ _. right) (λ _. none)))

-- whether the step from one way to the next keeps on: `below` is whether it passes below, by the cutting's test
abbrev pub keeps_by : Heading → Heading → Bool → Bool
keeps_by left left below = true
keeps_by left up below = true
keeps_by left right below = not below
keeps_by left down below = false
keeps_by left none below = false
keeps_by up left below = false
keeps_by up up below = true
keeps_by up right below = true
keeps_by up down below = false
keeps_by up none below = false
keeps_by right left below = below
keeps_by right up below = false
keeps_by right right below = true
keeps_by right down below = true
keeps_by right none below = false
keeps_by down left below = true
keeps_by down up below = false
keeps_by down right below = false
keeps_by down down below = true
keeps_by down none below = false
keeps_by none v below = false

abbrev pub keeps_on : Point → Point → Bool
keeps_on d e = keeps_by (heading_of d) (heading_of e) (between_down d e)

-- 1 where a run of directions to the left ends
abbrev pub ends_run : Heading → Heading → ℕ
ends_run left left = 0
ends_run left up = 1
ends_run left right = 1
ends_run left down = 1
ends_run left none = 1
ends_run up v = 0
ends_run right v = 0
ends_run down v = 0
ends_run none v = 0

-- ---- one step: the turns that it counts, but for what is still owed of a direction straight up that is not within the left side
abbrev owed_by : Heading → Bool → ℕ
owed_by left w = 0
owed_by up w = cond w 0 1
owed_by right w = 0
owed_by down w = 0
owed_by none w = 0

-- what the ways say of being within the left side, and of passing above
abbrev Fits : Heading → Heading → Bool → Bool → Bool → Type 0
Fits left left h t above = (h ≡ false) × (t ≡ false)
Fits left up h t above = (h ≡ false) × (above ≡ true)
Fits left right h t above = (h ≡ false) × (t ≡ true) × (above ≡ true)
Fits left down h t above = ⊥
Fits left none h t above = ⊥
Fits up left h t above = ⊥
Fits up up h t above = above ≡ true
Fits up right h t above = (t ≡ true) × (above ≡ true)
Fits up down h t above = ⊥
Fits up none h t above = ⊥
Fits right left h t above = above ≡ false
Fits right up h t above = ⊥
Fits right right h t above = (h ≡ true) × (t ≡ true)
Fits right down h t above = above ≡ false
Fits right none h t above = ⊥
Fits down left h t above = above ≡ false
Fits down up h t above = ⊥
Fits down right h t above = ⊥
Fits down down h t above = above ≡ false
Fits down none h t above = ⊥
Fits none v h t above = ⊥

below_none : (h t : Bool) → (passed_by t h false ≡ 0) × (passed_by h t false ≡ 0)
below_none true true = (refl, refl)
below_none true false = (refl, refl)
below_none false true = (refl, refl)
below_none false false = (refl, refl)

into_up : (t : Bool) → passed_by t false true + cond t 0 1 ≡ passed_by false t true + 1 + 0
into_up true = refl
into_up false = refl

along_up : (h t : Bool) → passed_by t h true + cond t 0 1 ≡ passed_by h t true + 0 + cond h 0 1
along_up true true = refl
along_up true false = refl
along_up false true = refl
along_up false false = refl

out_of_up : (h : Bool) → passed_by true h true + 0 ≡ passed_by h true true + 0 + cond h 0 1
out_of_up true = refl
out_of_up false = refl

counted_by : (u v : Heading) (h t above : Bool) → Fits u v h t above → passed_by t h above + owed_by v t ≡ passed_by h t above + ends_run u v + owed_by u h
counted_by left left h t above f = rw (f.0, f.1) refl
counted_by left up h t above f = rw (f.0, f.1) (into_up t)
counted_by left right h t above f = rw (f.0, f.1, f.2) refl
counted_by left down h t above f = absurd f
counted_by left none h t above f = absurd f
counted_by up left h t above f = absurd f
counted_by up up h t above f = rw f (along_up h t)
counted_by up right h t above f = rw (f.0, f.1) (out_of_up h)
counted_by up down h t above f = absurd f
counted_by up none h t above f = absurd f
counted_by right left h t above f = rw f (omega (arith, below_none h t))
counted_by right up h t above f = absurd f
counted_by right right h t above f = rw (f.0, f.1) refl
counted_by right down h t above f = rw f (omega (arith, below_none h t))
counted_by right none h t above f = absurd f
counted_by down left h t above f = rw f (omega (arith, below_none h t))
counted_by down up h t above f = absurd f
counted_by down right h t above f = absurd f
counted_by down down h t above f = rw f (omega (arith, below_none h t))
counted_by down none h t above f = absurd f
counted_by none v h t above f = absurd f

-- what a way says of a direction
abbrev Says : Heading → Point → Type 0
Says left d = (eq d.x B.zero ≡ false) × (lt d.x B.zero ≡ true)
Says up d = (eq d.x B.zero ≡ true) × (lt B.zero d.y ≡ false)
Says right d = (eq d.x B.zero ≡ false) × (lt d.x B.zero ≡ false) × (lt B.zero d.x ≡ true)
Says down d = (eq d.x B.zero ≡ true) × (lt B.zero d.y ≡ true)
Says none d = Unit {0}

says : (d : Point) → Says (heading_of d) d
unfolding heading_of
says d = go (eq d.x B.zero) (lt B.zero d.y) (lt d.x B.zero) (lt B.zero d.x) refl refl refl refl
  where
    go : (p q r s : Bool) → eq d.x B.zero ≡ p → lt B.zero d.y ≡ q → lt d.x B.zero ≡ r → lt B.zero d.x ≡ s
        → Says (pick p (λ _. pick q (λ _. down) (λ _. up)) (λ _. pick r (λ _. left) (λ _. pick s (λ _. right) (λ _. none)))) d
    go true true r s e f g h = (e, f)
    go true false r s e f g h = (e, f)
    go false q true s e f g h = (e, g)
    go false q false true e f g h = (e, g, h)
    go false q false false e f g h = tt

module _ (b : BoundingBox) (p q d e : Point) where
  abbrev from : Corner
  from = far_at p d

  abbrev to : Corner
  to = far_at q e

  fits : (u v : Heading) → Says u d → Says v e → keeps_by u v (between_down d e) ≡ true → Fits u v (within_of b Left from) (within_of b Left to) (upward_of from to)
  unfolding passes_down
  fits left left s r k = (rw s.1 refl, rw r.1 refl)
  fits left up s r k = (rw s.1 refl, rw (s.0, r.0, r.1) refl)
  fits left right s r k = (rw s.1 refl, rw (r.1, r.2) refl, rw (s.0, r.0) k)
  fits left down s r k = absurd (false≢true k)
  fits left none s r k = absurd (false≢true k)
  fits up left s r k = absurd (false≢true k)
  fits up up s r k = rw (s.0, s.1) refl
  fits up right s r k = (rw (r.1, r.2) refl, rw (s.0, s.1) refl)
  fits up down s r k = absurd (false≢true k)
  fits up none s r k = absurd (false≢true k)
  fits right left s r k = rw (s.0, r.0, k) refl
  fits right up s r k = absurd (false≢true k)
  fits right right s r k = (rw (s.1, s.2) refl, rw (r.1, r.2) refl)
  fits right down s r k = rw (s.0, r.0, r.1) refl
  fits right none s r k = absurd (false≢true k)
  fits down left s r k = rw (s.0, s.1) refl
  fits down up s r k = absurd (false≢true k)
  fits down right s r k = absurd (false≢true k)
  fits down down s r k = rw (s.0, s.1) refl
  fits down none s r k = absurd (false≢true k)
  fits none v s r k = absurd (false≢true k)

  step_counted : keeps_on d e ≡ true → passed_by (within_of b Left to) (within_of b Left from) (upward_of from to) + owed_by (heading_of e) (within_of b Left to)
      ≡ passed_by (within_of b Left from) (within_of b Left to) (upward_of from to) + ends_run (heading_of d) (heading_of e) + owed_by (heading_of d) (within_of b Left from)
  step_counted k = counted_by (heading_of d) (heading_of e) (within_of b Left from) (within_of b Left to) (upward_of from to) (fits (heading_of d) (heading_of e) (says d) (says e) k)

-- ---- the whole border
-- the sum of f over the first k
abbrev sum_to : (ℕ → ℕ) → ℕ → ℕ
sum_to f zero = 0
sum_to f (suc k) = f k + sum_to f k

module _ {tri he hull : List ℕ} {n : ℕ} (ok : Topology tri he hull n) (sites : List Float) where
  -- the half-edge on the hull that ends at place i, and the one before it
  abbrev before : ℕ → ℕ
  before i = starts_at ok (start_of tri (arrives ok i))

  abbrev direction_at : ℕ → Point
  direction_at i = toward_of sites tri (arrives ok i)

  abbrev direction_on : ℕ → Point
  direction_on i = toward_of sites tri (before i)

  -- how many runs of directions to the left end at the first k places
  abbrev pub runs_to : ℕ → ℕ
  runs_to zero = 0
  runs_to (suc k) = ends_run (heading_of (direction_at k)) (heading_of (direction_on k)) + runs_to k

  -- the edges at infinity with the half-edges for their ends
  abbrev named : EdgeName → RingEdge ℕ ℕ
  named = edge_of tri he (starts_at ok) (λ t. t) (λ o. o) (λ o. o) 0

  -- round the border whatever the half-edges have adds up to the same from either end of its steps
  chain_sum : (f : ℕ → ℕ) (e k : ℕ) → ChainedEdges named e (border_names ok (suc k)) → sum_to (λ i. f (before i)) (suc k) ≡ f e + sum_to (λ i. f (arrives ok i)) k
  chain_sum f e zero c = ap (λ (o : ℕ). f o + 0) c.0
  chain_sum f e (suc k) c = let next : f (before (suc k)) ≡ f (arrives ok k) = ap f c.0 in omega (arith, next, chain_sum f e k c.1)

  round_sum : (f : ℕ → ℕ) → sum_to (λ i. f (before i)) (length hull) ≡ sum_to (λ i. f (arrives ok i)) (length hull)
  round_sum f = go (length hull) (border_closed ok (λ t. t) (λ o. o) (λ o. o) 0)
    where
      go : (h : ℕ) → ClosedEdges named (border_names ok h) → sum_to (λ i. f (before i)) h ≡ sum_to (λ i. f (arrives ok i)) h
      go zero c = refl
      go (suc k) c = chain_sum f (arrives ok k) k c

  -- each step of the first k keeps on
  abbrev pub KeepsOn : ℕ → Type 0
  KeepsOn k = (i : ℕ) → i < k → keeps_on (direction_at i) (direction_on i) ≡ true

  module _ (b : BoundingBox) (centers : List Float) where
    abbrev table : List ℕ
    table = leftmost_of tri he n

    abbrev owed_at : ℕ → ℕ
    owed_at o = owed_by (heading_of (toward_of sites tri o)) (within_of b Left (hull_end sites tri centers o))

    counted : (k : ℕ) → KeepsOn k → (turns_to b sites tri hull table centers k).comes + sum_to (λ i. owed_at (before i)) k
        ≡ (turns_to b sites tri hull table centers k).goes + runs_to k + sum_to (λ i. owed_at (arrives ok i)) k
    unfolding turns_to turns_after turned_by
    counted zero s = refl
    counted (suc k) s =
        let one = step_counted b (point_at centers (arrives ok k / 3)) (point_at centers (before k / 3)) (direction_at k) (direction_on k) (s k (omega arith)) in
        omega (arith, one, counted k (λ i l. s i (omega arith)))

    pub turns_are_runs : KeepsOn (length hull)
        → (turns_to b sites tri hull table centers (length hull)).comes ≡ (turns_to b sites tri hull table centers (length hull)).goes + runs_to (length hull)
    turns_are_runs s = omega (arith, counted (length hull) s, round_sum owed_at)

    pub border_once : any_below (undirected_at sites tri hull table) (length hull) ≡ false → KeepsOn (length hull) → runs_to (length hull) ≡ 1
        → border_number b sites tri hull table centers ≡ 0
    unfolding border_number
    border_once d s r =
        rw d (sym (once_is (turns_to b sites tri hull table centers (length hull))
        (turns_are_runs s ∙ ap (λ (k : ℕ). (turns_to b sites tri hull table centers (length hull)).goes + k) r)))
