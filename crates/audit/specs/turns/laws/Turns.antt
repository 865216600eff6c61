-- A triangle as a ring of sites, and the count as the loop has it.
use Rattle.std.specs.Prelude.{◌≡◌, ℕ, zero, suc, ◌+◌, ◌-◌, ◌*◌, ◌/◌, ◌<◌, ◌≤◌, Bool, true, false, not, List, length, take, drop, slice_index, slice_index_or, Float}
use Rattle.std.proofs.Math.Path.{refl, ap}
use Rattle.std.proofs.Common.{sym, ◌∙◌, subst, arith, add-one, length-take, get_or-take, get_or-drop}
use Rattle.std.specs.Float.Ieee.{lt}
use Rattle.base.specs.common.Binary64 as B
use Rattle.base.specs.common.Pick.{pick}
use Rattle.ring_area.specs.lowest.laws.Loops.{named_twice}
use Rattle.plane.specs.points.Finite.{BoundedPoint}
use Rattle.plane.specs.points.Flat.{point_at}
use Rattle.ring_area.specs.Area.{ring_area}
use Rattle.ring_area.specs.Steps.{Corners}
use Rattle.audit.specs.turns.Turned.{triangle_ring, turned_at, one_if_turned, turned_count, TrianglesKept}

module _ {sites : List Float} {tri : List ℕ} (a : TrianglesKept sites tri) (t : ℕ) (h : t < length tri / 3) where
  long : length (triangle_ring tri t) ≤ 3
  long = omega (arith, length-take 3 (drop (3 * t) tri))

  module _ (k : ℕ) (g : k < length (triangle_ring tri t)) where
    entry : slice_index_or (triangle_ring tri t) k 0 ≡ slice_index tri (3 * t + k)
    entry = get_or-take 3 (drop (3 * t) tri) k 0 (omega (arith, long)) ∙ get_or-drop (3 * t) tri k 0

    within : 3 * t + k < length tri
    within = omega (arith, long)

  pub triangle_corners : Corners sites (triangle_ring tri t)
  triangle_corners = record {
    few = omega (arith, long);
    named = λ k g. named_twice (slice_index (triangle_ring tri t) k) (length sites) (subst (λ (e : ℕ). e < length sites / 2) (sym (entry k g)) (a.named (3 * t + k) (within k g)));
    bounded = λ k g. subst (λ (e : ℕ). BoundedPoint 400 (point_at sites e)) (sym (entry k g)) (a.bounded (3 * t + k) (within k g));
  }

-- as the code cuts it out
pub triangle_part : (tri : List ℕ) (t : ℕ) → take (3 * t + 3 - 3 * t) (drop (3 * t) tri) ≡ triangle_ring tri t
triangle_part tri t = ap (λ (k : ℕ). take k (drop (3 * t) tri)) (three (3 * t))
  where
    three : (a : ℕ) → a + 3 - a ≡ 3
    three a = omega arith

pub turned_is : (sites : List Float) (tri : List ℕ) (t : ℕ) {x : Float} → x ≡ ring_area sites (take (3 * t + 3 - 3 * t) (drop (3 * t) tri)) → not (lt B.zero x) ≡ turned_at sites tri t
unfolding turned_at
turned_is sites tri t e = ap (λ (x : Float). not (lt B.zero x)) (e ∙ ap (ring_area sites) (triangle_part tri t))

-- ---- the test, as a number
module _ (sites : List Float) (tri : List ℕ) (t : ℕ) {b : Bool} (e : b ≡ turned_at sites tri t) where
  pub one_if_lem : b ≡ true → 1 ≡ one_if_turned sites tri t
  unfolding one_if_turned
  one_if_lem f = rw (sym e ∙ f) refl

  pub none_if : b ≡ false → 0 ≡ one_if_turned sites tri t
  unfolding one_if_turned
  none_if f = rw (sym e ∙ f) refl

at_most_one : (b : Bool) → pick b (λ _. 1) (λ _. 0) ≤ 1
at_most_one true = omega arith
at_most_one false = omega arith

-- no more than are looked at
pub count_few : (sites : List Float) (tri : List ℕ) (n : ℕ) → turned_count sites tri n ≤ n
unfolding turned_count one_if_turned
count_few sites tri zero = omega arith
count_few sites tri (suc n) = omega (arith, count_few sites tri n, at_most_one (turned_at sites tri n))

-- ---- the loop that counts
pub record CountedTo (sites : List Float) (tri : List ℕ) (n t count : ℕ) : Type 0 where
  pub most : t ≤ n
  pub few : count ≤ t
  pub value : count ≡ turned_count sites tri t

module _ (sites : List Float) (tri : List ℕ) (n : ℕ) where
  pub counted_start : CountedTo sites tri n 0 0
  unfolding turned_count
  counted_start = record { most = omega arith; few = omega arith; value = refl }

  module _ {t count d : ℕ} (a : CountedTo sites tri n t count) (h : t < n) (e : d ≡ one_if_turned sites tri t) where
    pub counted_few : count + d ≤ t + 1
    unfolding one_if_turned
    counted_few = omega (arith, a.few, e, at_most_one (turned_at sites tri t))

    pub counted_step : CountedTo sites tri n (t + 1) (count + d)
    unfolding turned_count
    counted_step = record {
      most = omega arith;
      few = counted_few;
      value = ap (λ (c : ℕ). c + d) a.value ∙ ap (λ (x : ℕ). turned_count sites tri t + x) e ∙ ap (turned_count sites tri) (sym (add-one t));
    }

  pub counted_end : {t count : ℕ} → CountedTo sites tri n t count → n ≤ t → count ≡ turned_count sites tri n
  counted_end {t} a h =
      let e : t ≡ n = omega (arith, a.most) in
      a.value ∙ ap (turned_count sites tri) e
