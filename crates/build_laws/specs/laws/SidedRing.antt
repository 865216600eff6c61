-- Along a whole ring the walk finds corners and the last entry of an open cell on sides, edge after edge, and comes into the box only with an open cell.
use Rattle.std.specs.Prelude.{◌≡◌, Bool, ◌≢◌, ltb, length, get_or, take, drop}
use Rattle.std.proofs.Math.Path.{refl}
use Rattle.std.proofs.Common.{◌∙◌, arith, ltb-true, ltb-false}
use Rattle.std.proofs.Math.Bool.{true, false}
use mathlib.Core.List.{List, [], ◌∷◌, ◌++◌, reverse, reverse-cons}
use Prim.{tt}
use Prim.Native.Nat.{ℕ, zero, suc, ◌+◌, ◌≤◌, ◌<◌}
use Rattle.base.specs.common.Pick.{pick}
use Rattle.base.specs.numbers.Numbers.{EMPTY}
use Rattle.plane.specs.declared.points.Point.{Point}
use Rattle.plane.specs.declared.boxes.BoundingBox.{BoundingBox}
use Rattle.definition.specs.Fault.{at_edge}
use Rattle.definition.specs.Cell.{Change, clip_step, in_box, Tip, RingPart, step_to, steps_to, first_inside, turned}
use Rattle.definition.specs.Sides.{Sided, SidedCorners}
use Rattle.definition.specs.laws.Gives.{Gives, gives_both, gives_given, gives_map, gives_then, gives_at}
use Rattle.build_laws.specs.Met.{begins_inside, begins_at, walked, first_tip}
use Rattle.build_laws.specs.laws.Inside.{in_grown, first_inside_lem}
use Rattle.build_laws.specs.laws.Ring.{Underway, After, step_to_lem, begin}
use Rattle.build_laws.specs.laws.Runs.{true_false}
use Rattle.build_laws.specs.laws.Sides.{corners_kept}
use Rattle.build_laws.specs.laws.SidedEdge.{EndsOnSide, step_ends, Shut, step_shuts}

-- ---- no vertex of these is inside

abbrev pub AllOutside : BoundingBox → ℕ → List Point → List ℕ → Type 0
AllOutside b nc vs [] = Unit {0}
AllOutside b nc vs (q ∷ qs) = (in_box b nc vs q ≡ false) × AllOutside b nc vs qs

module _ (b : BoundingBox) (nc : ℕ) (vs : List Point) where
  outside_append : (l m : List ℕ) → AllOutside b nc vs l → AllOutside b nc vs m → AllOutside b nc vs (l ++ m)
  outside_append [] m h g = g
  outside_append (q ∷ l) m h g = (h.0, outside_append l m h.1 g)

  outside_reverse : (l : List ℕ) → AllOutside b nc vs l → AllOutside b nc vs (reverse l)
  outside_reverse [] h = tt
  outside_reverse (q ∷ l) h = rw (reverse-cons q l) (outside_append (reverse l) (q ∷ []) (outside_reverse l h.1) (h.0, tt))

  outside_none : (ring : List ℕ) → length ring ≤ first_inside b nc vs ring → AllOutside b nc vs ring
  unfolding first_inside
  outside_none [] h = tt
  outside_none (q ∷ qs) h = by (in_box b nc vs q) refl h (outside_none qs)
    where
      by : (t : Bool) → in_box b nc vs q ≡ t → suc (length qs) ≤ pick t (λ _. 0) (λ _. suc (first_inside b nc vs qs)) → (length qs ≤ first_inside b nc vs qs → AllOutside b nc vs qs)
          → AllOutside b nc vs (q ∷ qs)
      by true e l k = absurd (omega arith)
      by false e l k = (e, k (omega arith))

  outside_at_lem : (l : List ℕ) (k : ℕ) → k < length l → AllOutside b nc vs l → in_box b nc vs (get_or l k 0) ≡ false
  outside_at_lem [] k l h = absurd (omega arith)
  outside_at_lem (q ∷ qs) zero l h = h.0
  outside_at_lem (q ∷ qs) (suc k) l h = outside_at_lem qs k (omega arith) h.1

-- ---- the walk

-- a cell on its way whose corners, and whose last entry where it is open, lie on sides; it is shut where the ring's vertex is inside
pub record SidedTip (b : BoundingBox) (nc : ℕ) (vs : List Point) (started : Bool) (t : Tip) : Type 0 where
  pub underway : Underway b nc vs started t
  pub corners : SidedCorners b nc t.verts
  pub ends : t.opened ≡ true → Sided b t.verts t.last
  pub shut : t.p_in ≡ true → t.opened ≡ false

module _ (b : BoundingBox) (nc site : ℕ) (real : site ≢ EMPTY) (vs : List Point) (room : nc + 4 ≤ length vs) (started : Bool) where
  abbrev EndsSided : RingPart → Type 0
  EndsSided c = (c.tip.opened ≡ true → Sided b c.tip.verts c.tip.last) × (c.tip.p_in ≡ true → c.tip.opened ≡ false)

  long : (t : Tip) → SidedTip b nc vs started t → nc + 4 ≤ length t.verts
  long t h = omega (arith, h.underway.grown.longer)

  step_ended : (t : Tip) (q : ℕ) → SidedTip b nc vs started t → Gives EndsSided (step_to b nc site t q)
  unfolding step_to
  step_ended t q h =
      let qIn = in_box b nc t.verts q in
      let o = clip_step b nc site t.p t.p_in q qIn t.verts t.owners t.opened t.last in
      gives_then (λ (d : Change). EndsOnSide b nc site t.last d × (qIn ≡ true → Shut b nc site d)) EndsSided (at_edge site t.p q o) _
      (gives_at _ site t.p q o
      (gives_both _ _ o (step_ends b nc site t.verts (long t h) h.corners t.owners t.last t.p t.p_in q qIn t.opened h.ends h.shut)
      (gives_given (qIn ≡ true) _ o (λ e. step_shuts b nc site t.p t.p_in q qIn t.verts t.owners t.opened t.last e h.shut))))
      (λ d w. w)

  sided_step : (t : Tip) (q : ℕ) → SidedTip b nc vs started t → Gives (λ (c : RingPart). SidedTip b nc vs started c.tip) (step_to b nc site t q)
  sided_step t q h =
      gives_map _ _ (step_to b nc site t q)
      (gives_both (After b nc site real vs room started t) EndsSided (step_to b nc site t q) (step_to_lem b nc site real vs room started t q h.underway) (step_ended t q h))
      (λ c w. record {
        underway = w.0.1;
        corners = corners_kept b nc t.verts c.tip.verts _ w.0.0.grown (long t h) h.corners;
        ends = w.1.0;
        shut = w.1.1;
      })

  pub sided_steps : (qs : List ℕ) (t : Tip) → SidedTip b nc vs started t → Gives (λ (c : RingPart). SidedTip b nc vs started c.tip) (steps_to b nc site qs t)
  unfolding steps_to
  sided_steps [] t h = h
  sided_steps (q ∷ qs) t h =
      gives_then (λ (c : RingPart). SidedTip b nc vs started c.tip) (λ (c : RingPart). SidedTip b nc vs started c.tip) (step_to b nc site t q) _ (sided_step t q h)
      (λ c g. gives_then (λ (d : RingPart). SidedTip b nc vs started d.tip) (λ (d : RingPart). SidedTip b nc vs started d.tip) (steps_to b nc site qs c.tip) _
      (sided_steps qs c.tip g) (λ d k. k))

-- ---- the whole ring

module _ (b : BoundingBox) (nc site : ℕ) (real : site ≢ EMPTY) (vs : List Point) (room : nc + 4 ≤ length vs) (sided : SidedCorners b nc vs) (ring os : List ℕ) (four : length os ≡ 4) where
  pub first_sided : SidedTip b nc vs (begins_inside b nc ring vs) (first_tip b nc ring vs os)
  first_sided = record {
    underway = begin b nc site real vs room (begins_inside b nc ring vs) os (get_or ring (begins_at b nc ring vs) 0) four (by (begins_inside b nc ring vs) refl);
    corners = sided;
    ends = λ e. absurd (true_false e refl);
    shut = λ e. refl;
  }
    where
      by : (t : Bool) → ltb (first_inside b nc vs ring) (length ring) ≡ t → t ≡ true → in_box b nc vs (get_or ring (pick t (λ _. first_inside b nc vs ring) (λ _. 0)) 0) ≡ true
      by true e h = first_inside_lem b nc vs ring (ltb-true _ _ e)
      by false e h = absurd (true_false h refl)

  -- a ring that begins outside has no vertex inside
  walked_outside : begins_inside b nc ring vs ≡ false → AllOutside b nc vs (walked b nc ring vs)
  unfolding turned
  walked_outside h =
      rw h (outside_append b nc vs (reverse (take 0 ring)) (reverse (drop 0 ring)) tt (outside_reverse b nc vs ring (outside_none b nc vs ring (ltb-false _ _ h))))

  -- the edge after the first k of the ring: its corners and last entry are on sides, and into the box it comes with an open cell
  pub at_edge_sided : (k : ℕ) → k < length (walked b nc ring vs) → (t : Tip) → SidedTip b nc vs (begins_inside b nc ring vs) t
      → t.p_in ≡ false → in_box b nc t.verts (get_or (walked b nc ring vs) k 0) ≡ true → t.opened ≡ true
  at_edge_sided k l t h out into = by (begins_inside b nc ring vs) refl
    where
      q : ℕ
      q = get_or (walked b nc ring vs) k 0

      same : in_box b nc t.verts q ≡ in_box b nc vs q
      same = in_grown b nc vs t.verts h.underway.more q (omega arith) h.underway.grown

      by : (r : Bool) → begins_inside b nc ring vs ≡ r → t.opened ≡ true
      by true e = h.underway.out e out
      by false e = absurd (true_false into (same ∙ outside_at_lem b nc vs (walked b nc ring vs) k l (walked_outside e)))
