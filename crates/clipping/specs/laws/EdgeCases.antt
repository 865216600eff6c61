-- One edge of the ring as the definition has it: the four cases, the refusal's place, the walk's next state.
use Prim.Native.Nat.{ℕ, ◌*◌, ◌≤◌, ◌<◌}
use Rattle.std.specs.Prelude.{◌≡◌, Bool, List, [], ◌∷◌, Float, length, take}
use Rattle.std.proofs.Math.Path.{refl, ap}
use Rattle.std.proofs.Common.{sym, ◌∙◌, subst, true≢false, ⊎_elim, arith, lt-ltb, le-ltb}
use Rattle.std.proofs.Math.Bool.{true, false}
use Rattle.std.specs.Float.{nan}
use Rattle.base.specs.common.laws.Decide.{lt_or_ge}
use Rattle.plane.specs.points.Plane.{at}
use Rattle.plane.specs.declared.points.Point.{Point}
use Rattle.plane.specs.points.Flat.{points}
use Rattle.plane.specs.sides.Sides.{inside_of}
use Rattle.plane.specs.boxes.Finite.{BoundedBox}
use Rattle.plane.specs.declared.boxes.BoundingBox.{BoundingBox}
use Rattle.plane.specs.declared.lines.Crossing.{Crossing}
use Rattle.vertices.specs.laws.Store.{poured_points, kept_vertex}
use Rattle.definition.specs.Fault.{Outcome, ok, refused, and_then, at_edge}
use Rattle.definition.specs.declared.Fault.{Fault}
use Rattle.definition.specs.Cell as Def
use Rattle.definition.specs.Cell.{entry, plain, EdgeClip, missed, once, twice, Change, clip_step, clip_edge, clip_with, leave, enter, cross_at, cross, in_box, vertex_at, step_to}
use Rattle.definition.specs.Short.{fault, change, moved}
use Rattle.definition.specs.Sides.{Sided}
use Rattle.definition.specs.laws.Gives.{Gives}
use Rattle.build_laws.specs.laws.SidedEdge.{ClipSided, clip_sided, EndsOnSide, Shut}
use Rattle.clipping.specs.edges.EdgeClip.{CrossingsAsked}
use Rattle.clipping.specs.edges.laws.EdgeClip.{clip_is}
use Rattle.clipping.specs.EdgeOutcome.{Changes}
use Rattle.clipping.specs.RingWalk.{tip_of, Steps}
use Rattle.clipping.specs.declared.edges.Env.{Env}
use Rattle.clipping.specs.declared.corners.CellSoFar.{CellSoFar}
use Rattle.clipping.specs.declared.Changed.{Changed}
use Rattle.clipping.specs.declared.Tip.{Tip}
use Rattle.clipping.specs.declared.RingStepped.{RingStepped}

-- ---- the four cases

module _ (b : BoundingBox) (nc site p : ℕ) (p_in : Bool) (q : ℕ) (qIn : Bool) (vs : List Point) (os : List ℕ) (opened : Bool) (last : ℕ) where
  pub step_stay : p_in ≡ true → qIn ≡ true → clip_step b nc site p p_in q qIn vs os opened last ≡ ok (change vs os (entry plain p ∷ []) opened [])
  unfolding clip_step
  step_stay h k = rw (h, k)

  -- with the crossings c that were asked for
  module _ (c : Crossing) (a : CrossingsAsked b vs p p_in q qIn c) where
    pub step_leave : p_in ≡ true → qIn ≡ false → clip_step b nc site p p_in q qIn vs os opened last ≡ leave p os (clip_with nc vs c)
    unfolding clip_step
    step_leave h k = rw (h, k) (ap (leave p os) (clip_is b nc vs p q c (a.others k)))

    pub step_enter : p_in ≡ false → qIn ≡ true → clip_step b nc site p p_in q qIn vs os opened last ≡ enter b nc site os last (clip_with nc vs c)
    unfolding clip_step
    step_enter h k = rw (h, k) (ap (enter b nc site os last) (clip_is b nc vs q p c (a.enters h k)))

    pub step_cross : p_in ≡ false → qIn ≡ false → clip_step b nc site p p_in q qIn vs os opened last ≡ cross b nc site vs os opened last (clip_with nc vs c)
    unfolding clip_step
    step_cross h k = rw (h, k) (ap (cross b nc site vs os opened last) (clip_is b nc vs p q c (a.others k)))

    -- they are on the sides, unless both ends are inside
    pub asked_sided : (p_in ≡ true → qIn ≡ true → ⊥) → BoundedBox 101 b → nc ≤ length vs → ClipSided b nc site (clip_with nc vs c)
    asked_sided n box h = go p_in qIn refl refl
      where
        go : (i j : Bool) → p_in ≡ i → qIn ≡ j → ClipSided b nc site (clip_with nc vs c)
        go i false x y = subst (ClipSided b nc site) (clip_is b nc vs p q c (a.others y)) (clip_sided b nc site box vs p q h)
        go false true x y = subst (ClipSided b nc site) (clip_is b nc vs q p c (a.enters x y)) (clip_sided b nc site box vs q p h)
        go true true x y = absurd (n x y)

-- ---- inside

module _ (b : BoundingBox) (nc : ℕ) (vs : List Point) (i : ℕ) where
  pub in_center : i < nc → in_box b nc vs i ≡ inside_of b (vertex_at vs i)
  unfolding in_box
  in_center h = rw (lt-ltb i nc h)

  pub in_none : nc ≤ i → in_box b nc vs i ≡ false
  unfolding in_box
  in_none h = rw (le-ltb i nc h)

-- ---- the refusal's place, and the next state

module _ (env : Env) (t : Tip) (q : ℕ) (qIn : Bool) (v : List Float) (ix : List ℕ) (d : Changed) (v₁ : List Float) (ix₁ : List ℕ) where
  -- the definition's step with its test of q answered
  abbrev step_with : Outcome ℕ Change → Outcome Fault Def.RingPart
  step_with o = and_then (at_edge env.site t.vertex q o) (λ (c : Change). ok (moved (tip_of t v) q qIn c))

  abbrev case_of : Outcome ℕ Change
  case_of = clip_step env.bounds env.centers env.site t.vertex t.inside q qIn (points t.count v) t.cell.owners t.opened t.cell.last

  step_is : qIn ≡ in_box env.bounds env.centers (points t.count v) q → step_to env.bounds env.centers env.site (tip_of t v) q ≡ step_with case_of
  unfolding step_to
  step_is e = rw e

  pub step_refused :
      qIn ≡ in_box env.bounds env.centers (points t.count v) q
      → Changes env t.count case_of t.cell v ix d v₁ ix₁
      → (d.refusal ≡ 0 → ⊥)
      → (r : RingStepped)
      → r.fault ≡ fault d.refusal env.site t.vertex q
      → Steps env 1 (step_to env.bounds env.centers env.site (tip_of t v) q) t.count t.cell v ix r v₁ ix₁
  unfolding and_then at_edge
  step_refused e h n r f = rw (step_is e) (go case_of h)
    where
      go : (o : Outcome ℕ Change) → Changes env t.count o t.cell v ix d v₁ ix₁ → Steps env 1 (step_with o) t.count t.cell v ix r v₁ ix₁
      go (ok c) g = absurd (n g.0)
      go (refused k) g = (f ∙ ap (λ (m : ℕ). fault m env.site t.vertex q) g.0, g.1)

  pub step_done :
      qIn ≡ in_box env.bounds env.centers (points t.count v) q
      → Changes env t.count case_of t.cell v ix d v₁ ix₁
      → d.refusal ≡ 0
      → Steps env 1 (step_to env.bounds env.centers env.site (tip_of t v) q) t.count t.cell v ix
      (record { fault = fault 0 0 0 0; tip = record { cell = d.cell; count = d.count; vertex = q; inside = qIn; opened = d.opened }; reused = d.reused }) v₁ ix₁
  unfolding and_then at_edge
  step_done e h z = rw (step_is e) (go case_of h)
    where
      go :
          (o : Outcome ℕ Change)
          → Changes env t.count o t.cell v ix d v₁ ix₁
          → Steps env 1 (step_with o) t.count t.cell v ix
          (record { fault = fault 0 0 0 0; tip = record { cell = d.cell; count = d.count; vertex = q; inside = qIn; opened = d.opened }; reused = d.reused }) v₁ ix₁
      go (ok c) g = (
        refl,
        rw (poured_points g.4.verts, g.4.puts.owners, g.4.puts.last, g.1),
        g.3,
        g.4,
        g.5,
      )
      go (refused k) g = let a = g.0 in let b = g.1 in absurd (omega arith)

pub changes_low :
    (env : Env) (count : ℕ) (cell : CellSoFar) (v : List Float) (ix : List ℕ) (r : Changed) (v₁ : List Float) (ix₁ : List ℕ) (o : Outcome ℕ Change)
    → Changes env count o cell v ix r v₁ ix₁
    → r.refusal ≡ 0
    → (count ≤ r.count) × (r.opened ≡ true → r.cell.last < r.count)
changes_low env count cell v ix r v₁ ix₁ (ok d) h z = (h.3.low, h.2)
changes_low env count cell v ix r v₁ ix₁ (refused k) h z = let a = h.0 in let b = h.1 in absurd (omega arith)

-- ---- a cell that is left outside and not open was outside and not open before

abbrev pub Out : Bool → Bool → Outcome ℕ Change → Type 0
Out p_in opened (ok d) = d.opened ≡ false → (p_in ≡ false) × (opened ≡ false)
Out p_in opened (refused k) = Unit

leave_out : (p : ℕ) (os : List ℕ) (opened : Bool) (k : EdgeClip) → Out true opened (leave p os k)
unfolding leave
leave_out p os opened missed = tt
leave_out p os opened (once a) = λ e. absurd (true≢false e)
leave_out p os opened (twice a b) = λ e. absurd (true≢false e)

module _ (b : BoundingBox) (nc site : ℕ) (vs : List Point) (os : List ℕ) (opened : Bool) (last : ℕ) where
  cross_out : (k : EdgeClip) → Out false opened (cross b nc site vs os opened last k)
  unfolding cross cross_at
  cross_out missed = λ e. (refl, e)
  cross_out (once a) = tt
  cross_out (twice a t) = λ e. (refl, e)

  pub clip_out : (p : ℕ) (p_in : Bool) (q : ℕ) (qIn : Bool) → qIn ≡ false → Out p_in opened (clip_step b nc site p p_in q qIn vs os opened last)
  unfolding clip_step
  clip_out p true q qIn h = rw h (leave_out p os opened (clip_edge b nc vs p q))
  clip_out p false q qIn h = rw h (cross_out (clip_edge b nc vs p q))

pub changes_out :
    (env : Env) (count : ℕ) (cell : CellSoFar) (v : List Float) (ix : List ℕ) (r : Changed) (v₁ : List Float) (ix₁ : List ℕ) (p_in opened : Bool) (o : Outcome ℕ Change)
    → Out p_in opened o
    → Changes env count o cell v ix r v₁ ix₁
    → r.refusal ≡ 0
    → r.opened ≡ false
    → (p_in ≡ false) × (opened ≡ false)
changes_out env count cell v ix r v₁ ix₁ p_in opened (ok d) g h z e = g (sym h.1 ∙ e)
changes_out env count cell v ix r v₁ ix₁ p_in opened (refused k) g h z e = let a = h.0 in let b = h.1 in absurd (omega arith)

-- ---- an open cell is left on a side, and a cell that comes inside is shut

module _ (env : Env) (count : ℕ) (cell : CellSoFar) (v : List Float) (ix : List ℕ) (r : Changed) (v₁ : List Float) (ix₁ : List ℕ) where
  pub changes_ends :
      (o : Outcome ℕ Change)
      → Gives (EndsOnSide env.bounds env.centers env.site cell.last) o
      → Changes env count o cell v ix r v₁ ix₁
      → r.refusal ≡ 0
      → r.opened ≡ true
      → Sided env.bounds (points r.count v₁) r.cell.last
  changes_ends (ok d) g h z e = rw (poured_points h.4.verts, h.4.puts.last) (g (sym h.1 ∙ e))
  changes_ends (refused k) g h z e = let a = h.0 in let b = h.1 in absurd (omega arith)

  pub changes_shut :
      (o : Outcome ℕ Change)
      → Gives (Shut env.bounds env.centers env.site) o
      → Changes env count o cell v ix r v₁ ix₁
      → r.refusal ≡ 0
      → r.opened ≡ false
  changes_shut (ok d) g h z = h.1 ∙ g
  changes_shut (refused k) g h z = let a = h.0 in let b = h.1 in absurd (omega arith)

-- ---- vertices that are kept are inside as before

pub in_kept :
    (b : BoundingBox) (nc : ℕ) (v v₁ : List Float) (n m i : ℕ)
    → take (2 * n) v₁ ≡ take (2 * n) v
    → nc ≤ n
    → n ≤ m
    → in_box b nc (points m v₁) i ≡ in_box b nc (points n v) i
in_kept b nc v v₁ n m i e h k =
    ⊎_elim
    (λ (l : i < nc).
    in_center b nc (points m v₁) i l
    ∙ ap (inside_of b) (kept_vertex v v₁ n m i (at nan nan) e k (omega arith))
    ∙ sym (in_center b nc (points n v) i l))
    (λ (l : nc ≤ i). in_none b nc (points m v₁) i l ∙ sym (in_none b nc (points n v) i l))
    (lt_or_ge i nc)
