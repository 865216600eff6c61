-- Why a build's refusals are late: each step of it refuses with 11 to 14 alone.
use Rattle.std.specs.Prelude.{Bool, true, false, ◌&&◌, ltb, Float, length, get_or, replicate}
use mathlib.Core.List.{List, [], ◌∷◌}
use Prim.Native.Nat.{ℕ, zero, suc}
use Rattle.std.proofs.Common.{arith}
use Rattle.base.specs.common.Pick.{pick}
use Rattle.base.specs.numbers.Numbers.{refused_no_crossing, refused_one_crossing}
use Rattle.plane.specs.declared.points.Point.{Point}
use Rattle.plane.specs.centers.Circumcenter.{ok_center}
use Rattle.plane.specs.declared.boxes.BoundingBox.{BoundingBox}
use Rattle.mesh.specs.Mesh.{end_of}
use Rattle.definition.specs.declared.Fault.{Fault}
use Rattle.definition.specs.Fault.{Outcome, ok, refused, and_then, at_edge}
use Rattle.definition.specs.Cell.{EdgeClip, missed, once, twice, Tip, leave, enter, cross, clip_step, step_to, steps_to, clip_from, first_inside, clip_cell}
use Rattle.definition.specs.Build.{CellState, Extensions, center_at, centers_from, extended, extend_from, finite, hull_ring, ring_from, clip_into, clip_hull, is_empty, clip_rest, clip_all}
use Rattle.definition.specs.Short.{cell_state}
use Rattle.build_laws.specs.Late.{Refuses, Late, Numbered}

pub late_then : {F A B : Type 0} (P : F → Type 0) (o : Outcome F A) (k : A → Outcome F B) → Refuses P o → ((a : A) → Refuses P (k a)) → Refuses P (and_then o k)
unfolding and_then
late_then P (ok a) k h f = f a
late_then P (refused e) k h f = h

late_at : {A : Type 0} (site p q : ℕ) (o : Outcome ℕ A) → Refuses Late o → Refuses (λ (f : Fault). Late f.number) (at_edge site p q o)
unfolding at_edge
late_at site p q (ok a) h = tt
late_at site p q (refused n) h = h

both : {F A : Type 0} (P : F → Type 0) (t : Bool) (f g : Unit {0} → Outcome F A) → Refuses P (f tt) → Refuses P (g tt) → Refuses P (pick t f g)
both P true f g h k = h
both P false f g h k = k

no_crossing : Late refused_no_crossing
no_crossing = record { least = omega arith; most = omega arith }

one_crossing : Late refused_one_crossing
one_crossing = record { least = omega arith; most = omega arith }

-- ---- one edge
module _ (b : BoundingBox) (nc site : ℕ) where
  leaves : (p : ℕ) (os : List ℕ) (c : EdgeClip) → Refuses Late (leave p os c)
  unfolding leave
  leaves p os missed = no_crossing
  leaves p os (once r) = tt
  leaves p os (twice r t) = tt

  enters : (os : List ℕ) (last : ℕ) (c : EdgeClip) → Refuses Late (enter b nc site os last c)
  unfolding enter
  enters os last missed = no_crossing
  enters os last (once r) = tt
  enters os last (twice r t) = tt

  crosses : (vs : List Point) (os : List ℕ) (opened : Bool) (last : ℕ) (c : EdgeClip) → Refuses Late (cross b nc site vs os opened last c)
  unfolding cross
  crosses vs os opened last missed = tt
  crosses vs os opened last (once r) = one_crossing
  crosses vs os opened last (twice r t) = tt

  steps : (p : ℕ) (p_in : Bool) (q : ℕ) (qIn : Bool) (vs : List Point) (os : List ℕ) (opened : Bool) (last : ℕ) → Refuses Late (clip_step b nc site p p_in q qIn vs os opened last)
  unfolding clip_step
  steps p p_in q qIn vs os opened last =
      both Late p_in _ _ (both Late qIn _ _ tt (leaves p os _)) (both Late qIn _ _ (enters os last _) (crosses vs os opened last _))

-- ---- a cell, all cells
module _ (b : BoundingBox) (nc : ℕ) where
  ring : (site : ℕ) (qs : List ℕ) (t : Tip) → Refuses Numbered (steps_to b nc site qs t)
  unfolding steps_to step_to
  ring site [] t = tt
  ring site (q ∷ qs) t =
      late_then Numbered (step_to b nc site t q) _
      (late_then Numbered (at_edge site t.p q _) _ (late_at site t.p q _ (steps b nc site t.p t.p_in q _ t.verts t.owners t.opened t.last)) (λ d. tt))
      (λ c. late_then Numbered (steps_to b nc site qs c.tip) _ (ring site qs c.tip) (λ d. tt))

  cell : (site : ℕ) (r : List ℕ) (vs : List Point) (os : List ℕ) → Refuses Numbered (clip_cell b nc site r vs os)
  unfolding clip_cell clip_from
  cell site r vs os = both Numbered (ltb (first_inside b nc vs r) (length r)) _ _ (ring site _ _) (ring site _ _)

  into : (site : ℕ) (r : List ℕ) (s : CellState) → Refuses Numbered (clip_into b nc site r s)
  unfolding clip_into
  into site r s = late_then Numbered (clip_cell b nc site r s.verts s.owners) _ (cell site r s.verts s.owners) (λ c. tt)

  on_hull_lem : (he hull left xs : List ℕ) (i k : ℕ) (s : CellState) → Refuses Numbered (clip_hull b nc he hull left xs i k s)
  unfolding clip_hull
  on_hull_lem he hull left xs i zero s = tt
  on_hull_lem he hull left xs i (suc k) s =
      late_then Numbered (clip_into b nc (get_or hull i 0) (hull_ring he hull left xs i) s) _ (into _ _ s) (λ r. on_hull_lem he hull left xs (suc i) k r)

  on_rest_lem : (tri he : List ℕ) (e k : ℕ) (s : CellState) → Refuses Numbered (clip_rest b nc tri he e k s)
  unfolding clip_rest
  on_rest_lem tri he e zero s = tt
  on_rest_lem tri he e (suc k) s =
      late_then Numbered (pick (is_empty (get_or s.cells (end_of tri e) [])) (λ _. clip_into b nc (end_of tri e) (ring_from he e) s) (λ _. ok s)) _
      (both Numbered (is_empty (get_or s.cells (end_of tri e) [])) _ _ (into _ _ s) tt)
      (λ r. on_rest_lem tri he (suc e) k r)

  pub late_cells : (tri he hull left : List ℕ) (n : ℕ) (owners : List ℕ) (x : Extensions) → Refuses Numbered (clip_all b nc tri he hull left n owners x)
  unfolding clip_all
  late_cells tri he hull left n owners x =
      late_then Numbered (clip_hull b nc he hull left x.at 0 (length hull) (cell_state x.verts owners (replicate n []) x.steps))
      (λ s. clip_rest b nc tri he 0 (length tri) s)
      (on_hull_lem he hull left x.at 0 (length hull) _)
      (λ s. on_rest_lem tri he 0 (length tri) s)

pub late_centers : (sites : List Float) (tri : List ℕ) (t k : ℕ) (vs : List Point) → Refuses Numbered (centers_from sites tri t k vs)
unfolding centers_from
late_centers sites tri t zero vs = tt
late_centers sites tri t (suc k) vs =
    both Numbered (ok_center (center_at sites tri t)) _ _ (late_centers sites tri (suc t) k _) (record { least = omega arith; most = omega arith })

pub late_extensions : (sites : List Float) (tri hull left : List ℕ) (nc i k : ℕ) (x : Extensions) → Refuses Numbered (extend_from sites tri hull left nc i k x)
unfolding extend_from
late_extensions sites tri hull left nc i zero x = tt
late_extensions sites tri hull left nc i (suc k) x =
    let p = extended sites tri x.verts (get_or left _ 0) in
    both Numbered (finite p.x && finite p.y) _ _ (late_extensions sites tri hull left nc (suc i) k _) (record { least = omega arith; most = omega arith })
