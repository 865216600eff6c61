-- Where clipping a ring is refused, the edge at which it stops: those before it went through, and it is refused by what is wrong with it.
use Rattle.std.specs.Prelude.{◌≡◌, Bool, ltb, length, take}
use Rattle.std.proofs.Math.Path.{refl, sym, ap}
use Rattle.std.proofs.Common.{◌∙◌, arith, ltb-true, ltb-false}
use Rattle.std.proofs.Math.Bool.{true, false}
use mathlib.Core.List.{List, [], ◌∷◌}
use Prim.Native.Nat.{ℕ, zero, suc, ◌≤◌, ◌<◌}
use Rattle.std.proofs.Math.ListN.{get_or}
use Rattle.base.specs.common.Pick.{pick}
use Rattle.base.specs.numbers.Numbers.{EMPTY}
use Rattle.plane.specs.declared.points.Point.{Point}
use Rattle.plane.specs.declared.boxes.BoundingBox.{BoundingBox}
use Rattle.definition.specs.declared.Fault.{Fault}
use Rattle.definition.specs.Fault.{Outcome, ok, refused, and_then, at_edge}
use Rattle.definition.specs.Cell.{Change, clip_step, in_box, Tip, RingPart, step_to, steps_to, first_inside, turned, clip_from, clip_cell}
use Rattle.definition.specs.Short.{fault, tip, part, parts_joined, moved}
use Rattle.definition.specs.laws.Gives.{Gives, gives_ok, gives_then, gives_at}
use Rattle.build_laws.specs.Met.{begins_inside, begins_at, walked, first_tip, EdgeMet}
use Rattle.build_laws.specs.laws.Grown.{Grown}
use Rattle.build_laws.specs.laws.Inside.{in_grown, first_inside_lem, none_inside}
use Rattle.build_laws.specs.laws.Ring.{turned_length}
use Rattle.build_laws.specs.laws.EdgeFault.{step_grows, step_breaks}
use Rattle.build_laws.specs.laws.Runs.{ok_same, refused_same, not_both, then_ok, then_refused, went, Halted, halted_first, halted_later, halted}

module _ (b : BoundingBox) (nc site : ℕ) where
  -- the step of an edge, as it stands in the ring's walk
  abbrev step : Tip → ℕ → Outcome ℕ Change
  step t q = clip_step b nc site t.p t.p_in q (in_box b nc t.verts q) t.verts t.owners t.opened t.last

  -- a tip knows whether its vertex is inside, and has all circumcenters
  pub record Sure (t : Tip) : Type 0 where
    pub known : t.p_in ≡ in_box b nc t.verts t.p
    pub centers : nc ≤ length t.verts

  edge_ok : (p q : ℕ) (o : Outcome ℕ Change) {d : Change} → at_edge site p q o ≡ ok d → o ≡ ok d
  unfolding at_edge
  edge_ok p q (ok c) h = ap ok (ok_same h)
  edge_ok p q (refused n) h = absurd (not_both (sym h))

  edge_refused : (p q : ℕ) (o : Outcome ℕ Change) {f : Fault} → at_edge site p q o ≡ refused f → (o ≡ refused f.number) × (f ≡ fault f.number site p q)
  unfolding at_edge
  edge_refused p q (ok c) h = absurd (not_both h)
  edge_refused p q (refused n) {f} h =
      let e : fault n site p q ≡ f = refused_same h in
      let m : n ≡ f.number = ap (λ (g : Fault). g.number) e in
      (ap refused m, sym e ∙ ap (λ (k : ℕ). fault k site p q) m)

  -- a step that went through
  step_on : (t : Tip) (q : ℕ) {c : RingPart} → Sure t → step_to b nc site t q ≡ ok c → Sure c.tip × (c.tip.p ≡ q)
  unfolding step_to
  step_on t q {c} s h =
      let w = went (at_edge site t.p q (step t q)) _ h in
      let d = w.value in
      let e : moved t q (in_box b nc t.verts q) d ≡ c = ok_same w.then in
      let g = gives_ok _ (step_grows b nc site t.p t.p_in q (in_box b nc t.verts q) t.verts t.owners t.opened t.last s.centers) (edge_ok t.p q (step t q) w.first) in
      rw (← e) (
        record {
          known = sym (in_grown b nc t.verts d.verts g.0 q s.centers g.1);
          centers = omega (arith, s.centers, g.1.longer);
        },
        refl,
      )

  step_stops : (t : Tip) (q : ℕ) {f : Fault} → step_to b nc site t q ≡ refused f → (step t q ≡ refused f.number) × (f ≡ fault f.number site t.p q)
  unfolding step_to
  step_stops t q {f} h = by (halted (at_edge site t.p q (step t q)) _ h)
    where
      by : {g : Change → RingPart} → Halted (at_edge site t.p q (step t q)) (λ d. ok (g d)) f → (step t q ≡ refused f.number) × (f ≡ fault f.number site t.p q)
      by (halted_first e) = edge_refused t.p q (step t q) e
      by (halted_later d e g) = absurd (not_both g)

  stop_steps : (t : Tip) (q n : ℕ) → step t q ≡ refused n → step_to b nc site t q ≡ refused (fault n site t.p q)
  unfolding step_to at_edge
  stop_steps t q n h = then_refused _ (ap (λ o. at_edge site t.p q o) h)

  -- ---- a run of edges

  -- k edges from t on went through, the next is refused
  abbrev StopsAt : List ℕ → Tip → Fault → ℕ → RingPart → Type 0
  StopsAt qs t f k c =
      (k < length qs) × (steps_to b nc site (take k qs) t ≡ ok c) × (c.tip.p ≡ get_or (t.p ∷ qs) k 0) × Sure c.tip × (step_to b nc site c.tip (get_or qs k 0) ≡ refused f)

  steps_refused : (qs : List ℕ) (t : Tip) {f : Fault} → (0 < length qs → Sure t) → steps_to b nc site qs t ≡ refused f → (k : ℕ) × (c : RingPart) × StopsAt qs t f k c
  unfolding steps_to
  steps_refused [] t s h = absurd (not_both h)
  steps_refused (q ∷ qs) t {f} h₀ h = by (halted (step_to b nc site t q) _ h) (λ c. steps_refused qs c.tip)
    where
      s : Sure t
      s = h₀ (omega arith)

      next : (c : RingPart) → step_to b nc site t q ≡ ok c → ((k : ℕ) × (d : RingPart) × StopsAt qs c.tip f k d) → (k : ℕ) × (d : RingPart) × StopsAt (q ∷ qs) t f k d
      next c e (k, d, w) =
          let o = step_on t q s e in
          (suc k, parts_joined c d, (omega (arith, w.0), then_ok _ e ∙ then_ok _ w.1, w.2 ∙ ap (λ (v : ℕ). get_or (v ∷ qs) k 0) o.1, w.3, w.4))

      rest : (c : RingPart) → step_to b nc site t q ≡ ok c → {g : RingPart → RingPart} → Halted (steps_to b nc site qs c.tip) (λ d. ok (g d)) f
          → ((0 < length qs → Sure c.tip) → steps_to b nc site qs c.tip ≡ refused f → (k : ℕ) × (d : RingPart) × StopsAt qs c.tip f k d)
          → (k : ℕ) × (d : RingPart) × StopsAt (q ∷ qs) t f k d
      rest c e (halted_first g) ih = next c e (ih (λ l. (step_on t q s e).0) g)
      rest c e (halted_later d g k) ih = absurd (not_both k)

      by : Halted (step_to b nc site t q) (λ c. and_then (steps_to b nc site qs c.tip) λ d. ok (parts_joined c d)) f
          → ((c : RingPart) → (0 < length qs → Sure c.tip) → steps_to b nc site qs c.tip ≡ refused f → (k : ℕ) × (d : RingPart) × StopsAt qs c.tip f k d)
          → (k : ℕ) × (d : RingPart) × StopsAt (q ∷ qs) t f k d
      by (halted_first e) ih = (0, part t [] [], (omega arith, refl, refl, s, e))
      by (halted_later c e g) ih = rest c e (halted (steps_to b nc site qs c.tip) _ g) (ih c)

  refused_steps : (qs : List ℕ) (k : ℕ) (t : Tip) (c : RingPart) {f : Fault} → k < length qs → steps_to b nc site (take k qs) t ≡ ok c
      → step_to b nc site c.tip (get_or qs k 0) ≡ refused f → steps_to b nc site qs t ≡ refused f
  unfolding steps_to
  refused_steps [] k t c l h g = absurd (omega arith)
  refused_steps (q ∷ qs) zero t c l h g = then_refused _ (ap (λ (x : RingPart). step_to b nc site x.tip q) (ok_same h) ∙ g)
  refused_steps (q ∷ qs) (suc k) t c l h g =
      let w = went (step_to b nc site t q) _ h in
      let v = went (steps_to b nc site (take k qs) w.value.tip) _ w.then in
      let e : parts_joined w.value v.value ≡ c = ok_same v.then in
      then_ok _ w.first ∙ then_refused _ (refused_steps qs k w.value.tip v.value (omega arith) v.first (ap (λ (x : RingPart). step_to b nc site x.tip (get_or qs k 0)) e ∙ g))

  -- the edges before led to the vertex where the next begins
  pub steps_at : (qs : List ℕ) (k : ℕ) (t : Tip) (c : RingPart) → Sure t → k ≤ length qs → steps_to b nc site (take k qs) t ≡ ok c
      → Sure c.tip × (c.tip.p ≡ get_or (t.p ∷ qs) k 0)
  unfolding steps_to
  steps_at qs zero t c s l h = rw (← ok_same h) (s, refl)
  steps_at [] (suc k) t c s l h = absurd (omega arith)
  steps_at (q ∷ qs) (suc k) t c s l h =
      let w = went (step_to b nc site t q) _ h in
      let v = went (steps_to b nc site (take k qs) w.value.tip) _ w.then in
      let e : parts_joined w.value v.value ≡ c = ok_same v.then in
      let o = step_on t q s w.first in
      let r = steps_at qs k w.value.tip v.value o.0 (omega arith) v.first in
      rw (← e) (r.0, r.1 ∙ ap (λ (x : ℕ). get_or (x ∷ qs) k 0) o.1)

  -- the circumcenters stay
  abbrev Long : RingPart → Type 0
  Long c = nc ≤ length c.tip.verts

  step_long : (t : Tip) (q : ℕ) → nc ≤ length t.verts → Gives Long (step_to b nc site t q)
  unfolding step_to
  step_long t q h =
      gives_then (λ (d : Change). (m : ℕ) × Grown t.verts m d.verts) Long (at_edge site t.p q (step t q)) _
      (gives_at _ site t.p q (step t q) (step_grows b nc site t.p t.p_in q (in_box b nc t.verts q) t.verts t.owners t.opened t.last h))
      (λ d g. omega (arith, g.1.longer))

  steps_long : (qs : List ℕ) (t : Tip) → nc ≤ length t.verts → Gives Long (steps_to b nc site qs t)
  unfolding steps_to
  steps_long [] t h = h
  steps_long (q ∷ qs) t h =
      gives_then Long Long (step_to b nc site t q) _ (step_long t q h)
      (λ c g. gives_then Long Long (steps_to b nc site qs c.tip) _ (steps_long qs c.tip g) (λ d k. k))

-- ---- the ring

module _ (b : BoundingBox) (nc site : ℕ) (ring : List ℕ) (vs : List Point) (os : List ℕ) where
  clip_walk : clip_cell b nc site ring vs os ≡ steps_to b nc site (walked b nc ring vs) (first_tip b nc ring vs os)
  unfolding clip_cell clip_from
  clip_walk = by (begins_inside b nc ring vs)
    where
      by : (t : Bool) → pick t (λ _. clip_from b nc site ring vs os (first_inside b nc vs ring) true) (λ _. clip_from b nc site ring vs os 0 false)
          ≡ steps_to b nc site (turned (pick t (λ _. first_inside b nc vs ring) (λ _. 0)) ring) (tip vs os EMPTY (get_or ring (pick t (λ _. first_inside b nc vs ring) (λ _. 0)) 0) t false)
      by true = refl
      by false = refl

  begins_known : 0 < length ring → begins_inside b nc ring vs ≡ in_box b nc vs (get_or ring (begins_at b nc ring vs) 0)
  begins_known l = by (begins_inside b nc ring vs) refl
    where
      by : (t : Bool) → ltb (first_inside b nc vs ring) (length ring) ≡ t → t ≡ in_box b nc vs (get_or ring (pick t (λ _. first_inside b nc vs ring) (λ _. 0)) 0)
      by true e = sym (first_inside_lem b nc vs ring (ltb-true _ _ e))
      by false e = sym (none_inside b nc vs ring (ltb-false _ _ e) 0 l)

  module _ (centers : nc ≤ length vs) where
    first_sure : 0 < length ring → Sure b nc site (first_tip b nc ring vs os)
    first_sure l = record { known = begins_known l; centers = centers }

    pub clip_long : {c : RingPart} → clip_cell b nc site ring vs os ≡ ok c → nc ≤ length c.tip.verts
    clip_long h = gives_ok (Long b nc site) (steps_long b nc site (walked b nc ring vs) (first_tip b nc ring vs os) centers) (sym clip_walk ∙ h)

    same_length : length (walked b nc ring vs) ≡ length ring
    same_length = turned_length (begins_at b nc ring vs) ring

    pub clip_met : {f : Fault} → clip_cell b nc site ring vs os ≡ refused f → (f.place ≡ site) × EdgeMet b nc site ring vs os f.from f.to f.number
    clip_met {f} h =
        let w = steps_refused b nc site (walked b nc ring vs) (first_tip b nc ring vs os) (λ l. first_sure (omega (arith, same_length))) (sym clip_walk ∙ h) in
        let k = w.0 in
        let c = w.1 in
        let s = w.2 in
        let q = get_or (walked b nc ring vs) k 0 in
        let g = step_stops b nc site c.tip q s.4 in
        let from : c.tip.p ≡ f.from = sym (ap (λ (e : Fault). e.from) g.1) in
        let to : q ≡ f.to = sym (ap (λ (e : Fault). e.to) g.1) in
        let known = s.3.known in
        let stops : clip_step b nc site f.from (in_box b nc c.tip.verts f.from) f.to (in_box b nc c.tip.verts f.to) c.tip.verts c.tip.owners c.tip.opened
        c.tip.last ≡ refused f.number = rw (known, from, to) at g.0 in (
          ap (λ (e : Fault). e.place) g.1,
          record {
            k = k;
            there = omega (arith, s.0, same_length);
            c = c;
            before = s.1;
            from = sym s.2 ∙ from;
            to = to;
            breaks = step_breaks b nc site f.from _ f.to _ c.tip.verts c.tip.owners c.tip.opened c.tip.last refl refl stops;
            stops = stops;
          },
        )

    pub met_clip : {p q n : ℕ} → EdgeMet b nc site ring vs os p q n → clip_cell b nc site ring vs os ≡ refused (fault n site p q)
    met_clip {p} {q} {n} m =
        let l : m.k < length (walked b nc ring vs) = omega (arith, m.there, same_length) in
        let t = m.c.tip in
        let s = steps_at b nc site (walked b nc ring vs) m.k (first_tip b nc ring vs os) m.c (first_sure (omega (arith, m.there))) (omega arith) m.before in
        let from : t.p ≡ p = s.1 ∙ m.from in
        let e : clip_step b nc site t.p (in_box b nc t.verts t.p) q (in_box b nc t.verts q) t.verts t.owners t.opened t.last ≡ refused n = rw from m.stops in
        let g : clip_step b nc site t.p t.p_in q (in_box b nc t.verts q) t.verts t.owners t.opened t.last ≡ refused n = rw s.0.known e in
        let h : step_to b nc site t q ≡ refused (fault n site p q) = stop_steps b nc site t q n g ∙ ap (λ (v : ℕ). refused (fault n site v q)) from in
        clip_walk ∙ refused_steps b nc site (walked b nc ring vs) m.k (first_tip b nc ring vs os) m.c l m.before (rw m.to h)
