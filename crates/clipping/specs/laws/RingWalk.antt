-- The walk round the ring: what is done so far, put before what the definition does on the rest, is the whole.
use Rattle.std.specs.Prelude.{ℕ, ◌+◌, ◌-◌, ◌*◌, ◌^◌, ◌≤◌, ◌<◌, ◌≡◌, Bool, true, false, Float, ltb, length, get_or, take}
use Rattle.std.proofs.Math.Path.{refl, sym, ap}
use Rattle.std.proofs.Common.{◌∙◌, subst, true≢false, ⊎_elim, length-drop, get_or-take, get_or-drop, drop-cons, length-take-le}
use mathlib.Core.List.{List, [], ◌∷◌, ◌++◌, append_assoc, append-nil}
use native.Mathlib.Omega.{arith}
use Rattle.std.proofs.Math.Numerals.{add-one}
use Rattle.std.proofs.Math.Nat.{sub-zero, add-zero}
use borrow.Author.Tests.{lt-ltb, le-ltb}
use Rattle.std.proofs.Math.ListN.{drop, drop_of_length-le}
use Rattle.std.proofs.lemmas.List.{length-map}
use Rattle.base.specs.common.laws.Decide.{lt_or_ge}
use Rattle.base.specs.common.laws.Stores.{sets_behind}
use Rattle.base.specs.numbers.Numbers.{EMPTY}
use Rattle.plane.specs.declared.points.Point.{Point}
use Rattle.plane.specs.points.Flat.{points}
use Rattle.plane.specs.declared.boxes.BoundingBox.{BoundingBox}
use Rattle.plane.specs.declared.lines.Crossing.{Crossing}
use Rattle.plane.specs.declared.lines.Crossing.TheVariants.{None}
use Rattle.vertices.specs.laws.Store.{poured_then, poured_none}
use Rattle.definition.specs.Fault.{Outcome, ok, refused, and_then}
use Rattle.definition.specs.declared.Fault.{Fault}
use Rattle.definition.specs.Cell as Def
use Rattle.definition.specs.Short
use Rattle.definition.specs.Cell.{Entry, Ins, RingPart, in_box, first_inside, step_to, steps_to, turned, clip_from, clip_cell, cross, unmarked}
use Rattle.definition.specs.Short.{fault, ins, part, parts_joined}
use Rattle.definition.specs.declared.Reused.{Reused}
use Rattle.definition.specs.Reused.{reused, together, Addable, CountsReused}
use Rattle.definition.proofs.laws.Reused.{counts_none, counts_then, counts_small, together_none}
use Rattle.clipping.specs.edges.EdgeClip.{CrossingsAsked, VerticesGrown}
use Rattle.clipping.specs.EdgeOutcome.{EdgeRoom, Did}
use Rattle.clipping.specs.RingWalk.{tip_of, Stands, Steps, ring_of, RingRoom}
use Rattle.clipping.specs.declared.edges.Env.{Env}
use Rattle.clipping.specs.declared.corners.CellSoFar.{CellSoFar}
use Rattle.clipping.specs.declared.Tip.{Tip}
use Rattle.clipping.specs.declared.RingStepped.{RingStepped}
use Rattle.clipping.specs.corners.laws.CellEntries.{puts_then, puts_none}
use Rattle.clipping.specs.edges.laws.EdgeClip.{grown_then, with_none}
use Rattle.clipping.specs.laws.EdgeCases.{in_kept, step_cross, step_done}
use Rattle.clipping.specs.laws.EdgeOutcome.{corners_still, changes_none}
use Rattle.clipping.specs.laws.ReversedRing.{length_turned}

-- ---- the ring is past the cell

-- a place of the list from m on and before the store's part is not written by a cell that ends before m
pub did_past :
    {env : Env} {most : ℕ} {vs : List Point} {i : Ins} {cell cell₁ : CellSoFar} {v v₁ : List Float} {ix ix₁ : List ℕ} {n : ℕ} (m : ℕ)
    → Did env most vs i cell v ix n cell₁ v₁ ix₁
    → cell₁.end ≤ m
    → m < env.limit
    → get_or ix₁ m 0 ≡ get_or ix m 0
did_past {env} {i = i} {cell} {cell₁} {ix = ix} {ix₁} m d h k =
    let p = d.puts.place in
    sym (get_or-take env.limit ix₁ m 0 k)
    ∙ ap (λ (l : List ℕ). get_or l m 0) d.puts.slice
    ∙ sets_behind (unmarked i.new) (take env.limit ix) cell.end m 0 (omega (arith, length-map i.new (λ (e : Entry). e.at)))
    ∙ get_or-take env.limit ix m 0 k

-- ---- one after another

pub did_then :
    {env : Env} {a b : ℕ} {vs ws : List Point} {os ps : List ℕ} {es fs : List Entry} {c d e : CellSoFar} {v v₁ v₂ : List Float} {ix ix₁ ix₂ : List ℕ} {n m : ℕ}
    → Did env a vs (ins os es) c v ix n d v₁ ix₁
    → Did env b ws (ins ps fs) d v₁ ix₁ m e v₂ ix₂
    → n ≤ m
    → 2 * n ≤ length v
    → Did env (a + b) ws (ins ps (es ++ fs)) c v ix m e v₂ ix₂
did_then x y h k = record { verts = poured_then x.verts y.verts h k; holds = y.holds; puts = puts_then x.puts y.puts }

abbrev pub onto : RingPart → Outcome Fault RingPart → Outcome Fault RingPart
onto c o = and_then o (λ (d : RingPart). ok (parts_joined c d))

onto_onto : (c d : RingPart) (o : Outcome Fault RingPart) → onto c (onto d o) ≡ onto (parts_joined c d) o
unfolding and_then
onto_onto c d (ok e) = rw (append_assoc c.new d.new e.new, append_assoc c.steps d.steps e.steps)
onto_onto c d (refused f) = refl

-- an edge that refuses nothing, then the rest of the ring
steps_cons :
    (b : BoundingBox) (nc site : ℕ) (q : ℕ) (qs : List ℕ) (t : Def.Tip) (c : RingPart)
    → step_to b nc site t q ≡ ok c
    → steps_to b nc site (q ∷ qs) t ≡ onto c (steps_to b nc site qs c.tip)
unfolding steps_to and_then
steps_cons b nc site q qs t c e = rw e

steps_refused : (b : BoundingBox) (nc site : ℕ) (q : ℕ) (qs : List ℕ) (t : Def.Tip) (g : Fault) → step_to b nc site t q ≡ refused g → steps_to b nc site (q ∷ qs) t ≡ refused g
unfolding steps_to and_then
steps_refused b nc site q qs t g e = rw e

pub length_ring : (ix : List ℕ) (ring len : ℕ) → ring + len ≤ length ix → length (ring_of ix ring len) ≡ len
length_ring ix ring len h = length-take-le len (drop ring ix) (rw (length-drop ring ix) (omega arith))

pub get_d_ring : (ix : List ℕ) (ring len j : ℕ) → j < len → get_or (ring_of ix ring len) j 0 ≡ get_or ix (ring + j) 0
get_d_ring ix ring len j h = get_or-take len (drop ring ix) j 0 h ∙ get_or-drop ring ix j 0

-- points taken again by some edges, where none was refused
pub steps_small :
    (env : Env) (edges count : ℕ) (cell : CellSoFar) (v : List Float) (ix : List ℕ) (r : RingStepped) (v₁ : List Float) (ix₁ : List ℕ) (o : Outcome Fault RingPart)
    → Steps env edges o count cell v ix r v₁ ix₁
    → r.fault.number ≡ 0
    → edges ≤ 2 ^ 32
    → Addable r.reused
steps_small env edges count cell v ix r v₁ ix₁ (ok c) h z l = counts_small h.4 (omega arith)
steps_small env edges count cell v ix r v₁ ix₁ (refused f) h z l =
    let a : r.fault.number ≡ f.number = ap (λ (x : Fault). x.number) h.0 in
    absurd (omega (arith, h.1))

-- ---- an edge that passes the box by

abbrev pub moved_to : Tip → ℕ → Tip
moved_to t q = record { cell = t.cell; count = t.count; vertex = q; inside = t.inside; opened = t.opened }

module _ (env : Env) (t : Tip) (v : List Float) (ix : List ℕ) (q : ℕ) where
  abbrev vs : List Point
  vs = points t.count v

  -- it changes nothing but where the walk stands
  step_passed :
      (qIn : Bool) (c : Crossing)
      → EdgeRoom env t.count t.cell v ix
      → Stands env t v
      → qIn ≡ in_box env.bounds env.centers vs q
      → CrossingsAsked env.bounds vs t.vertex t.inside q qIn c
      → (t.inside ≡ false) × (qIn ≡ false) × (c ≡ None)
      → Steps env 1 (step_to env.bounds env.centers env.site (tip_of t v) q) t.count t.cell v ix
      (record { fault = fault 0 0 0 0; tip = moved_to t q; reused = reused 0 0 0 }) v ix
  unfolding cross
  step_passed qIn c m s e a o =
      let same : t.inside ≡ qIn = o.0 ∙ sym o.1 in
      rw (← same) at
      (step_done env t q qIn v ix (record { cell = t.cell; count = t.count; reused = reused 0 0 0; refusal = 0; opened = t.opened }) v ix e
      (rw (
        step_cross env.bounds env.centers env.site t.vertex t.inside q qIn vs t.cell.owners t.opened t.cell.last c a o.0 o.1,
        o.2,
        with_none env.centers vs,
      )
      (changes_none env t.count t.cell v ix t.opened m s.low))
      refl)

  still_stands : Stands env t v → q < t.count → Stands env (moved_to t q) v
  still_stands s l = record { vertex = l; shut = s.shut; low = s.low; ends = s.ends }

-- ---- the walk after k edges

-- the walk round the ring of len vertices at place ring, turned at place f: from the state t₀ and the slices v₀, ix₀ it has come to t, v, ix
pub record Round (env : Env) (ring len f : ℕ) (t₀ : Tip) (v₀ : List Float) (ix₀ : List ℕ) (k : ℕ) (t : Tip) (u : Reused) (v : List Float) (ix : List ℕ) : Type 0 where
  pub within : k ≤ len
  pub room : RingRoom env t.count t.cell ring len (len - k) v ix
  pub stands : Stands env t v
  pub grown : VerticesGrown (2 * k) t₀.count t.count v₀ v
  pub done : RingPart
  pub rest :
      steps_to env.bounds env.centers env.site (turned f (ring_of ix₀ ring len)) (tip_of t₀ v₀)
      ≡ onto done (steps_to env.bounds env.centers env.site (drop k (turned f (ring_of ix₀ ring len))) (tip_of t v))
  pub counted : CountsReused (2 * k) done.steps u
  pub did : Did env (3 * k) (points t.count v) (ins t.cell.owners done.new) t₀.cell v₀ ix₀ t.count t.cell v ix
  pub out : t.inside ≡ false → t.opened ≡ false → (j : ℕ) → j < len → in_box env.bounds env.centers (points t.count v) (get_or ix (ring + j) 0) ≡ false

module _ (env : Env) (ring len f : ℕ) (t₀ : Tip) (v₀ : List Float) (ix₀ : List ℕ) where
  pub round_start :
      RingRoom env t₀.count t₀.cell ring len len v₀ ix₀
      → Stands env t₀ v₀
      → (t₀.inside ≡ false → (j : ℕ) → j < len → in_box env.bounds env.centers (points t₀.count v₀) (get_or ix₀ (ring + j) 0) ≡ false)
      → Round env ring len f t₀ v₀ ix₀ 0 t₀ (reused 0 0 0) v₀ ix₀
  unfolding and_then
  round_start r s o =
      record {
        within = omega arith;
        room = rw (sub-zero len) r;
        stands = s;
        grown = record { low = omega arith; high = omega arith; kept = refl };
        done = part (tip_of t₀ v₀) [] [];
        rest = sym (none (steps_to env.bounds env.centers env.site (turned f (ring_of ix₀ ring len)) (tip_of t₀ v₀)));
        counted = counts_none;
        did = record { verts = poured_none t₀.count v₀ r.holds.room; holds = r.holds; puts = puts_none env.site t₀.cell (take env.limit ix₀) r.fits.four };
        out = λ i p. o i;
      }
    where
      none : (o : Outcome Fault RingPart) → onto (part (tip_of t₀ v₀) [] []) o ≡ o
      none (ok c) = refl
      none (refused g) = refl

  module _ (k : ℕ) (t : Tip) (u : Reused) (v : List Float) (ix : List ℕ) (r : Round env ring len f t₀ v₀ ix₀ k t u v ix) where
    -- the ring is as it was
    pub ring_same : (j : ℕ) → j < len → get_or ix (ring + j) 0 ≡ get_or ix₀ (ring + j) 0
    ring_same j h =
        let a = r.room.fits.room in
        let b = r.room.ends in
        did_past (ring + j) r.did (omega arith) (omega arith)

    pub round_ready : k < len → EdgeRoom env t.count t.cell v ix
    round_ready h =
        let m = r.room in
        let a = m.fits.room in
        let b = m.ends in
        let c = m.verts in
        let d = m.small in
        record {
          holds = m.holds;
          list = m.list;
          fits = record { four = m.fits.four; real = m.fits.real; room = omega arith };
          verts = omega arith;
          small = omega arith;
          corners = m.corners;
          sides = m.sides;
        }

    pub round_last :
        (j : ℕ) (qIn : Bool)
        → j < len
        → qIn ≡ in_box env.bounds env.centers (points t.count v) (get_or ix (ring + j) 0)
        → t.inside ≡ false
        → qIn ≡ true
        → t.opened ≡ true
    round_last j qIn h e i x = go t.opened refl
      where
        go : (o : Bool) → t.opened ≡ o → t.opened ≡ true
        go true p = p
        go false p = absurd (true≢false (sym x ∙ e ∙ r.out i p j h))

    module _ (f-within : f ≤ len) (same : length ix ≡ length ix₀) where
      turned_length : length (turned f (ring_of ix₀ ring len)) ≡ len
      turned_length =
          let a = r.room.ends in
          let b = r.room.list in
          let l = length_ring ix₀ ring len (omega arith) in
          length_turned f (ring_of ix₀ ring len) (omega arith) ∙ l

      turned_cons : (q : ℕ) → k < len → get_or (turned f (ring_of ix₀ ring len)) k 0 ≡ q → drop k (turned f (ring_of ix₀ ring len)) ≡ q ∷ drop (k + 1) (turned f (ring_of ix₀ ring len))
      turned_cons q h e = rw (add-one k, ← e) (drop-cons (turned f (ring_of ix₀ ring len)) k 0 (rw turned_length h))

      module _ (q : ℕ) (s : RingStepped) (v₁ : List Float) (ix₁ : List ℕ) (h : k < len) (e : get_or (turned f (ring_of ix₀ ring len)) k 0 ≡ q) where
        pub round_next :
            Steps env 1 (step_to env.bounds env.centers env.site (tip_of t v) q) t.count t.cell v ix s v₁ ix₁
            → s.fault.number ≡ 0
            → Stands env s.tip v₁ × (s.tip.inside ≡ false → s.tip.opened ≡ false → (t.inside ≡ false) × (t.opened ≡ false))
            → length v ≡ length v₀
            → length v₁ ≡ length v
            → length ix₁ ≡ length ix
            → (w : Reused)
            → w ≡ together u s.reused
            → Round env ring len f t₀ v₀ ix₀ (k + 1) s.tip w v₁ ix₁
        round_next g z st lv₀ lv lx w e₁ = rw e₁ (go (step_to env.bounds env.centers env.site (tip_of t v) q) refl g)
          where
            go :
                (o : Outcome Fault RingPart)
                → step_to env.bounds env.centers env.site (tip_of t v) q ≡ o
                → Steps env 1 o t.count t.cell v ix s v₁ ix₁
                → Round env ring len f t₀ v₀ ix₀ (k + 1) s.tip (together u s.reused) v₁ ix₁
            go (refused w) p y =
                let a : s.fault.number ≡ w.number = ap (λ (x : Fault). x.number) y.0 in
                let b = y.1 in
                absurd (omega arith)
            go (ok c) p y =
                let one : Did env 3 (points s.tip.count v₁) (ins s.tip.cell.owners c.new) t.cell v ix s.tip.count s.tip.cell v₁ ix₁ =
                subst (λ (x : Def.Tip). Did env 3 x.verts (ins x.owners c.new) t.cell v ix s.tip.count s.tip.cell v₁ ix₁) y.1 y.3 in
                let m = r.room in
                let fit = one.puts.fit in
                let fits = m.fits.room in
                let ends = m.ends in
                let list = m.list in
                let verts = m.verts in
                let small = m.small in
                let low = y.2.low in
                let high = y.2.high in
                let corners = m.corners in
                let held = r.did.holds.room in
                let glow = r.grown.low in
                let past : (j : ℕ) → j < len → get_or ix₁ (ring + j) 0 ≡ get_or ix (ring + j) 0 = (λ j l. did_past (ring + j) one (omega arith) (omega arith)) in
                record {
                  within = omega arith;
                  room =
                      record {
                        holds = one.holds;
                        list = omega arith;
                        ends = ends;
                        fits = record { four = one.puts.four; real = m.fits.real; room = omega arith };
                        verts = omega arith;
                        small = omega arith;
                        corners = omega arith;
                        sides = corners_still env.bounds env.centers v v₁ t.count s.tip.count y.2.kept low corners m.sides;
                        below = λ j l. (let a = m.below j l in rw (past j l) (omega arith));
                      };
                  stands = st.0;
                  grown = (let n : 2 * k + 2 ≡ 2 * (k + 1) = omega arith in rw (← n) (grown_then (2 * k) 2 t₀.count t.count s.tip.count v₀ v v₁ r.grown y.2));
                  done = parts_joined r.done c;
                  rest =
                      r.rest
                      ∙ ap (λ (l : List ℕ). onto r.done (steps_to env.bounds env.centers env.site l (tip_of t v))) (turned_cons q h e)
                      ∙ ap (onto r.done) (steps_cons env.bounds env.centers env.site q (drop (k + 1) (turned f (ring_of ix₀ ring len))) (tip_of t v) c p)
                      ∙ onto_onto r.done c (steps_to env.bounds env.centers env.site (drop (k + 1) (turned f (ring_of ix₀ ring len))) c.tip)
                      ∙ ap (λ (x : Def.Tip). onto (parts_joined r.done c) (steps_to env.bounds env.centers env.site (drop (k + 1) (turned f (ring_of ix₀ ring len))) x)) y.1;
                  counted = (let n : 2 * k + 2 ≡ 2 * (k + 1) = omega arith in rw (← n) (counts_then r.counted y.4));
                  did = (let n : 3 * k + 3 ≡ 3 * (k + 1) = omega arith in rw (← n) (did_then r.did one low (omega arith)));
                  out =
                      λ i o j l.
                      (let w = st.1 i o in
                      rw (past j l)
                      (in_kept env.bounds env.centers v v₁ t.count s.tip.count (get_or ix (ring + j) 0) y.2.kept (omega arith) low ∙ r.out w.0 w.1 j l));
                }

        -- the points that it took again can be added to those before
        pub round_small :
            Steps env 1 (step_to env.bounds env.centers env.site (tip_of t v) q) t.count t.cell v ix s v₁ ix₁
            → s.fault.number ≡ 0
            → 2 * len ≤ 2 ^ 32
            → Addable u × Addable s.reused
        round_small g z l = (
          counts_small r.counted (omega arith),
          steps_small env 1 t.count t.cell v ix s v₁ ix₁ (step_to env.bounds env.centers env.site (tip_of t v) q) g z (omega arith),
        )

        -- a refused edge refuses the whole
        pub round_stop :
            Steps env 1 (step_to env.bounds env.centers env.site (tip_of t v) q) t.count t.cell v ix s v₁ ix₁
            → (s.fault.number ≡ 0 → ⊥)
            → Steps env len (steps_to env.bounds env.centers env.site (turned f (ring_of ix₀ ring len)) (tip_of t₀ v₀)) t₀.count t₀.cell v₀ ix₀ s v₁ ix₁
        unfolding and_then
        round_stop g n = go (step_to env.bounds env.centers env.site (tip_of t v) q) refl g
          where
            go :
                (o : Outcome Fault RingPart)
                → step_to env.bounds env.centers env.site (tip_of t v) q ≡ o
                → Steps env 1 o t.count t.cell v ix s v₁ ix₁
                → Steps env len (steps_to env.bounds env.centers env.site (turned f (ring_of ix₀ ring len)) (tip_of t₀ v₀)) t₀.count t₀.cell v₀ ix₀ s v₁ ix₁
            go (ok c) p u = absurd (n (ap (λ (x : Fault). x.number) u.0))
            go (refused w) p u =
                rw
                (r.rest
                ∙ ap (λ (l : List ℕ). onto r.done (steps_to env.bounds env.centers env.site l (tip_of t v))) (turned_cons q h e)
                ∙ ap (onto r.done) (steps_refused env.bounds env.centers env.site q (drop (k + 1) (turned f (ring_of ix₀ ring len))) (tip_of t v) w p))
                u

      pub round_pass :
          (q : ℕ) (qIn : Bool) (c : Crossing)
          → k < len
          → get_or (turned f (ring_of ix₀ ring len)) k 0 ≡ q
          → q < t.count
          → qIn ≡ in_box env.bounds env.centers (points t.count v) q
          → CrossingsAsked env.bounds (points t.count v) t.vertex t.inside q qIn c
          → (t.inside ≡ false) × (qIn ≡ false) × (c ≡ None)
          → length v ≡ length v₀
          → Round env ring len f t₀ v₀ ix₀ (k + 1) (moved_to t q) u v ix
      round_pass q qIn c h e l j a o lv =
          round_next q (record { fault = fault 0 0 0 0; tip = moved_to t q; reused = reused 0 0 0 }) v ix h e
          (step_passed env t v ix q qIn c (round_ready h) r.stands j a o) refl (still_stands env t v ix q r.stands l, λ x y. (x, y)) lv refl refl u (sym (together_none u))

      -- after the last edge the whole is done
      pub round_end :
          len ≤ k
          → Steps env len (steps_to env.bounds env.centers env.site (turned f (ring_of ix₀ ring len)) (tip_of t₀ v₀)) t₀.count t₀.cell v₀ ix₀
          (record { fault = fault 0 0 0 0; tip = t; reused = u }) v ix
      unfolding and_then steps_to
      round_end h =
          let a = r.within in
          let l : k ≡ len = omega arith in
          let n : drop k (turned f (ring_of ix₀ ring len)) ≡ [] = drop_of_length-le (turned f (ring_of ix₀ ring len)) {i = k} (rw turned_length h) in
          rw
          (r.rest ∙ ap (λ (l : List ℕ). onto r.done (steps_to env.bounds env.centers env.site l (tip_of t v))) n)
          (refl, refl, rw l at r.grown, rw (append-nil r.done.new) (rw l at r.did), rw (append-nil r.done.steps) (rw l at r.counted))

-- what was answered of a vertex of the ring
pub ring_answer :
    (b : BoundingBox) (nc : ℕ) (vs : List Point) (ix : List ℕ) (ring len j : ℕ) (r t : Bool)
    → j < len
    → r ≡ in_box b nc vs (get_or ix (ring + j) 0)
    → r ≡ t
    → in_box b nc vs (get_or (ring_of ix ring len) j 0) ≡ t
ring_answer b nc vs ix ring len j r t h e f = rw (get_d_ring ix ring len j h, ← e) f

-- ---- the first vertex inside

module _ (b : BoundingBox) (nc : ℕ) (vs : List Point) (ring : List ℕ) (k : ℕ) where
  pub first_hit : k < length ring → in_box b nc vs (get_or ring k 0) ≡ true → k + first_inside b nc vs (drop k ring) ≡ k
  unfolding first_inside
  first_hit h e = rw (drop-cons ring k 0 h, e, add-zero k)

  pub first_miss : k < length ring → in_box b nc vs (get_or ring k 0) ≡ false → k + first_inside b nc vs (drop k ring) ≡ k + 1 + first_inside b nc vs (drop (k + 1) ring)
  unfolding first_inside
  first_miss h e = rw (drop-cons ring k 0 h, e, add-one k) (omega arith)

  pub first_none : length ring ≤ k → k + first_inside b nc vs (drop k ring) ≡ k
  unfolding first_inside
  first_none h = rw (drop_of_length-le ring {i = k} h, add-zero k)

-- ---- where the walk starts

module _ (b : BoundingBox) (nc site : ℕ) (ring : List ℕ) (vs : List Point) (os : List ℕ) (f : ℕ) (e : f ≡ first_inside b nc vs ring) where
  pub cell_inside : f < length ring → clip_cell b nc site ring vs os ≡ steps_to b nc site (turned f ring) (Short.tip vs os EMPTY (get_or ring f 0) true false)
  unfolding clip_cell clip_from
  cell_inside h = rw (← e, lt-ltb f (length ring) h)

  cell_outside_lem : length ring ≤ f → clip_cell b nc site ring vs os ≡ steps_to b nc site (turned 0 ring) (Short.tip vs os EMPTY (get_or ring 0 0) false false)
  unfolding clip_cell clip_from
  cell_outside_lem h = rw (← e, le-ltb f (length ring) h)

  pub cell_from :
      (start : ℕ)
      → (f < length ring → start ≡ f)
      → (length ring ≤ f → start ≡ 0)
      → clip_cell b nc site ring vs os ≡ steps_to b nc site (turned start ring) (Short.tip vs os EMPTY (get_or ring start 0) (ltb f (length ring)) false)
  cell_from start h k =
      ⊎_elim (λ (l : f < length ring). rw (h l, lt-ltb f (length ring) l) (cell_inside l))
      (λ (l : length ring ≤ f). rw (k l, le-ltb f (length ring) l) (cell_outside_lem l))
      (lt_or_ge f (length ring))
