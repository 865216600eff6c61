-- A site all of whose circumcenters are inside: its try sets its cell and changes nothing else, whatever was built before. So it may be made at any time.
use Rattle.std.specs.Prelude.{◌≡◌, true, false, ℕ, ◌+◌, ◌/◌, ◌≤◌, ◌<◌, set}
use Rattle.std.proofs.Math.Path.{refl}
use Rattle.std.proofs.Common.{sym, ap, ◌∙◌, ⊎_elim, arith}
use mathlib.Core.List.{List, [], ◌∷◌, map, reverse, reverse_aux, append-nil}
use Prim.{tt}
use Rattle.std.proofs.Math.ListN.{length, get_or}
use borrow.Author.Tests.{lt-ltb}
use Rattle.base.specs.common.Count.{occ, same}
use Rattle.base.specs.common.laws.Count.{same_cases}
use Rattle.base.specs.numbers.Numbers.{EMPTY}
use Rattle.plane.specs.declared.points.Point.{Point}
use Rattle.plane.specs.declared.boxes.BoundingBox.{BoundingBox}
use Rattle.mesh.specs.Mesh.{end_of, turn_of, walk_of, whole_of, Paired}
use Rattle.mesh.specs.laws.WalkSteps.{walk_go}
use Rattle.mesh.specs.laws.Walks.{walk_whole, walk_ends}
use Rattle.definition.specs.Fault.{ok, and_then, at_edge}
use Rattle.definition.specs.Cell.{Entry, entry, plain, last_or, clip_step, in_box, step_to, steps_to, first_inside, turned, clip_from, clip_cell}
use Rattle.definition.specs.Build.{ring_from, CellState, clip_into}
use Rattle.definition.specs.Short.{change, part, tip, cell_state}
use Rattle.build_laws.specs.laws.Grown.{Grown}
use Rattle.build_laws.specs.laws.Inside.{in_grown}
use Rattle.clipping.specs.interior.laws.InsideWalk.{plains, ends_at}

-- the cell of the ring from half-edge e
abbrev pub early_cell : List ℕ → ℕ → List Entry
early_cell he e = plains (e / 3) (reverse (ring_from he e))

abbrev AllIn : BoundingBox → ℕ → List Point → List ℕ → Type 0
AllIn b nc vs [] = Unit {0}
AllIn b nc vs (q ∷ qs) = (in_box b nc vs q ≡ true) × AllIn b nc vs qs

-- each circumcenter round the site is inside
abbrev pub InsideSite : BoundingBox → ℕ → List ℕ → List ℕ → List Point → ℕ → Type 0
InsideSite b nc tri he vs site = (h : ℕ) → h < length he → end_of tri h ≡ site → in_box b nc vs (h / 3) ≡ true

pub inside_grown : (b : BoundingBox) (nc : ℕ) (tri he : List ℕ) (site : ℕ) {vs ws : List Point} {m : ℕ} → nc ≤ length vs → Grown vs m ws
    → InsideSite b nc tri he vs site → InsideSite b nc tri he ws site
inside_grown b nc tri he site {vs} {ws} {m} room g i h l q = in_grown b nc vs ws m (h / 3) room g ∙ i h l q

module _ (b : BoundingBox) (nc site : ℕ) (vs : List Point) (os : List ℕ) where
  stay_step : (p q : ℕ) (o l : ℕ) → clip_step b nc site p true q true vs os false l ≡ ok (change vs os (entry plain p ∷ []) false [])
  unfolding clip_step
  stay_step p q o l = refl

  stay_all : (qs : List ℕ) (l p : ℕ) → AllIn b nc vs qs
      → steps_to b nc site qs (tip vs os l p true false) ≡ ok (part (tip vs os (last_or l (plains p qs)) (ends_at p qs) true false) (plains p qs) [])
  unfolding steps_to step_to and_then at_edge
  stay_all [] l p h = refl
  stay_all (q ∷ qs) l p h = rw (h.0, stay_step p q 0 l, stay_all qs p q h.1)

  turned_in : (hs rs : List ℕ) → ((h : ℕ) → 0 < occ h hs → in_box b nc vs (h / 3) ≡ true) → AllIn b nc vs rs → AllIn b nc vs (reverse_aux (map (λ f. f / 3) hs) rs)
  turned_in [] rs i r = r
  turned_in (x ∷ hs) rs i r =
      let here : 0 < same x x + occ x hs = ⊎_elim (λ w. omega arith) (λ w. absurd (w.0 refl)) (same_cases x x) in
      turned_in hs (x / 3 ∷ rs) (λ h p. i h (omega arith)) (i x here, r)

  first_in : (x : ℕ) (l : List ℕ) → in_box b nc vs x ≡ true → first_inside b nc vs (x ∷ l) ≡ 0
  unfolding first_inside
  first_in x l h = rw h

  module _ (tri he : List ℕ) (paired : Paired tri he) (e : ℕ) (l : e < length he) (q : end_of tri e ≡ site) (i : InsideSite b nc tri he vs site) where
    abbrev rest : List ℕ
    rest = map (λ f. f / 3) (walk_of he e (length he) (turn_of he e e))

    opened : ring_from he e ≡ e / 3 ∷ rest
    opened = ap (map (λ f. f / 3)) (sym (walk_whole tri he paired e l) ∙ walk_go he e (length he) e l)

    all_in : AllIn b nc vs (reverse (ring_from he e))
    all_in = turned_in (whole_of he e) [] (λ h p. let w = walk_ends tri he paired e (length he) e h p in i h w.0 (w.1 ∙ q)) tt

    pub early_cell_lem : clip_cell b nc site (ring_from he e) vs os ≡ ok
        (part (tip vs os (last_or EMPTY (early_cell he e)) (ends_at (e / 3) (reverse (ring_from he e))) true false) (early_cell he e) [])
    unfolding clip_cell clip_from turned
    early_cell_lem =
        let f : first_inside b nc vs (ring_from he e) ≡ 0 = rw opened (first_in (e / 3) rest (i e l q)) in
        let h : get_or (ring_from he e) 0 0 ≡ e / 3 = rw opened in
        let z : 0 < length (ring_from he e) = rw opened (omega arith) in
        rw (f, lt-ltb 0 (length (ring_from he e)) z, h, stay_all (reverse (ring_from he e)) EMPTY (e / 3) all_in)

-- its try sets its cell, and changes nothing else
pub early_try : (b : BoundingBox) (nc site : ℕ) (s : CellState) (tri he : List ℕ) → Paired tri he → (e : ℕ) → e < length he → end_of tri e ≡ site
    → InsideSite b nc tri he s.verts site → clip_into b nc site (ring_from he e) s ≡ ok (cell_state s.verts s.owners (set s.cells site (early_cell he e)) s.steps)
unfolding clip_into and_then
early_try b nc site s tri he paired e l q i = rw (early_cell_lem b nc site s.verts s.owners tri he paired e l q i, append-nil s.steps)
