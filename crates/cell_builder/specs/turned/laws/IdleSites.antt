-- A site whose try put nothing is idle: whatever is added later, its circumcenters are outside, and no edge between two triangles next to each other round it crosses the box.
-- A try from any of its half-edges then changes nothing, if the edge that closes the ring misses the box too. Where the fan is closed that edge is one between two such triangles;
-- on the hull it is not, and is to be asked. Edges are told by the half-edges of the walk: the one at h runs from the triangle after h to that of h.
use Rattle.std.proofs.Math.Path.{◌≡◌}
use Rattle.std.specs.Prelude.{refl, false, ◌≢◌, ℕ, zero, suc, ◌+◌, ◌-◌, ◌/◌, ◌≤◌, ◌<◌, eqb, set}
use Rattle.std.proofs.Common.{sym, ap, ◌∙◌, subst, get_or-set_same}
use mathlib.Core.List.{List, [], ◌∷◌, ◌++◌, map, reverse, reverse_aux, append-nil}
use Rattle.std.proofs.Math.Logic.{⊎_elim}
use Prim.{tt}
use native.Mathlib.Omega.{arith}
use Rattle.std.proofs.Math.ListN.{length, get_or}
use Rattle.std.proofs.lemmas.List.{length-map, set-get_or}
use Rattle.base.specs.common.laws.Decide.{lt_or_ge}
use Rattle.base.specs.common.Count.{occ, same}
use Rattle.base.specs.common.laws.Count.{same_cases}
use Rattle.base.specs.numbers.Numbers.{EMPTY}
use Rattle.plane.specs.declared.points.Point.{Point}
use Rattle.plane.specs.declared.boxes.BoundingBox.{BoundingBox}
use Rattle.plane.specs.declared.lines.Crossing.TheVariants.{None}
use Rattle.mesh.specs.Mesh.{end_of, pair_of, around, turn_of, walk_of, whole_of, leftmost_of, Fan, Paired}
use Rattle.mesh.specs.Accepted.{TopologyWith}
use Rattle.mesh.specs.laws.Closed.{ClosedAt}
use Rattle.mesh.specs.laws.Facts.{with_fans, paired, walk_each, next_in}
use Rattle.mesh.specs.laws.WalkSteps.{walk_go, walk_done}
use Rattle.mesh.specs.laws.Walks.{mate, turn_cases, turn_there, turn_end, walk_short, walk_whole, walk_ends}
use Rattle.definition.specs.Fault.{ok, and_then}
use Rattle.definition.specs.Cell.{Entry, vertex_at, edge_crossing, in_box, first_inside}
use Rattle.definition.specs.Build.{ring_from, hull_ring, CellState, clip_into}
use Rattle.definition.specs.laws.Gives.{picked}
use Rattle.build_laws.specs.laws.Grown.{Grown}
use Rattle.build_laws.specs.laws.Inside.{in_grown}
use Rattle.build_laws.specs.laws.TryRuns.{into_ok}
use Rattle.cell_builder.specs.turned.laws.IdleRing.{Idle, idle_end, nothing_idle, idle_nothing}

-- at half-edge h: its triangle's circumcenter is outside, and the edge to it from that of the triangle after it, where there is one, does not cross the box
pub record IdleAt (b : BoundingBox) (nc : ℕ) (he : List ℕ) (vs : List Point) (h : ℕ) : Type 0 where
  pub outside : in_box b nc vs (h / 3) ≡ false
  pub missed : around he h < length he → edge_crossing b (vertex_at vs (around he h / 3)) (vertex_at vs (h / 3)) ≡ None

-- all round a site
abbrev pub IdleSite : BoundingBox → ℕ → List ℕ → List ℕ → List Point → ℕ → Type 0
IdleSite b nc tri he vs site = (h : ℕ) → h < length he → end_of tri h ≡ site → IdleAt b nc he vs h

-- the last half-edge of the walk from e
abbrev pub walk_end : List ℕ → ℕ → ℕ
walk_end he e = idle_end e (whole_of he e)

-- the edge that closes the ring from half-edge e, from its first triangle to its last, does not cross the box
abbrev pub ClosesOutside : BoundingBox → List ℕ → List Point → ℕ → Type 0
ClosesOutside b he vs e = edge_crossing b (vertex_at vs (e / 3)) (vertex_at vs (walk_end he e / 3)) ≡ None

-- ---- the walk, and its ring

module _ (tri he : List ℕ) (paired : Paired tri he) (b : BoundingBox) (nc : ℕ) (vs : List Point) (site : ℕ) where
  abbrev triangles : List ℕ → List ℕ
  triangles = map (λ f. f / 3)

  module _ (s : ℕ) where
    -- where the walk ends
    walk_last : (n e x : ℕ) → e < length he → end_of tri e ≡ site → length (walk_of he s n e) < n
        → (idle_end x (walk_of he s n e) < length he) × (end_of tri (idle_end x (walk_of he s n e)) ≡ site) × (length he ≤ turn_of he s (idle_end x (walk_of he s n e)))
    walk_last zero e x l q h = absurd (omega arith)
    walk_last (suc n) e x l q h =
        rw (walk_go he s n e l) (⊎_elim
        (λ t. walk_last n (turn_of he s e) e t (turn_end tri he paired s e l t ∙ q) (omega (arith, ap length (walk_go he s n e l))))
        (λ t. rw (walk_done he s n (turn_of he s e) t) (l, q, t))
        (lt_or_ge (turn_of he s e) (length he)))

    -- its ring, walked from vertex p
    module _ (p : ℕ) where
      walk_idle : (n e x : ℕ) (rs : List ℕ) → e < length he → end_of tri e ≡ site → length (walk_of he s n e) < n → IdleSite b nc tri he vs site
          → edge_crossing b (vertex_at vs p) (vertex_at vs (idle_end x (walk_of he s n e) / 3)) ≡ None
          → Idle b nc vs (e / 3) rs → Idle b nc vs p (reverse_aux (triangles (walk_of he s n e)) rs)
      walk_idle zero e x rs l q h i c k = absurd (omega arith)
      walk_idle (suc n) e x rs l q h i c k =
          let more : edge_crossing b (vertex_at vs p) (vertex_at vs (idle_end e (walk_of he s n (turn_of he s e)) / 3)) ≡ None = rw (walk_go he s n e l) at c in
          rw (walk_go he s n e l) (⊎_elim
          (λ t. walk_idle n (turn_of he s e) e (e / 3 ∷ rs) t (turn_end tri he paired s e l t ∙ q) (omega (arith, ap length (walk_go he s n e l))) i more
          ((i e l q).outside, rw (turn_there tri he paired s e t) ((i e l q).missed (omega (arith, turn_there tri he paired s e t, t))), k))
          (λ t. rw (walk_done he s n (turn_of he s e) t) ((i e l q).outside, rw (walk_done he s n (turn_of he s e) t) at more, k))
          (lt_or_ge (turn_of he s e) (length he)))

      -- where the walk comes back it is walked from its own start
      module _ (back : (e : ℕ) → e < length he → around he e ≡ s → p ≡ s / 3) where
        idle_walk : (n e : ℕ) (rs : List ℕ) → e < length he → end_of tri e ≡ site → length (walk_of he s n e) < n
            → Idle b nc vs p (reverse_aux (triangles (walk_of he s n e)) rs) → Idle b nc vs (e / 3) rs × ((h : ℕ) → 0 < occ h (walk_of he s n e) → IdleAt b nc he vs h)
        idle_walk zero e rs l q h i = absurd (omega arith)
        idle_walk (suc n) e rs l q h i =
            let more : Idle b nc vs p (reverse_aux (triangles (walk_of he s n (turn_of he s e))) (e / 3 ∷ rs)) = rw (walk_go he s n e l) at i in
            ⊎_elim
            (λ t.
            let r = idle_walk n (turn_of he s e) (e / 3 ∷ rs) t (turn_end tri he paired s e l t ∙ q) (omega (arith, ap length (walk_go he s n e l))) more in
            (r.0.2, all (record { outside = r.0.0; missed = λ _. rw (turn_there tri he paired s e t) at r.0.1 }) r.1))
            (λ t.
            let r : Idle b nc vs p (e / 3 ∷ rs) = rw (walk_done he s n (turn_of he s e) t) at more in
            (r.2, all (record { outside = r.0; missed = λ m. last t m r.1 }) (λ v p. absurd (omega (arith, ap (occ v) (walk_done he s n (turn_of he s e) t))))))
            (lt_or_ge (turn_of he s e) (length he))
          where
            last : length he ≤ turn_of he s e → around he e < length he → edge_crossing b (vertex_at vs p) (vertex_at vs (e / 3)) ≡ None
                → edge_crossing b (vertex_at vs (around he e / 3)) (vertex_at vs (e / 3)) ≡ None
            last t m r =
                ⊎_elim
                (λ w. let z : p ≡ around he e / 3 = back e l w.0 ∙ ap (λ (k : ℕ). k / 3) (sym w.0) in rw (← z) r)
                (λ w. absurd (omega (arith, w.1)))
                (turn_cases he s e)

            all : IdleAt b nc he vs e → ((v : ℕ) → 0 < occ v (walk_of he s n (turn_of he s e)) → IdleAt b nc he vs v) → (v : ℕ) → 0 < occ v (walk_of he s (suc n) e) → IdleAt b nc he vs v
            all first rest v p =
                ⊎_elim (λ u. rw u.0 first) (λ u. rest v (omega (arith, u.1, ap (occ v) (walk_go he s n e l)))) (same_cases v e)

  -- all are outside
  none_inside : (hs : List ℕ) → ((h : ℕ) → 0 < occ h hs → in_box b nc vs (h / 3) ≡ false) → length (triangles hs) ≤ first_inside b nc vs (triangles hs)
  unfolding first_inside
  none_inside [] out = omega arith
  none_inside (x ∷ hs) out =
      let here : 0 < same x x + occ x hs = ⊎_elim (λ w. omega arith) (λ w. absurd (w.0 refl)) (same_cases x x) in
      rw (out x here) (omega (arith, none_inside hs (λ h p. out h (omega arith))))

  module _ (e : ℕ) (l : e < length he) (q : end_of tri e ≡ site) where
    abbrev ring : List ℕ
    ring = ring_from he e

    whole : walk_of he e (suc (length he)) e ≡ whole_of he e
    whole = walk_whole tri he paired e l

    short : length (walk_of he e (suc (length he)) e) < suc (length he)
    short = omega (arith, walk_short tri he paired e l (suc (length he)))

    head : get_or ring 0 0 ≡ e / 3
    head = rw (← whole, walk_go he e (length he) e l)

    some : 0 < length ring
    some = omega (arith, length-map (whole_of he e) (λ f. f / 3), ap length whole, ap length (walk_go he e (length he) e l))

    ring_idle : IdleSite b nc tri he vs site → ClosesOutside b he vs e → Idle b nc vs (get_or ring 0 0) (reverse ring)
    ring_idle i c = rw head (rw whole at (walk_idle e (e / 3) (suc (length he)) e e [] l q short i (rw whole c) tt))

    ring_outside : IdleSite b nc tri he vs site → length ring ≤ first_inside b nc vs ring
    ring_outside i =
        none_inside (whole_of he e)
        (λ h p. let w = walk_ends tri he paired e (length he) e h p in (i h w.0 (w.1 ∙ q)).outside)

    -- round a closed fan the edge that closes the ring is that at the last half-edge
    closed_outside : ClosedAt tri he site → IdleSite b nc tri he vs site → ClosesOutside b he vs e
    closed_outside closed i =
        let h = walk_end he e in
        let w : (h < length he) × (end_of tri h ≡ site) × (length he ≤ turn_of he e h) = rw whole at (walk_last e (suc (length he)) e e l q short) in
        let back : around he h ≡ e =
        ⊎_elim (λ z. z.0) (λ z. absurd (omega (arith, w.2, z.1, (mate tri he paired h w.0 (closed h w.0 w.1)).inside))) (turn_cases he e h) in
        rw back at ((i h w.0 w.1).missed (rw back l))

    idle_ring : (p : ℕ) (rs : List ℕ) → ((h : ℕ) → h < length he → around he h ≡ e → p ≡ e / 3) → Idle b nc vs p (reverse_aux ring rs)
        → (h : ℕ) → 0 < occ h (whole_of he e) → IdleAt b nc he vs h
    idle_ring p rs back i h o =
        let w : Idle b nc vs p (reverse_aux (triangles (walk_of he e (suc (length he)) e)) rs) = rw (← whole) at i in
        (idle_walk e p back (suc (length he)) e rs l q short w).1 h (rw (← whole) at o)

-- ---- the ring of a hull place

reverse_last : (xs rs : List ℕ) (y : ℕ) → reverse_aux (xs ++ y ∷ []) rs ≡ y ∷ reverse_aux xs rs
reverse_last [] rs y = refl
reverse_last (x ∷ xs) rs y = reverse_last xs (x ∷ rs) y

module _ (he hull table xs : List ℕ) (i : ℕ) where
  abbrev walked : List ℕ
  walked = ring_from he (get_or table (get_or hull i 0) 0)

  hull_some : 0 < length (hull_ring he hull table xs i)
  unfolding hull_ring
  hull_some = picked (λ (r : List ℕ). 0 < length r) (eqb i 0) _ _ (λ t. omega arith) (λ t. omega arith)

  -- without the extensions it is walked from one of them
  hull_within : (b : BoundingBox) (nc : ℕ) (vs : List Point) → Idle b nc vs (get_or (hull_ring he hull table xs i) 0 0) (reverse (hull_ring he hull table xs i))
      → (p : ℕ) × (rs : List ℕ) × Idle b nc vs p (reverse_aux walked rs)
  unfolding hull_ring
  hull_within b nc vs =
      picked (λ (r : List ℕ). Idle b nc vs (get_or r 0 0) (reverse r) → (p : ℕ) × (rs : List ℕ) × Idle b nc vs p (reverse_aux walked rs)) (eqb i 0) _ _
      (λ t h. (get_or xs 0 0, get_or xs (length hull - 1) 0 ∷ get_or xs 0 0 ∷ [], h))
      (λ t h.
      let w : Idle b nc vs (get_or xs (i - 1) 0) (get_or xs i 0 ∷ reverse_aux walked (get_or xs (i - 1) 0 ∷ [])) = rw (reverse_last walked (get_or xs (i - 1) 0 ∷ []) (get_or xs i 0)) at h in
      (get_or xs i 0, get_or xs (i - 1) 0 ∷ [], w.2))

-- ---- tries

module _ {Fans : Type 0} {tri he hull : List ℕ} {n : ℕ} (top : TopologyWith Fans tri he hull n) (b : BoundingBox) (site : ℕ) where
  abbrev nc : ℕ
  nc = length tri / 3

  -- as vertices are added, and of those that there were before
  module _ {vs ws : List Point} {m : ℕ} (room : nc ≤ length vs) (g : Grown vs m ws) where
    same_out : (h : ℕ) → in_box b nc ws (h / 3) ≡ in_box b nc vs (h / 3)
    same_out h = in_grown b nc vs ws m (h / 3) room g

    same_edge : (h : ℕ) → h < length he → around he h < length he
        → edge_crossing b (vertex_at ws (around he h / 3)) (vertex_at ws (h / 3)) ≡ edge_crossing b (vertex_at vs (around he h / 3)) (vertex_at vs (h / 3))
    same_edge h l r =
        let here : h / 3 < length vs = omega (arith, top.same, top.threes) in
        let there : around he h / 3 < length vs = omega (arith, top.same, top.threes) in
        rw (g.kept (around he h / 3) there, g.kept (h / 3) here)

    pub idle_grown : IdleSite b nc tri he vs site → IdleSite b nc tri he ws site
    idle_grown i h l q = record { outside = same_out h ∙ (i h l q).outside; missed = λ r. same_edge h l r ∙ (i h l q).missed r }

    pub idle_shrunk : IdleSite b nc tri he ws site → IdleSite b nc tri he vs site
    idle_shrunk i h l q = record { outside = sym (same_out h) ∙ (i h l q).outside; missed = λ r. sym (same_edge h l r) ∙ (i h l q).missed r }

  module _ (s : CellState) (e : ℕ) (l : e < length he) (q : end_of tri e ≡ site) where
    -- a try of an idle site changes nothing if the edge that closes its ring misses the box
    pub idle_try : IdleSite b nc tri he s.verts site → ClosesOutside b he s.verts e → get_or s.cells site [] ≡ [] → clip_into b nc site (ring_from he e) s ≡ ok s
    unfolding clip_into and_then
    idle_try i c empty =
        let same : ◌≡◌ {A = List (List Entry)} (set s.cells site []) s.cells = rw empty at (set-get_or s.cells site []) in
        rw (
          idle_nothing b nc site (ring_from he e) s.verts s.owners (ring_outside tri he (paired top) b nc s.verts site e l q i)
              (ring_idle tri he (paired top) b nc s.verts site e l q i c),
          same,
          append-nil s.steps,
        )

    pub closed_closes : ClosedAt tri he site → IdleSite b nc tri he s.verts site → ClosesOutside b he s.verts e
    closed_closes closed i = closed_outside tri he (paired top) b nc s.verts site e l q closed i

    module _ (fan : Fan tri he (leftmost_of tri he n)) (in_mesh : site < n) (is : e ≡ get_or (leftmost_of tri he n) site 0) (wide : site < length s.cells) where
      none_new : (ring : List ℕ) {r : CellState} → 0 < length ring → clip_into b nc site ring s ≡ ok r → get_or r.cells site [] ≡ []
          → Idle b nc s.verts (get_or ring 0 0) (reverse ring)
      none_new ring {r} more t empty =
          let w = into_ok b nc site ring s t in
          let c = w.0 in
          let none : c.new ≡ [] = sym (get_or-set_same s.cells site c.new [] wide) ∙ sym (ap (λ (x : CellState). get_or x.cells site []) w.2) ∙ empty in
          nothing_idle b nc site ring s.verts s.owners more w.1 none

      around_site : (p : ℕ) (rs : List ℕ) → ((h : ℕ) → h < length he → around he h ≡ e → p ≡ e / 3) → Idle b nc s.verts p (reverse_aux (ring_from he e) rs)
          → IdleSite b nc tri he s.verts site
      around_site p rs back i h m z = idle_ring tri he (paired top) b nc s.verts site e l q p rs back i h (rw is (omega (arith, walk_each (with_fans top fan) site in_mesh h m z)))

      -- a try from the table's entry that leaves its cell empty is that of an idle site
      pub try_idle : {r : CellState} → clip_into b nc site (ring_from he e) s ≡ ok r → get_or r.cells site [] ≡ [] → IdleSite b nc tri he s.verts site
      try_idle t empty =
          let ring = ring_from he e in
          around_site (get_or ring 0 0) [] (λ h m z. head tri he (paired top) b nc s.verts site e l q)
          (none_new ring (some tri he (paired top) b nc s.verts site e l q) t empty)

      -- nothing comes back to an unpaired one
      never_back : pair_of he e ≡ EMPTY → (h : ℕ) → h < length he → around he h ≡ e → ⊥
      never_back u h m z =
          let there : around he h ≢ EMPTY = λ y. omega (arith, top.small, top.same) in
          omega (arith, (mate tri he (paired top) h m there).back, ap (pair_of he) z, next_in top m, top.small, top.same)

      -- so is one at a hull place
      pub hull_idle : (xs : List ℕ) (i : ℕ) → get_or hull i 0 ≡ site → pair_of he e ≡ EMPTY → {r : CellState}
          → clip_into b nc site (hull_ring he hull (leftmost_of tri he n) xs i) s ≡ ok r → get_or r.cells site [] ≡ [] → IdleSite b nc tri he s.verts site
      hull_idle xs i place u t empty =
          let w = hull_within he hull (leftmost_of tri he n) xs i b nc s.verts
          (none_new (hull_ring he hull (leftmost_of tri he n) xs i) (hull_some he hull (leftmost_of tri he n) xs i) t empty) in
          let z : get_or (leftmost_of tri he n) (get_or hull i 0) 0 ≡ e = ap (λ (k : ℕ). get_or (leftmost_of tri he n) k 0) place ∙ sym is in
          around_site w.0 w.1 (λ h m x. absurd (never_back u h m x)) (subst (λ (k : ℕ). Idle b nc s.verts w.0 (reverse_aux (ring_from he k) w.1)) z w.2)
