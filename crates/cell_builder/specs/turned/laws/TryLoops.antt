-- The loops over tries. Before each try the definition on what is left, from the cells so far, is the whole, so a refusal there is the whole's. Hull sites are distinct:
-- a try sets the cell of its own site only, and those still to come stay empty.
use Rattle.std.specs.Prelude.{◌≡◌, refl, List, [], ◌≢◌, Float, get_or}
use Rattle.std.proofs.Common.{sym, ap, ◌∙◌, inl, inr, ⊎_elim}
use Prim.Native.Nat.{ℕ, suc, ◌+◌, ◌-◌, ◌/◌, ◌≤◌, ◌<◌}
use Rattle.std.proofs.Math.Nat.{sub-zero}
use Rattle.std.proofs.Math.Numerals.{add-one}
use native.Mathlib.Omega.{arith}
use Rattle.std.proofs.Math.ListN.{length}
use Rattle.plane.specs.points.Flat.{points}
use Rattle.plane.specs.declared.points.Point.{Point}
use Rattle.base.specs.numbers.Numbers.{EMPTY}
use Rattle.mesh.specs.Mesh.{next_of, end_of, pair_of}
use Rattle.mesh.specs.Accepted.{TopologyWith}
use Rattle.mesh.specs.laws.Next.{next_thrice}
use Rattle.mesh.specs.laws.Facts.{with_fans, paired, entry_site, end_site, next_in, start_used, tab_length, tab_some, tab_used, walk_each}
use Rattle.mesh.specs.laws.Occurs.{occ_there}
use Rattle.cell_memory.specs.outputs.laws.Marks.{full_already}
use Rattle.definition.specs.declared.Fault.{Fault}
use Rattle.definition.specs.Fault.{Outcome, ok, refused, and_then}
use Rattle.definition.specs.Cell.{in_box}
use Rattle.definition.specs.Build.{CellState, clip_hull, clip_rest, is_empty}
use Rattle.definition.specs.laws.Gives.{Gives, gives_map}
use Rattle.build_laws.specs.laws.Runs.{true_false}
use Rattle.build_laws.specs.laws.Inside.{in_grown}
use Rattle.cell_builder.specs.declared.finish.Progress.{Progress}
use Rattle.cell_builder.specs.tried.SlicesInvariant.{Plan, Ground, Fanned, Amid, Does, hull_try, edge_try, HullAmid, EdgesAmid, AtRest, HullTried}
use Rattle.cell_builder.specs.tried.laws.OneTry.{region_room_lem, region_within, corners_in}
use Rattle.cell_builder.specs.turned.Loops.{
  hull_tries,
  edge_tries,
  HullsAmid,
  InnerBlank,
  MarksCover,
  EarlyBlank,
  LeftAmid,
  LateAmid,
  AtFirst,
  HullsTried,
  DoesLeft,
  RestTried,
  DoesLate,
  AllTried,
}
use Rattle.cell_builder.specs.turned.Marks.{Markable, Covers, MadeLast, LeftOut}
use Rattle.cell_builder.specs.turned.Turns.{HullsMarked, HullsIdle, HullsKnown, SettledBefore, SettledAfter, HullRegions, HullTold, HullWalks, DueTried}
use Rattle.cell_builder.specs.turned.laws.HullTries.{BlankFrom, OffHull, HullsDone, hulls_done}
use Rattle.cell_builder.specs.turned.laws.Leaving.{Alike, left_none, left_more, left_onward}
use Rattle.cell_builder.specs.turned.laws.Quiet.{early_filled}
use Rattle.cell_builder.specs.tried.laws.Early.{early_cell}
use Rattle.cell_builder.specs.turned.laws.Onward.{Onward, onward, others_stay}
use Rattle.cell_builder.specs.turned.laws.OneTurn.{closed, on_hull_lem}

-- ---- one step

module _ (w : Plan) (g : Ground) where
  -- cells that the slices hold, fit for what is left, which makes the whole of them
  pub record TriesLeft (left : CellState → Outcome Fault CellState) (Fit : CellState → Type 0) (whole : Outcome Fault CellState) (p : Progress) (v : List Float) (ix : List ℕ) : Type 0 where
    pub cells : CellState
    pub amid : Amid w g cells p v ix
    pub fit : Fit cells
    pub makes : left cells ≡ whole

  module _ (left : CellState → Outcome Fault CellState) (whole : Outcome Fault CellState) (r : Progress) (v : List Float) (ix : List ℕ) where
    -- fault number 0: the step has given cells
    pub passed : (Fit : CellState → Type 0) (o : Outcome Fault CellState) → Gives Fit o → and_then o left ≡ whole → Does w g o r v ix
        → r.fault.number ≡ 0 → TriesLeft left Fit whole r v ix
    unfolding and_then
    passed Fit (ok s) h q d z = record { cells = s; amid = d; fit = h; makes = q }
    passed Fit (refused e) h q d z = absurd (omega (arith, d.1, rw d.0 at z))

    -- another: it has refused
    pub stopped : (o : Outcome Fault CellState) → and_then o left ≡ whole → Does w g o r v ix → r.fault.number ≢ 0 → Does w g whole r v ix
    unfolding and_then
    stopped (ok s) q d z = absurd (z (ap (λ (e : Fault). e.number) d.fine))
    stopped (refused e) q d z = rw (← q) d

-- ---- the hull

abbrev pub hulls_from : Plan → Ground → ℕ → CellState → Outcome Fault CellState
hulls_from w g i s = clip_hull w.frame.bounds (length w.triangles / 3) w.halfedges w.hull w.table g.x.at i (length w.hull - i) s

module _ (w : Plan) (g : Ground) where
  hull_next : (i : ℕ) (s : CellState) → i < length w.hull → and_then (hull_try w g i s) (hulls_from w g (i + 1)) ≡ hulls_from w g i s
  unfolding clip_hull
  hull_next i s l =
      let q : length w.hull - i ≡ suc (length w.hull - (i + 1)) = omega arith in
      rw (q, add-one i)

  hull_last : (i : ℕ) (s : CellState) → length w.hull ≤ i → hulls_from w g i s ≡ ok s
  unfolding clip_hull
  hull_last i s l =
      let z : length w.hull - i ≡ 0 = omega arith in
      rw z

  blank_next : {Fans : Type 0} {n : ℕ} (i : ℕ) (s : CellState) → TopologyWith Fans w.triangles w.halfedges w.hull n → i < length w.hull → BlankFrom w.hull i s
      → Gives (BlankFrom w.hull (i + 1)) (hull_try w g i s)
  blank_next i s top l blank =
      gives_map _ (BlankFrom w.hull (i + 1)) (hull_try w g i s) (others_stay w.frame.bounds (length w.triangles / 3) (get_or w.hull i 0) _ s)
      (λ r stay j lo hi. stay (get_or w.hull j 0) (λ z. (top.border.fresh j hi).1 i (omega arith) (sym z)) ∙ blank j (omega arith) hi)

-- before hull place i
abbrev pub HullAlong : Plan → Ground → Outcome Fault CellState → ℕ → Progress → List Float → List ℕ → Type 0
HullAlong w g whole i p v ix = TriesLeft w g (hulls_from w g i) (BlankFrom w.hull i) whole p v ix

module _ (w : Plan) (p₀ : Progress) (v₀ : List Float) (ix₀ : List ℕ) where
  abbrev pub HullsAlong : ℕ → Progress → List Float → List ℕ → Type 0
  HullsAlong i p v ix = AtFirst w p₀ v₀ ix₀ (λ g s. HullAlong w g (hull_tries w g s) i p v ix)

  pub hulls_start : HullsAlong 0 p₀ v₀ ix₀
  hulls_start g s blank a = record { cells = s; amid = a; fit = λ j lo hi. blank (get_or w.hull j 0) (a.on.mesh.border.fresh j hi).0; makes = rw sub-zero }

  module _ (i : ℕ) (p : Progress) (v : List Float) (ix : List ℕ) (along : HullsAlong i p v ix) where
    pub hulls_amid : HullsAmid w p₀ v₀ ix₀ → i < length w.hull → HullAmid w p v ix i
    hulls_amid h l =
        let a = along h.g h.s h.blank h.amid in
        record { g = h.g; s = a.cells; amid = a.amid; place = l; blank = a.fit i (omega arith) l }

    pub hulls_end : length w.hull ≤ i → HullsTried w p₀ v₀ ix₀ p v ix
    hulls_end l g s blank am =
        let a = along g s blank am in
        let q : hull_tries w g s ≡ ok a.cells = sym a.makes ∙ hull_last w g i a.cells l in
        rw q a.amid

    module _ (l : i < length w.hull) (r : Progress) (v₁ : List Float) (ix₁ : List ℕ)
        (try : HullTried w p v ix i r v₁ ix₁) where
      tried : (g : Ground) (whole : Outcome Fault CellState) (a : HullAlong w g whole i p v ix)
          → Does w g (hull_try w g i a.cells) r v₁ ix₁
      tried g whole a = try g a.cells (a.fit i (omega arith) l) a.amid

      next : (g : Ground) (whole : Outcome Fault CellState) (a : HullAlong w g whole i p v ix)
          → and_then (hull_try w g i a.cells) (hulls_from w g (i + 1)) ≡ whole
      next g whole a = hull_next w g i a.cells l ∙ a.makes

      pub hulls_step : r.fault.number ≡ 0 → HullsAlong (i + 1) r v₁ ix₁
      hulls_step z g s blank am =
          let a = along g s blank am in
          passed w g _ _ r v₁ ix₁ _ (hull_try w g i a.cells) (blank_next w g i a.cells a.amid.on.mesh l a.fit) (next g _ a) (tried g _ a) z

      pub hulls_refused : r.fault.number ≢ 0 → HullsTried w p₀ v₀ ix₀ r v₁ ix₁
      hulls_refused z g s blank am =
          let a = along g s blank am in
          stopped w g _ _ r v₁ ix₁ (hull_try w g i a.cells) (next g _ a) (tried g _ a) z

-- ---- the rest

abbrev pub edges_from : Plan → ℕ → CellState → Outcome Fault CellState
edges_from w e s = clip_rest w.frame.bounds (length w.triangles / 3) w.triangles w.halfedges e (length w.triangles - e) s

module _ (w : Plan) where
  pub edge_next : (e : ℕ) (s : CellState) → e < length w.triangles → and_then (edge_try w e s) (edges_from w (e + 1)) ≡ edges_from w e s
  unfolding clip_rest
  edge_next e s l =
      let q : length w.triangles - e ≡ suc (length w.triangles - (e + 1)) = omega arith in
      rw (q, add-one e)

  edge_last : (e : ℕ) (s : CellState) → length w.triangles ≤ e → edges_from w e s ≡ ok s
  unfolding clip_rest
  edge_last e s l =
      let z : length w.triangles - e ≡ 0 = omega arith in
      rw z

-- before half-edge e: the definition's cells so far, and those held
pub record RestLeft (w : Plan) (g : Ground) (m : List ℕ) (whole : Outcome Fault CellState) (e : ℕ) (p : Progress) (v : List Float) (ix : List ℕ) : Type 0 where
  pub cells : CellState
  pub held : CellState
  pub amid : Amid w g held p v ix
  pub settled : SettledBefore w g m e cells
  pub left : LeftOut w g (λ (k : ℕ). MadeLast w.halfedges w.table m k × (get_or w.table k 0 < e)) cells held
  pub blank : EarlyBlank w g m held
  pub makes : edges_from w e cells ≡ whole

-- early sites are not on the hull, so what is known of hull sites is known of those held
held_idle : {w : Plan} {g : Ground} {m : List ℕ} {o : Outcome Fault CellState} {e : ℕ} {p : Progress} {v : List Float} {ix : List ℕ}
    → (a : RestLeft w g m o e p v ix) → HullsIdle w g a.held
held_idle {w = w} a h l u =
    let top = a.amid.on.mesh in
    let same = ⊎_elim (λ q. q) (λ q. absurd (q.0.0.inner u)) (a.left.each (end_of w.triangles h) (end_site top h (rw top.same l))) in
    ⊎_elim (λ x. inl (rw (← same) x)) (λ x. inr x) (a.settled.hulls.idle h l u)

-- a try that does the same with the cells c and t, and what it settles
pub record TriedAlike (w : Plan) (g : Ground) (m : List ℕ) (e : ℕ) (c t : CellState) : Type 0 where
  pub alike : Alike (LeftOut w g (λ (k : ℕ). MadeLast w.halfedges w.table m k × (get_or w.table k 0 < e))) (edge_try w e c) (edge_try w e t)
  pub settled : SettledAfter w g m e c
  pub blank : Gives (EarlyBlank w g m) (edge_try w e t)

module _ (w : Plan) (g : Ground) (m : List ℕ) (e : ℕ) (r : Progress) (v : List Float) (ix : List ℕ) (whole : Outcome Fault CellState) where
  abbrev Out : CellState → CellState → Type 0
  Out = LeftOut w g (λ (k : ℕ). MadeLast w.halfedges w.table m k × (get_or w.table k 0 < e))

  stepped : (o q : Outcome Fault CellState) → Alike Out o q → Gives (SettledBefore w g m (e + 1)) o → Gives (EarlyBlank w g m) q → and_then o (edges_from w (e + 1)) ≡ whole
      → Does w g q r v ix → r.fault.number ≡ 0 → RestLeft w g m whole (e + 1) r v ix
  unfolding and_then
  stepped (ok c) (ok t) k s u q d z =
      record { cells = c; held = t; amid = d; settled = s; left = left_more (λ j lj x. (x.0, omega (arith, x.1))) k; blank = u; makes = q }
  stepped (ok c) (refused y) k s u q d z = absurd k
  stepped (refused x) (ok t) k s u q d z = absurd k
  stepped (refused x) (refused y) k s u q d z = absurd (omega (arith, d.1, rw d.0 at z))

  halted : (o q : Outcome Fault CellState) → Alike Out o q → and_then o (edges_from w (e + 1)) ≡ whole → Does w g q r v ix → r.fault.number ≢ 0 → DoesLeft w g m whole r v ix
  unfolding and_then
  halted (ok c) (ok t) k q d z = absurd (z (ap (λ (x : Fault). x.number) d.fine))
  halted (ok c) (refused y) k q d z = absurd k
  halted (refused x) (ok t) k q d z = absurd k
  halted (refused x) (refused y) k q d z = rw (← q, k) d

module _ (w : Plan) (m : List ℕ) (p₀ : Progress) (v₀ : List Float) (ix₀ : List ℕ) where
  -- some cells, and where rule 10 holds those of the definition
  abbrev pub EdgesAlong : ℕ → Progress → List Float → List ℕ → Type 0
  EdgesAlong e p v ix =
      AtRest w p₀ v₀ ix₀ (λ g s. ((t : CellState) × Amid w g t p v ix) × (Fanned w g → InnerBlank w g s → HullsKnown w g m s → MarksCover w g m → RestLeft w g m (edge_tries w s) e p v ix))

  pub edges_start : EdgesAlong 0 p₀ v₀ ix₀
  edges_start g s a = (
    (s, a),
    λ fan inner filled marked. record {
      cells = s;
      held = s;
      amid = a;
      settled = record { inner = λ k l n z. absurd (omega arith); hulls = filled };
      left = left_none s;
      blank = λ k l x. inner k l x.inner;
      makes = rw sub-zero;
    },
  )

  module _ (e : ℕ) (p : Progress) (v : List Float) (ix : List ℕ) (along : EdgesAlong e p v ix) where
    pub edges_amid : EdgesAmid w p₀ v₀ ix₀ → EdgesAmid w p v ix
    edges_amid h = let a = (along h.g h.s h.amid).0 in record { g = h.g; s = a.0; amid = a.1 }

    pub edges_end : e ≡ length w.triangles → RestTried w m p₀ v₀ ix₀ p v ix
    edges_end l g s am = (
      λ _. (along g s am).0,
      λ fan inner filled marked.
          let a = (along g s am).1 fan inner filled marked in
          let q : edge_tries w s ≡ ok a.cells = sym a.makes ∙ edge_last w e a.cells (omega arith) in
          rw q (a.held, record { settled = rw l at a.settled; left = left_more (λ k lk x. x.0) a.left; blank = a.blank; amid = a.amid }),
    )

    module _ (l : e < length w.triangles) (r : Progress) (v₁ : List Float) (ix₁ : List ℕ) (try : DueTried w p v ix e r v₁ ix₁)
        (fits : (g : Ground) (s : CellState) (o : Outcome Fault CellState) → Fanned w g → MarksCover w g m → (a : RestLeft w g m o e p v ix) → TriedAlike w g m e a.cells a.held) where
      -- what the try settles is said by OneTurn, that it is the same with early cells left out by Leaving
      pub edges_step : r.fault.number ≡ 0 → EdgesAlong (e + 1) r v₁ ix₁
      edges_step z g s am = (
        let a = (along g s am).0 in (try g a.0 a.1).0 z,
        λ fan inner filled marked.
            let a = (along g s am).1 fan inner filled marked in
            let f = fits g s _ fan marked a in
            stepped w g m e r v₁ ix₁ (edge_tries w s) _ _ f.alike f.settled f.blank (edge_next w e a.cells l ∙ a.makes) ((try g a.held a.amid).1 (held_idle a)) z,
      )

      pub edges_refused : r.fault.number ≢ 0 → RestTried w m p₀ v₀ ix₀ r v₁ ix₁
      edges_refused z g s am = (
        λ q. absurd (z q),
        λ fan inner filled marked.
            let a = (along g s am).1 fan inner filled marked in
            let f = fits g s _ fan marked a in
            halted w g m e r v₁ ix₁ (edge_tries w s) _ _ f.alike (edge_next w e a.cells l ∙ a.makes) ((try g a.held a.amid).1 (held_idle a)) z,
      )

-- ---- whether all hull sites have their cells

module _ {w : Plan} {g : Ground} {s : CellState} {p : Progress} {v : List Float} {ix : List ℕ} (a : Amid w g s p v ix) where
  hull_in : (i : ℕ) → i < length w.hull → get_or w.hull i 0 < g.sites
  hull_in i l = (a.on.mesh.border.fresh i l).0

  hull_some : (i : ℕ) → i < length w.hull → get_or w.offsets (get_or w.hull i 0) 0 < get_or w.offsets (suc (get_or w.hull i 0)) 0
  hull_some i l = omega (arith, region_room_lem a.on (get_or w.hull i 0) (hull_in i l), occ_there w.hull i l)

  pub hull_regions : HullRegions w.hull ix w.offsets
  hull_regions = record {
    starts = λ i l. omega (arith, hull_in i l, a.on.places);
    places = λ i l. omega (arith, hull_some i l, region_within a.on (suc (get_or w.hull i 0)) (hull_in i l), a.on.stage, a.on.limit, a.on.room_ix);
    few = a.on.few_on_hull;
  }

  in_mesh : (k : ℕ) → k < length w.triangles → k < length w.halfedges
  in_mesh k l = rw a.on.mesh.same l

  markable : Markable w.triangles w.table p.count (length v)
  markable = record {
    threes = a.on.mesh.threes;
    few = a.on.few_entries;
    each = λ k l.
        let top = a.on.mesh in
        let u = tab_used top (get_or w.triangles k 0) (entry_site top k l) (start_used top k (in_mesh k l)) in
        rw a.on.table_is (rw (tab_length top) (entry_site top k l), omega (arith, u.0, top.same, a.on.few_entries));
    centers = omega (arith, corners_in a);
    room = a.holds.room;
  }

  pub hull_walks : HullWalks w.triangles w.halfedges w.hull w.table ix w.offsets
  hull_walks = record {
    regions = hull_regions;
    sites = λ i l. rw (a.on.table_is, tab_length a.on.mesh) (hull_in i l);
    paired = paired a.on.mesh;
    few = omega (arith, a.on.few_entries, a.on.mesh.same);
  }

  -- where the table entry of a half-edge's site is unpaired, the site stands at a hull place
  hull_place_lem : (h : ℕ) → h < length w.triangles → pair_of w.halfedges (get_or w.table (end_of w.triangles h) 0) ≡ EMPTY
      → (i : ℕ) × (i < length w.hull) × (get_or w.hull i 0 ≡ end_of w.triangles h)
  hull_place_lem h l u =
      let top = a.on.mesh in
      let there = tab_some top (end_of w.triangles h) (end_site top h (in_mesh h l)) h (in_mesh h l) refl in
      on_hull_lem (onward a) (end_of w.triangles h) (rw a.on.table_is there.0) (rw a.on.table_is there.1) u

  -- a hull site without a cell has all of its half-edges marked
  pub hulls_marked : Fanned w g → (m : List ℕ) → ((i : ℕ) → i < length w.hull → HullTold w.halfedges w.hull w.table ix w.offsets m i) → HullsMarked w m s
  hulls_marked fan m told h l u z =
      let top = with_fans a.on.mesh fan in
      let site = end_of w.triangles h in
      let lh = in_mesh h l in
      let o = hull_place_lem h l u in
      ⊎_elim
      (λ x. rw (← o.2) (full_already ix w.offsets s.cells a.regions (get_or w.hull o.0 0) (rw a.held.width (hull_in o.0 o.1)) (hull_some o.0 o.1) x))
      (λ x. absurd (x h (rw (o.2, a.on.table_is) (omega (arith, walk_each top site (end_site top h lh) h lh refl))) z))
      (told o.0 o.1)

-- ---- the early ones

module _ {w : Plan} {g : Ground} {m : List ℕ} {c t : CellState} {p : Progress} {v : List Float} {ix : List ℕ} (marked : MarksCover w g m) (a : LeftAmid w g m c t p v ix) where
  -- an early site's cell is not empty in c, and so not t's
  early_left : (k : ℕ) → k < g.sites → MadeLast w.halfedges w.table m k → get_or c.cells k [] ≡ early_cell w.halfedges (get_or w.table k 0)
  early_left k l x =
      ⊎_elim
      (λ q. absurd (true_false (ap is_empty (q ∙ a.blank k l x)) (early_filled (left_onward a.amid a.left) m marked l x a.settled)))
      (λ q. q.2)
      (a.left.each k l)

  late_left : (k : ℕ) → k < g.sites → (MadeLast w.halfedges w.table m k → ⊥) → get_or c.cells k [] ≡ get_or t.cells k []
  late_left k l n = ⊎_elim (λ q. q) (λ q. absurd (n q.0)) (a.left.each k l)

  late_amid : LateAmid w g m c p v ix
  late_amid = record {
    held = t;
    amid = a.amid;
    verts = a.left.verts;
    owners = a.left.owners;
    steps = a.left.steps;
    width = a.left.width;
    late = late_left;
    early = early_left;
  }

-- ---- the hull, then the rest

-- where a table entry is paired no unpaired half-edge starts, so the site is not on the hull
inner_off : {w : Plan} {g : Ground} {s : CellState} → Onward w g s → (k : ℕ) → k < g.sites → pair_of w.halfedges (get_or w.table k 0) ≢ EMPTY → OffHull w k 0
inner_off {w} {g} a k l n i lo li q =
    let top = a.on.mesh in
    let e = top.border.edges i li in
    let before = next_of (next_of e.0) in
    let round : next_of before ≡ e.0 = next_thrice e.0 in
    closed a k l n before (next_in top (next_in top e.1)) (ap (λ (x : ℕ). get_or w.triangles x 0) round ∙ e.3 ∙ sym q) (ap (pair_of w.halfedges) round ∙ e.2)

module _ (w : Plan) (p₀ : Progress) (v₀ : List Float) (ix₀ : List ℕ) where
  abbrev all_tries : Ground → CellState → Outcome Fault CellState
  all_tries g s = and_then (hull_tries w g s) (λ t. edge_tries w t)

  module _ (r : Progress) (v : List Float) (ix : List ℕ) (hulls : HullsTried w p₀ v₀ ix₀ r v ix) where
    pub cells_refused : r.fault.number ≢ 0 → (m : List ℕ) → AllTried w p₀ v₀ ix₀ m r v ix
    unfolding and_then
    cells_refused z m g s blank am = (λ q. absurd (z q), λ fan. by (hull_tries w g s) (hulls g s blank am))
      where
        by : (o : Outcome Fault CellState) → Does w g o r v ix → DoesLate w g m (and_then o (λ t. edge_tries w t)) r v ix
        by (ok t) d = absurd (z (ap (λ (e : Fault). e.number) d.fine))
        by (refused e) d = d

    module _ (z : r.fault.number ≡ 0) where
      abbrev BetweenFit : Ground → CellState → Type 0
      BetweenFit g t = InnerBlank w g t × (Fanned w g → HullsIdle w g t)

      between : AtFirst w p₀ v₀ ix₀ (λ g s. TriesLeft w g (edge_tries w) (BetweenFit g) (all_tries g s) r v ix)
      between g s blank am =
          let o = hull_tries w g s in
          passed w g _ _ r v ix (BetweenFit g) o
          (gives_map (HullsDone w g 0 s) (BetweenFit g) o
          (hulls_done w g am.on (length w.hull) 0 s (omega arith) am.held (λ j lo hi. blank (get_or w.hull j 0) (am.on.mesh.border.fresh j hi).0))
          (λ t h. (
            λ k l n. h.stay k (inner_off (onward am) k l n) ∙ blank k l,
            λ fan k l u. let y = hull_place_lem am k l u in rw (← y.2) (h.idle fan y.0 (omega arith) y.1 (rw y.2 u)),
          )))
          refl (hulls g s blank am) z

      pub cells_markable : HullsAmid w p₀ v₀ ix₀ → Markable w.triangles w.table r.count (length v)
      cells_markable h = markable (between h.g h.s h.blank h.amid).amid

      pub cells_walks : HullsAmid w p₀ v₀ ix₀ → HullWalks w.triangles w.halfedges w.hull w.table ix w.offsets
      cells_walks h = hull_walks (between h.g h.s h.blank h.amid).amid

      pub cells_amid : HullsAmid w p₀ v₀ ix₀ → EdgesAmid w r v ix
      cells_amid h = let a = between h.g h.s h.blank h.amid in record { g = h.g; s = a.cells; amid = a.amid }

      module _ (m : List ℕ) (told : (i : ℕ) → i < length w.hull → HullTold w.halfedges w.hull w.table ix w.offsets m i)
          (covers : Covers w.frame.bounds (points r.count v) w.triangles w.table m (length w.triangles)) where
        -- what is outside among the vertices now was so before
        marked : (g : Ground) (s : CellState) → Amid w g s r v ix → MarksCover w g m
        marked g s a k l z =
            covers k l (ap (λ (vs : List Point). in_box w.frame.bounds (length w.triangles / 3) vs (k / 3)) (sym a.verts)
            ∙ in_grown w.frame.bounds (length w.triangles / 3) g.x.verts s.verts a.held.more (k / 3) (omega (arith, a.on.low)) a.held.grown ∙ z)

        module _ (r₁ : Progress) (v₁ : List Float) (ix₁ : List ℕ) (edges : RestTried w m r v ix r₁ v₁ ix₁) where
          rest : AtFirst w p₀ v₀ ix₀ (λ g s. Fanned w g → DoesLeft w g m (all_tries g s) r₁ v₁ ix₁ × MarksCover w g m)
          rest g s blank am fan =
              let a = between g s blank am in
              let k = marked g a.cells a.amid in
              rw (← a.makes) ((edges g a.cells a.amid).1 fan a.fit.0 (record { marked = hulls_marked a.amid fan m told; idle = a.fit.1 fan }) k, k)

          pub cells_end : AllTried w p₀ v₀ ix₀ m r₁ v₁ ix₁
          cells_end g s blank am = (let a = between g s blank am in (edges g a.cells a.amid).0, late)
            where
              late : Fanned w g → DoesLate w g m (all_tries g s) r₁ v₁ ix₁
              late fan = by (all_tries g s) all.0
                where
                  all : DoesLeft w g m (all_tries g s) r₁ v₁ ix₁ × MarksCover w g m
                  all = rest g s blank am fan

                  by : (o : Outcome Fault CellState) → DoesLeft w g m o r₁ v₁ ix₁ → DoesLate w g m o r₁ v₁ ix₁
                  by (ok c) d = late_amid all.1 d.1
                  by (refused e) d = d
