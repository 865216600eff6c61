-- One try: a ring staged after all regions leaves what stands before and after the stage as it was; the site's region has room for its cell; and the cell written there is the definition's.
use Rattle.std.specs.Prelude.{◌≡◌, refl, List, [], ◌∷◌, ◌++◌, map, ◌≢◌, ℕ, zero, suc, ◌+◌, ◌-◌, ◌*◌, ◌/◌, ◌^◌, ◌≤◌, ◌<◌, Float, length, get_or, set, take, drop}
use Rattle.std.proofs.Common.{sym, ap, ◌∙◌, subst, arith, get_or-set_same, get_or-take, take-take}
use Rattle.std.proofs.lemmas.List.{length-map}
use Rattle.std.proofs.lemmas.List.Edits.{sets}
use Rattle.std.proofs.Math.Seq.{length-sets}
use Rattle.base.specs.common.laws.Stores.{sets_in, sets_behind, sets_there, take_sets, take_sets_le, drop_sets}
use Rattle.base.specs.common.Count.{occ}
use Rattle.base.specs.common.laws.Count.{sum_mono}
use Rattle.base.specs.numbers.Numbers.{EMPTY}
use Rattle.plane.specs.points.Flat.{points}
use Rattle.plane.specs.declared.points.Point.{Point}
use Rattle.vertices.specs.laws.Points.{length_points}
use Rattle.mesh.specs.laws.Facts.{entry_site}
use Rattle.cell_memory.specs.layout.Regions.{Regions}
use Rattle.cell_memory.specs.layout.Rooms.{region_room, region_start, Roomy}
use Rattle.cell_memory.specs.layout.laws.Rooms.{start_end}
use Rattle.definition.proofs.laws.Puts.{placed_below}
use Rattle.definition.specs.declared.Fault.{Fault}
use Rattle.definition.specs.Fault.{Outcome, ok, refused, and_then}
use Rattle.definition.specs.Cell as Def
use Rattle.definition.specs.Cell.{Entry, RingPart, unmarked}
use Rattle.definition.specs.Build.{CellState, clip_into}
use Rattle.definition.specs.laws.Gives.{Gives}
use Rattle.definition.specs.Measures.{ValidEntries, share_of}
use Rattle.definition.specs.declared.Reused.{Reused}
use Rattle.definition.specs.Reused.{reused, reused_in, together, Addable}
use Rattle.definition.proofs.laws.Reused.{reused_join, together_none, counts_small}
use Rattle.definition.specs.Sides.{SidedCorners}
use Rattle.build_laws.specs.laws.CellsSoFar.{CellsSoFar, clip_into_lem}
use Rattle.build_laws.specs.laws.AllCells.{all_filled, spare}
use Rattle.build_laws.specs.laws.Sides.{corners_kept}
use Rattle.cell_memory.specs.staging.Staging.{Staged}
use Rattle.clipping.specs.RingWalk.{Steps, ring_of, empty_at}
use Rattle.definition.specs.Short.{cell_state}
use Rattle.cell_memory.specs.outputs.laws.Marks.{cell_set}
use Rattle.cell_builder.specs.tried.SlicesInvariant.{plan, Ground, Grounded, Amid, Does}
use Rattle.clipping.specs.laws.RingWalk.{steps_small}
use Rattle.clipping.specs.declared.RingStepped.{RingStepped}
use Rattle.clipping.specs.declared.edges.Env.{Env}
use Rattle.clipping.specs.declared.corners.CellSoFar.{CellSoFar}
use Rattle.cell_builder.specs.tried.Tries.{env_of, Ringed, Tried}
use Rattle.cell_builder.specs.declared.tried.Frame.{Frame}
use Rattle.cell_builder.specs.declared.finish.Progress.{Progress}
use Rattle.cell_memory.specs.layout.laws.RegionsKept.{regions_agree}

-- an entry of a cell is a vertex
entries_below : (P : ℕ → Type 0) (nc n : ℕ) (es : List Entry) → nc + 4 ≤ n → ValidEntries P nc n es → (i : ℕ) → i < length (unmarked es) → get_or (unmarked es) i 0 < n
entries_below P nc n [] h a i l = absurd (omega arith)
entries_below P nc n (e ∷ es) h a zero l = placed_below P nc n e.mark e.at h a.0
entries_below P nc n (e ∷ es) h a (suc i) l = entries_below P nc n es h a.1 i (omega arith)

-- a ring that took no point again
pub none_reused : (e : Fault) (n : ℕ) (os : List ℕ) (u : Reused) → ◌≡◌ {A = Progress} (record { fault = e; count = n; owners = os; reused = u })
    (record { fault = e; count = n; owners = os; reused = together u (reused 0 0 0) })
none_reused e n os u = ap progress (sym (together_none u))
  where
    progress : Reused → Progress
    progress w = record { fault = e; count = n; owners = os; reused = w }

-- and the points that one took again can be added to those before it
pub ring_small : (env : Env) (edges count : ℕ) (ring : List ℕ) (vs : List Point) (os : List ℕ) (cell : CellSoFar) (v : List Float) (ix : List ℕ) (r : RingStepped)
    (v₁ : List Float) (ix₁ : List ℕ) → Steps env edges (Def.clip_cell env.bounds env.centers env.site ring vs os) count cell v ix r v₁ ix₁
    → r.fault.number ≡ 0 → edges ≤ 2 ^ 32 → Addable r.reused
ring_small env edges count ring vs os cell v ix r v₁ ix₁ h z l =
    steps_small env edges count cell v ix r v₁ ix₁ (Def.clip_cell env.bounds env.centers env.site ring vs os) h z l

module _ {tri he hull table : List ℕ} {f : Frame} {off : List ℕ} {g : Ground} {numbers indexes : ℕ} (on : Grounded (plan tri he hull table f off) g numbers indexes) where
  pub threes : length tri ≡ 3 * (length tri / 3)
  threes = omega (arith, on.mesh.threes)

  roomy : Roomy tri hull g.found g.sites off
  roomy = record {
    places = on.places;
    tri_sites = entry_site on.mesh;
    hull_sites = λ k h. (on.mesh.border.fresh k h).0;
    owner_sites = λ k h. on.owner_sites k (omega (arith, on.four));
    small = omega (arith, on.few_entries, on.few_on_hull, on.four);
  }

  -- all regions together end where the stage begins
  pub all_rooms : region_start tri hull g.found g.sites ≡ f.stage
  all_rooms = start_end tri hull g.found g.sites off roomy ∙ omega (arith, on.stage, on.four)

  pub last_start : get_or off g.sites 0 ≡ f.stage
  last_start = on.started g.sites (omega arith) ∙ all_rooms

  -- the region of a site: three entries for each of its share, and its corners
  pub region_room_lem : (s : ℕ) → s < g.sites → get_or off s 0 + 3 * share_of tri hull s + occ s g.found ≡ get_or off (suc s) 0
  unfolding region_start region_room
  region_room_lem s h = rw (on.started s (omega arith), on.started (suc s) h) (omega arith)

  pub region_within : (s : ℕ) → s ≤ g.sites → get_or off s 0 ≤ f.stage
  unfolding region_start
  region_within s h = rw (on.started s h) (omega (arith, sum_mono (region_room tri hull g.found) s g.sites h, all_rooms))

-- the cells s in the slices v and ix, a ring of the site staged as ix₁
module _ {tri he hull table : List ℕ} {f : Frame} {off : List ℕ} {g : Ground} {s : CellState} {p : Progress} {v : List Float} {ix : List ℕ}
    (a : Amid (plan tri he hull table f off) g s p v ix) where
  pub count_is : p.count ≡ length s.verts
  count_is = sym (ap length a.verts ∙ length_points v 0 p.count)

  -- the vertices so far, with room for all that the site's ring can add
  pub spare_room : (site : ℕ) → site < g.sites → get_or s.cells site [] ≡ [] → p.count + 2 * share_of tri hull site ≤ 7 * (length tri / 3) + 5 * length hull + 4
  spare_room site l blank =
      let on = a.on in
      omega (arith, count_is, threes on, on.high, spare on.mesh (omega (arith, on.few_sites)) f.bounds (length tri / 3) g.x.verts g.found _ on.low s site a.held l blank)

  -- the points taken again are no more than the steps
  few_reused : Addable p.reused
  few_reused =
      let on = a.on in
      rw (← a.reused) (counts_small {ts = s.steps} (record { is = refl; few = a.held.steps }) (omega (arith, on.taken, on.few_entries, on.few_on_hull, all_filled tri hull s.cells)))

  pub corners_in : length tri / 3 + 4 ≤ p.count
  corners_in = omega (arith, count_is, a.held.grown.longer, a.on.low)

  sides_in : SidedCorners f.bounds f.centers (points p.count v)
  sides_in = let on = a.on in rw (on.centers, ← a.verts) (corners_kept f.bounds (length tri / 3) g.x.verts s.verts _ a.held.grown on.low on.sides)

  module _ {site : ℕ} (l : site < g.sites) (blank : get_or s.cells site [] ≡ []) {ring : List ℕ} (some : 0 < length ring)
      (paid : length ring ≤ share_of tri hull site) (short : length ring ≤ length tri / 3 + 2)
      (below : (j : ℕ) → j < length ring → get_or ring j 0 < p.count) {ix₁ : List ℕ} {end : ℕ} (st : Staged ring f.stage ix ix₁ end) where
    before_numbers : f.stage + length ring ≤ f.limit - length hull
    before_numbers = let on = a.on in omega (arith, on.stage, on.limit, on.three_on_hull)

    within : f.stage + length ring ≤ length ix
    within = omega (arith, before_numbers, a.on.room_ix)

    same_long : length ix₁ ≡ length ix
    same_long = ap length st.written ∙ length-sets ix f.stage ring

    size : end - f.stage ≡ length ring
    size = omega (arith, st.ended)

    pub ring_is : ring_of ix₁ f.stage (end - f.stage) ≡ ring
    ring_is = rw (size, st.written) (sets_there ring ix f.stage within)

    tail_kept : drop f.limit ix₁ ≡ drop f.limit ix
    tail_kept = ap (drop f.limit) st.written ∙ drop_sets f.limit ring ix f.stage (omega (arith, before_numbers))

    pub ringed : Ringed f site p end v ix₁ off
    ringed =
        let on = a.on in
        let room = spare_room site l blank in
        record {
          place = omega (arith, on.places);
          some = omega (arith, st.ended);
          few = few_reused;
          room = rw size (record {
            holds = rw tail_kept a.holds;
            list = omega (arith, same_long, on.room_ix);
            ends = omega (arith, before_numbers);
            fits = record {
              four = sym (ap length a.owners) ∙ a.held.four;
              real = omega (arith, on.few_sites);
              room = omega (arith, region_room_lem on site l, region_within on (suc site) l, a.held.owned site (omega (arith, on.few_sites)), ap (occ site) a.owners);
            };
            verts = omega (arith, room, on.room_v);
            small = omega (arith, room, on.few_entries, on.few_on_hull, threes on);
            corners = omega (arith, corners_in, on.centers);
            sides = sides_in;
            below = λ j h. rw (st.written, sets_in ring ix f.stage j 0 within h) (below j h);
          });
        }

    abbrev after : RingPart → CellState
    after c = cell_state c.tip.verts c.tip.owners (set s.cells site c.new) (s.steps ++ c.steps)

    abbrev Good : CellState → Type 0
    Good t = CellsSoFar f.bounds (length tri / 3) g.sites (share_of tri hull) g.x.verts g.found g.x.steps t

    module _ (ix₂ : List ℕ) (long_ix : length ix₂ ≡ length ix₁) (c : RingPart) (held : Good (after c))
        (slice : take f.limit ix₂ ≡ sets (take f.limit ix₁) (get_or off site 0) (unmarked c.new)) where
      region_fits : get_or off site 0 + length (unmarked c.new) ≤ get_or off (suc site) 0
      region_fits =
          omega (arith, length-map c.new (λ (e : Entry). e.at), region_room_lem a.on site l, rw (get_or-set_same s.cells site c.new [] (rw a.held.width l)) at (held.region site l))

      before_limit : f.stage ≤ f.limit
      before_limit = omega (arith, a.on.stage, a.on.limit)

      -- before the stage nothing but the cell has been written
      cell_written : take f.stage ix₂ ≡ take f.stage (sets ix (get_or off site 0) (unmarked c.new))
      cell_written =
          sym (take-take f.stage f.limit ix₂ before_limit)
          ∙ ap (take f.stage) slice
          ∙ take_sets f.stage (unmarked c.new) (take f.limit ix₁) (get_or off site 0)
          ∙ ap (λ (x : List ℕ). sets x (get_or off site 0) (unmarked c.new))
          (take-take f.stage f.limit ix₁ before_limit ∙ ap (take f.stage) st.written ∙ take_sets_le f.stage ring ix f.stage (omega arith))
          ∙ sym (take_sets f.stage (unmarked c.new) ix (get_or off site 0))

      entries_real : (i : ℕ) → i < length (unmarked c.new) → get_or (unmarked c.new) i 0 ≢ EMPTY
      entries_real i h =
          let e = entries_below _ _ _ c.new (omega (arith, held.grown.longer, a.on.low)) (rw (get_or-set_same s.cells site c.new [] (rw a.held.width l)) at (held.placed site)) i h in
          omega (arith, e, held.grown.longer, held.twos, all_filled tri hull (after c).cells, a.on.high, a.on.few_entries, a.on.few_on_hull)

      regions_after : Regions ix₂ off (map unmarked (after c).cells)
      regions_after =
          let wide : length (map unmarked (after c).cells) ≡ g.sites = length-map (after c).cells unmarked ∙ held.width in
          let r = cell_set ix off s.cells a.regions site (rw a.held.width l) (sets ix (get_or off site 0) (unmarked c.new)) c.new blank region_fits entries_real refl in
          regions_agree r
          (rw (wide, last_start a.on) (omega (arith, long_ix, same_long, within)))
          (λ k h.
          let j : k < f.stage = rw (wide, last_start a.on) at h in
          sym (get_or-take f.stage ix₂ k 0 j) ∙ ap (λ (x : List ℕ). get_or x k 0) cell_written ∙ get_or-take f.stage (sets ix (get_or off site 0) (unmarked c.new)) k 0 j)

      numbers_after : (i : ℕ) → i < length hull → get_or ix₂ (f.limit - length hull + i) 0 ≡ get_or g.x.at i 0
      numbers_after i h =
          let k = f.limit - length hull + i in
          let low : f.stage + length ring ≤ k = omega (arith, before_numbers) in
          let high : k < f.limit = omega (arith, a.on.limit) in
          sym (get_or-take f.limit ix₂ k 0 high)
          ∙ rw slice (sets_behind (unmarked c.new) (take f.limit ix₁) (get_or off site 0) k 0 (omega (arith, low, region_fits, region_within a.on (suc site) l)))
          ∙ get_or-take f.limit ix₁ k 0 high
          ∙ rw st.written (sets_behind ring ix f.stage k 0 low)
          ∙ a.numbers i h

    pub tried : {r : Progress} {v₂ : List Float} {ix₂ : List ℕ} → length v₂ ≡ length v → length ix₂ ≡ length ix₁
        → Tried f site p end v ix₁ off r v₂ ix₂ → Does (plan tri he hull table f off) g (clip_into f.bounds (length tri / 3) site ring s) r v₂ ix₂
    unfolding clip_into and_then
    tried {r} {v₂} {ix₂} long_v long_ix t =
        let on = a.on in
        go (Def.clip_cell f.bounds (length tri / 3) site ring s.verts s.owners)
        (clip_into_lem f.bounds (length tri / 3) g.sites (share_of tri hull) g.x.verts g.found g.x.steps on.low site
        (omega (arith, on.few_sites)) l ring paid s a.held blank)
        (subst (λ (o : Outcome Fault RingPart). Steps (env_of f site) (end - f.stage) o p.count (empty_at p.owners (get_or off site 0)) v ix₁ t.stepped v₂ ix₂) same t.steps)
      where
        same : Def.clip_cell f.bounds f.centers site (ring_of ix₁ f.stage (end - f.stage)) (points p.count v) p.owners ≡ Def.clip_cell
            f.bounds (length tri / 3) site ring s.verts s.owners
        same = rw (ring_is, a.on.centers, a.verts, a.owners)

        go : (o : Outcome Fault RingPart) → Gives (λ (q : CellState). Good q × ((k : ℕ) → k ≢ site → get_or q.cells k [] ≡ get_or s.cells k []))
            (and_then o (λ c. ok (after c))) → Steps (env_of f site) (end - f.stage) o p.count (empty_at p.owners (get_or off site 0)) v ix₁
            t.stepped v₂ ix₂ → Does (plan tri he hull table f off) g (and_then o (λ c. ok (after c))) r v₂ ix₂
        go (ok c) h q =
            rw (t.is (ap (λ (x : Fault). x.number) q.0)) (record {
              on = rw (long_v, long_ix, same_long) a.on;
              held = h.0;
              fine = q.0;
              verts = ap (λ (x : Def.Tip). x.verts) q.1;
              owners = ap (λ (x : Def.Tip). x.owners) q.1;
              reused = reused_join s.steps c.steps ∙ ap (λ (x : Reused). together x (reused_in c.steps)) a.reused ∙ ap (together p.reused) (sym q.4.is);
              holds = q.3.holds;
              regions = regions_after ix₂ long_ix c h.0 q.3.puts.slice;
              numbers = numbers_after ix₂ long_ix c h.0 q.3.puts.slice;
            })
        go (refused e) h q = (t.faulty ∙ q.0, q.1)
