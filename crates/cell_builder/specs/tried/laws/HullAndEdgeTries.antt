-- The two kinds of tries: at a hull place, from its ring with extensions, and at a half-edge, from the walk that starts there, where the cell is still empty.
use Rattle.std.specs.Prelude.{◌≡◌, List, [], ◌≢◌, ℕ, suc, ◌+◌, ◌-◌, ◌/◌, ◌≤◌, ◌<◌, Float, length, get_or, drop}
use Rattle.std.proofs.Common.{sym, ◌∙◌, arith, get_or-drop}
use Rattle.base.specs.numbers.Numbers.{EMPTY}
use Rattle.mesh.specs.Mesh.{end_of, whole_of}
use Rattle.mesh.specs.laws.Facts.{paired, tab_length, end_site}
use Rattle.definition.specs.Build.{CellState, ring_from, hull_ring}
use Rattle.definition.specs.Measures.{share_of}
use Rattle.build_laws.specs.laws.AllCells.{ring_share, hull_share}
use Rattle.cell_memory.specs.staging.Staging.{Staged, Stages}
use Rattle.cell_memory.specs.outputs.laws.Marks.{empty_still, full_already}
use Rattle.cell_builder.specs.tried.SlicesInvariant.{plan, Ground, Amid, Does, hull_try, edge_try}
use Rattle.cell_builder.specs.tried.Tries.{Ringed, Tried}
use Rattle.cell_builder.specs.declared.tried.Frame.{Frame}
use Rattle.cell_builder.specs.declared.finish.Progress.{Progress}
use Rattle.cell_builder.specs.tried.laws.RingShort.{ring_short, walk_short}
use Rattle.cell_builder.specs.tried.laws.TriedRings.{ring_below, ring_some, Below, hull_some, hull_below, hull_short, hull_same}
use Rattle.cell_builder.specs.tried.laws.OneTry.{region_room_lem, region_within, count_is, corners_in, ringed, tried}

module _ {tri he hull table : List ℕ} {f : Frame} {off : List ℕ} {g : Ground} {s : CellState} {p : Progress} {v : List Float} {ix : List ℕ}
    (a : Amid (plan tri he hull table f off) g s p v ix) where
  begun : length g.x.verts ≤ p.count
  begun = omega (arith, count_is a, a.held.grown.longer)

  pub numbers_before : length hull ≤ f.limit
  numbers_before = omega (arith, a.on.limit)

  -- ---- at hull place i
  module _ (i : ℕ) (place : i < length hull) where
    pub hull_site : get_or hull i 0 < g.sites
    hull_site = (a.on.mesh.border.fresh i place).0

    pub hull_stages : Stages tri he hull table ix f.stage (f.limit - length hull) i
    hull_stages = let on = a.on in record {
      paired = paired on.mesh;
      place = place;
      site = rw (on.table_is, tab_length on.mesh) hull_site;
      stage = omega (arith, on.stage, on.limit, walk_short on.mesh (get_or table (get_or hull i 0) 0));
      numbers = omega (arith, numbers_before, on.room_ix);
    }

    abbrev ring : List ℕ
    ring = hull_ring he hull table g.x.at i

    -- the ring's vertices are paid for
    paid : length ring ≤ share_of tri hull (get_or hull i 0)
    paid = rw a.on.table_is (hull_share a.on.mesh g.x.at i place)

    ring_now : hull_ring he hull table (drop (f.limit - length hull) ix) i ≡ ring
    ring_now = hull_same tri he hull table g.x i (drop (f.limit - length hull) ix) place (λ j h. get_or-drop (f.limit - length hull) ix j 0 ∙ a.numbers j h)

    module _ (blank : get_or s.cells (get_or hull i 0) [] ≡ []) {ix₁ : List ℕ} {end : ℕ}
        (st : Staged (hull_ring he hull table (drop (f.limit - length hull) ix) i) f.stage ix ix₁ end) where
      staged : Staged ring f.stage ix ix₁ end
      staged = rw ring_now at st

      short : length ring ≤ length tri / 3 + 2
      short = hull_short tri he hull table g.x i a.on.mesh

      below : Below p.count ring
      below j l = let on = a.on in omega (
        arith,
        begun,
        hull_below tri he hull table g.x i (paired on.mesh) on.mesh.same on.beyond on.counted (omega (arith, on.low)) place j l,
      )

      pub hull_ringed : Ringed f (get_or hull i 0) p end v ix₁ off
      hull_ringed = ringed a hull_site blank (hull_some tri he hull table g.x i) paid short below staged

      pub hull_tried : {r : Progress} {v₂ : List Float} {ix₂ : List ℕ} → length v₂ ≡ length v → length ix₂ ≡ length ix₁
          → Tried f (get_or hull i 0) p end v ix₁ off r v₂ ix₂ → Does (plan tri he hull table f off) g (hull_try (plan tri he hull table f off) g i s) r v₂ ix₂
      hull_tried lv li d = tried a hull_site blank (hull_some tri he hull table g.x i) paid short below staged lv li d

  -- ---- at half-edge e, which ends at the site
  module _ (e site : ℕ) (h : e < length tri) (q : site ≡ end_of tri e) where
    in_mesh : e < length he
    in_mesh = rw a.on.mesh.same h

    pub edge_site : site < g.sites
    edge_site = rw q (end_site a.on.mesh e in_mesh)

    in_cells : site < length s.cells
    in_cells = rw a.held.width edge_site

    paid_edge : length (ring_from he e) ≤ share_of tri hull site
    paid_edge = omega (arith, ring_share a.on.mesh site e (λ l. sym q))

    pub region_some : get_or off site 0 < get_or off (suc site) 0
    region_some = omega (arith, region_room_lem a.on site edge_site, paid_edge, ring_some {tri = tri} (paired a.on.mesh) e in_mesh)

    pub region_place : get_or off site 0 < length ix
    region_place = omega (arith, region_some, region_within a.on (suc site) edge_site, a.on.stage, a.on.limit, a.on.room_ix)

    -- the cell is there
    pub edge_kept : get_or ix (get_or off site 0) 0 ≢ EMPTY → Does (plan tri he hull table f off) g (edge_try (plan tri he hull table f off) e s) p v ix
    edge_kept n = let full = full_already ix off s.cells a.regions site in_cells region_some n in rw (← q, full) a

    pub stage_room : f.stage + length (whole_of he e) ≤ length ix
    stage_room = omega (arith, a.on.stage, a.on.limit, a.on.room_ix, walk_short a.on.mesh e)

    module _ (m : get_or ix (get_or off site 0) 0 ≡ EMPTY) {ix₁ : List ℕ} {end : ℕ} (st : Staged (ring_from he e) f.stage ix ix₁ end) where
      blank_edge : get_or s.cells site [] ≡ []
      blank_edge = empty_still ix off s.cells a.regions site in_cells m

      short_edge : length (ring_from he e) ≤ length tri / 3 + 2
      short_edge = omega (arith, ring_short a.on.mesh e)

      below_edge : Below p.count (ring_from he e)
      below_edge j l = omega (arith, ring_below {tri = tri} (paired a.on.mesh) e j l, corners_in a, a.on.mesh.same)

      pub edge_ringed : Ringed f site p end v ix₁ off
      edge_ringed = ringed a edge_site blank_edge (ring_some {tri = tri} (paired a.on.mesh) e in_mesh) paid_edge short_edge below_edge st

      pub edge_tried : {r : Progress} {v₂ : List Float} {ix₂ : List ℕ} → length v₂ ≡ length v → length ix₂ ≡ length ix₁
          → Tried f site p end v ix₁ off r v₂ ix₂ → Does (plan tri he hull table f off) g (edge_try (plan tri he hull table f off) e s) r v₂ ix₂
      edge_tried lv li d = rw (← q, blank_edge) (tried a edge_site blank_edge (ring_some {tri = tri} (paired a.on.mesh) e in_mesh) paid_edge short_edge below_edge st lv li d)
