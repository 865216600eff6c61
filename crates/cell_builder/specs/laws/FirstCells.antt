-- From the circumcenters to the first try. Corners and extensions follow the definition, and since their numbers are written after all regions, the regions stay blank;
-- so the slices hold the definition's cells at their beginning.
use Rattle.std.specs.Prelude.{◌≡◌, List, [], ◌++◌, map, ◌≢◌, ℕ, ◌+◌, ◌-◌, ◌*◌, ◌/◌, ◌≤◌, ◌<◌, Float, length, get_or, take, replicate}
use Rattle.std.proofs.Math.Path.{refl}
use Rattle.std.proofs.Common.{sym, ◌∙◌, arith, get_or-take, length-take-le}
use Rattle.std.proofs.lemmas.List.{length-replicate}
use Rattle.std.proofs.Math.ListN.{length-append}
use Rattle.std.proofs.lemmas.List.Edits.{sets}
use Rattle.base.specs.common.laws.Stores.{sets_in, sets_before}
use Rattle.plane.specs.points.Flat.{points}
use Rattle.plane.specs.declared.points.Point.{Point}
use Rattle.plane.specs.boxes.Box.{corners_of}
use Rattle.plane.specs.declared.boxes.BoundingBox.{BoundingBox}
use Rattle.vertices.specs.Store.{Leaves}
use Rattle.vertices.specs.laws.Points.{length_points}
use Rattle.vertices.specs.laws.Store.{poured_points}
use Rattle.mesh.specs.Accepted.{Mesh, mesh, site_count}
use Rattle.mesh.specs.laws.Facts.{topology, entry_site, start_used, tab_length, tab_used}
use Rattle.cell_memory.specs.layout.Regions.{Regions}
use Rattle.cell_memory.specs.layout.Rooms.{Roomy, Started}
use Rattle.cell_memory.specs.layout.laws.Rooms.{start_end}
use Rattle.base.specs.numbers.Numbers.{refused_extension}
use Rattle.definition.specs.declared.Fault.{Fault}
use Rattle.definition.specs.Fault.{Outcome, ok, refused}
use Rattle.definition.specs.Build.{Extensions, extend_from, CellState, clip_all}
use Rattle.definition.specs.Reused.{reused}
use Rattle.definition.specs.laws.Gives.{gives_ok}
use Rattle.definition.specs.Measures.{share_of}
use Rattle.build_laws.specs.laws.Sides.{corners_sided, corners_kept}
use Rattle.build_laws.specs.laws.Start.{Extended, extend_from_lem}
use Rattle.build_laws.specs.laws.AllCells.{no_cell, begin}
use Rattle.cell_builder.specs.rings.Centers.{Named}
use Rattle.cell_builder.specs.rings.Extensions.{ExtendsInto, ExtendedBy}
use Rattle.cell_builder.specs.declared.rings.extensions.Passed.{Passed}
use Rattle.cell_memory.specs.outputs.Outputs.{LaidOut}
use Rattle.cell_memory.specs.outputs.laws.Marks.{none_unmarked}
use Rattle.definition.specs.Cell.{unmarked}
use Rattle.definition.specs.Short.{fault, extensions, cell_state}
use Rattle.cell_builder.specs.declared.tried.Frame.{Frame}
use Rattle.cell_builder.specs.declared.finish.Progress.{Progress}
use Rattle.cell_builder.specs.tried.SlicesInvariant.{Plan, plan, ground, frame_of, Grounded, Amid}
use Rattle.cell_builder.specs.turned.Loops.{HullsAmid, AllTried}
use Rattle.cell_builder.specs.AdmittedBuild.{AdmittedBuild}
use Rattle.cell_builder.specs.Start.{extended_of, Extendable, Begun, BegunBy, Makeable, plan_of, Makes}
use Rattle.cell_memory.specs.layout.laws.RegionsKept.{regions_agree}

-- ---- corners and extensions

-- a pass over h hull places that stopped at r
module _ (h : ℕ) (f : Frame) (found : List ℕ) (v₁ : List Float) (ix ix₁ : List ℕ) (r : Passed) (v₂ : List Float) (ix₂ : List ℕ) (fits : h ≤ f.limit)
    (within : f.limit ≤ length ix₁) (body : take f.limit ix₁ ≡ take f.limit ix) where
  -- among the extensions' numbers and before them
  room : (xs : List ℕ) → length xs ≡ h → f.limit - h + length xs ≤ length (take f.limit ix)
  room xs long = rw (← body, length-take-le f.limit ix₁ within) (omega arith)

  passed_all : (o : Outcome Fault Extensions) → ExtendedBy o h f.centers f.limit (f.limit - h) v₁ ix₁ r v₂ ix₂ → h ≤ r.place
      → BegunBy h f found o ix (record { fault = fault 0 0 0 0; count = r.count; owners = found; reused = reused r.reused 0 0 }) v₂ ix₂
  passed_all (ok x) e l =
      let w : take f.limit ix₂ ≡ sets (take f.limit ix) (f.limit - h) x.at = rw (← body) e.2.numbers in
      record {
        fine = refl;
        verts = sym (poured_points e.2.verts);
        owners = refl;
        reused = sym e.2.reused;
        holds = e.2.holds;
        numbers = λ i k. sym (get_or-take f.limit ix₂ (f.limit - h + i) 0 (omega arith))
            ∙ rw w (sets_in x.at (take f.limit ix) (f.limit - h) i 0 (room x.at e.1) (omega (arith, e.1)));
        before = λ k g. sym (get_or-take f.limit ix₂ k 0 (omega arith)) ∙ rw w (sets_before x.at (take f.limit ix) (f.limit - h) k 0 g) ∙ get_or-take f.limit ix k 0 (omega arith);
      }
  passed_all (refused g) e l = absurd (omega (arith, e.1))

  stopped_at : (o : Outcome Fault Extensions) → ExtendedBy o h f.centers f.limit (f.limit - h) v₁ ix₁ r v₂ ix₂ → r.place < h
      → BegunBy h f found o ix (record { fault = fault refused_extension r.place 0 0; count = r.count; owners = found; reused = reused r.reused 0 0 }) v₂ ix₂
  stopped_at (ok x) e l = absurd (omega (arith, e.0))
  stopped_at (refused g) e l = (sym e.0, rw e.0 (omega arith))

module _ {sites : List Float} {tri hull table : List ℕ} {f : Frame} {v : List Float} {ix : List ℕ}
    (g : Extendable sites tri hull table f (length v) (length ix)) {cs : List Point} (cq : cs ≡ corners_of f.bounds) {count : ℕ}
    (nq : count ≡ f.centers + 4) {v₁ : List Float} {ix₁ : List ℕ}
    (l : Leaves f.centers f.limit (points f.centers v ++ cs) v ix count v₁ ix₁) (lv : length v₁ ≡ length v) (li : length ix₁ ≡ length ix) where
  pub extends_into : ExtendsInto sites tri hull table f.centers count f.limit (f.limit - length hull) v₁ ix₁
  extends_into = record {
    extends = g.extends;
    holds = l.holds;
    room_v = omega (arith, g.room_v);
    small = omega (arith, g.small);
    room_ix = omega (arith, g.after_numbers);
    limited = omega (arith, g.room_ix);
    small_ix = g.small_ix;
  }

  module _ (found : List ℕ) (r : Passed) (v₂ : List Float) (ix₂ : List ℕ)
      (e : ExtendedBy (extend_from sites tri hull table f.centers 0 (length hull) (extensions (points count v₁) [] [])) (length hull) f.centers
      f.limit (f.limit - length hull) v₁ ix₁ r v₂ ix₂) where
    from_corners : ExtendedBy (extended_of sites tri hull table f.bounds f.centers v) (length hull) f.centers f.limit (f.limit - length hull) v₁ ix₁ r v₂ ix₂
    from_corners = rw (poured_points l.verts, cq) at e

    pub extended_all : length hull ≤ r.place → BegunBy (length hull) f found (extended_of sites tri hull table f.bounds f.centers v) ix
        (record { fault = fault 0 0 0 0; count = r.count; owners = found; reused = reused r.reused 0 0 }) v₂ ix₂
    extended_all = passed_all (length hull) f found v₁ ix ix₁ r v₂ ix₂ g.after_numbers (omega (arith, g.room_ix)) l.body
        (extended_of sites tri hull table f.bounds f.centers v) from_corners

    pub extended_not : r.place < length hull → BegunBy (length hull) f found (extended_of sites tri hull table f.bounds f.centers v) ix
        (record { fault = fault refused_extension r.place 0 0; count = r.count; owners = found; reused = reused r.reused 0 0 }) v₂ ix₂
    extended_not = stopped_at (length hull) f found v₁ ix ix₁ r v₂ ix₂ g.after_numbers (omega (arith, g.room_ix)) l.body
        (extended_of sites tri hull table f.bounds f.centers v) from_corners

-- ---- the regions, and the beginning of all cells

pub named : {m : Mesh} {table : List ℕ} {b : BoundingBox} {numbers indexes offsets : ℕ}
    → AdmittedBuild m table b numbers indexes offsets → Named m.sites m.triangles
named a k h = omega (arith, entry_site (topology a.mesh) k h, a.mesh.counts.even)

module _ {sites : List Float} {tri he hull table : List ℕ} {b : BoundingBox} {owners : List ℕ} {numbers indexes offsets : ℕ}
    (m : Makeable (mesh sites tri he hull) table b owners numbers indexes offsets) where
  abbrev n : ℕ
  n = site_count sites

  abbrev nc : ℕ
  nc = length tri / 3

  few_entries : length tri ≤ 393216
  few_entries = let c = m.admitted.mesh.counts in omega (arith, c.few_triangles, c.threes)

  few_on_hull : length hull ≤ 65536
  few_on_hull = let c = m.admitted.mesh.counts in omega (arith, c.hull_of_sites, c.few_sites)

  whole_triangles : length tri ≡ 3 * nc
  whole_triangles = omega (arith, m.admitted.mesh.counts.threes)

  pub roomy : (off : List ℕ) → length off ≡ offsets → Roomy tri hull owners n off
  roomy off q = record {
    places = omega (arith, m.admitted.rooms.one_more);
    tri_sites = entry_site (topology m.admitted.mesh);
    hull_sites = λ k h. (m.admitted.mesh.topology.border.fresh k h).0;
    owner_sites = λ k h. m.owner_sites k (omega (arith, m.four));
    small = omega (arith, few_entries, few_on_hull, m.four);
  }

  pub rooms_fit : 3 * length tri + 6 * length hull + length owners ≤ indexes
  rooms_fit = omega (arith, m.admitted.rooms.entries, whole_triangles, m.four)

  pub regions_end : (off : List ℕ) → length off ≡ offsets → Started tri hull owners n off → get_or off n 0 ≡ 3 * length tri + 6 * length hull + 4
  regions_end off q st = st n (omega arith) ∙ start_end tri hull owners n off (roomy off q) ∙ rw m.four

  pub extendable : (f : Frame) → f ≡ frame_of b (length tri) (length hull) → (len-v len-ix : ℕ) → len-v ≡ numbers → len-ix ≡ indexes → Extendable sites tri hull table f len-v len-ix
  extendable f q len-v len-ix qv qi = rw (q, qv, qi) (record {
    extends = record {
      named = named m.admitted;
      threes = whole_triangles;
      hulled = λ i h. rw (m.admitted.table_is, tab_length (topology m.admitted.mesh)) (m.admitted.mesh.topology.border.fresh i h).0;
      -- a hull site has a half-edge that ends there, and so the table has one
      edges = λ i h.
          let top = topology m.admitted.mesh in
          let e = top.border.edges i h in
          let u = start_used top e.0 e.1 in
          rw m.admitted.table_is (omega (arith, (tab_used top (get_or hull i 0) (top.border.fresh i h).0 (rw e.3 at u)).0, top.same));
    };
    room_v = omega (arith, m.admitted.rooms.vertices);
    small = omega (arith, few_entries, few_on_hull);
    after_numbers = omega arith;
    room_ix = omega (arith, m.admitted.rooms.entries, whole_triangles, m.admitted.mesh.counts.three_on_hull);
    small_ix = omega (arith, few_entries, few_on_hull);
  })

  module _ (v : List Float) (ix : List ℕ) (off : List ℕ) (lo : length off ≡ offsets) (laid : LaidOut tri hull owners n ix off) (v₁ : List Float)
      (ix₁ : List ℕ) (lv : length v₁ ≡ numbers) (li : length ix₁ ≡ indexes) (p : Progress) where
    abbrev F : Frame
    F = frame_of b (length tri) (length hull)

    abbrev P : Plan
    P = plan_of (mesh sites tri he hull) table b off

    abbrev before : Extensions
    before = extensions (points nc v ++ corners_of b) [] []

    abbrev extended : Outcome Fault Extensions
    extended = extended_of sites tri hull table b nc v

    four_more : length before.verts ≡ nc + 4
    unfolding corners_of
    four_more = length-append (points nc v) (corners_of b) ∙ rw (length_points v 0 nc)

    -- the definition's extensions, to begin with
    grounded : (x : Extensions) → extended ≡ ok x → Grounded P (ground n owners x) (length v₁) (length ix₁)
    grounded x q =
        let a = m.admitted.mesh in
        let e : Extended nc (length hull) before x = gives_ok (Extended nc (length hull) before)
        (extend_from_lem sites tri hull table nc 0 (length hull) before (omega (arith, four_more)) (λ i h. absurd (omega arith))) q in
        record {
          mesh = topology a;
          table_is = m.admitted.table_is;
          few_sites = a.counts.few_sites;
          few_entries = few_entries;
          three_on_hull = a.counts.three_on_hull;
          few_on_hull = few_on_hull;
          centers = refl;
          stage = refl;
          limit = refl;
          places = omega (arith, m.admitted.rooms.one_more);
          started = laid.started;
          four = m.four;
          owner_sites = m.owner_sites;
          counted = omega (arith, e.counted);
          taken = omega (arith, e.taken);
          beyond = e.beyond;
          low = omega (arith, e.grown.longer, four_more);
          high = omega (arith, e.grown.longer, four_more, e.few);
          sides = corners_kept b nc before.verts x.verts _ e.grown (omega (arith, four_more)) (corners_sided b m.admitted.box nc (points nc v) (length_points v 0 nc));
          room_v = omega (arith, m.admitted.rooms.vertices);
          room_ix = omega (arith, m.admitted.rooms.entries, whole_triangles, a.counts.three_on_hull);
        }

    abbrev none : Extensions → CellState
    none x = cell_state x.verts owners (replicate n []) x.steps

    -- the numbers stand after the regions
    blank_still : (x : Extensions) → Begun (length hull) F owners x ix p v₁ ix₁ → Regions ix₁ off (map unmarked (replicate n []))
    blank_still x g =
        let s : get_or off (length (replicate {A = List ℕ} n [])) 0 ≡ 3 * length tri + 6 * length hull + 4 =
        rw (length-replicate {A = List ℕ} n []) (regions_end off lo laid.started) in
        rw (none_unmarked n)
        (regions_agree laid.regions (omega (arith, s, m.admitted.rooms.entries, whole_triangles)) (λ k h. g.before k (omega (arith, s))))

    standing : (x : Extensions) → extended ≡ ok x → Begun (length hull) F owners x ix p v₁ ix₁
        → Amid P (ground n owners x) (none x) p v₁ ix₁
    standing x q g = record {
      on = grounded x q;
      held = begin b nc n (share_of tri hull) x.verts owners x.steps m.four;
      fine = g.fine;
      verts = g.verts;
      owners = g.owners;
      reused = g.reused;
      holds = g.holds;
      regions = blank_still x g;
      numbers = g.numbers;
    }

    no_fault : (p.fault ≡ fault 0 0 0 0) → p.fault.number ≡ 0
    no_fault q = rw q

    -- all cells can be clipped
    hulls_amid : (o : Outcome Fault Extensions) → extended ≡ o → BegunBy (length hull) F owners o ix p v₁ ix₁
        → p.fault.number ≡ 0 → HullsAmid P p v₁ ix₁
    hulls_amid (ok x) q g z = record {
      g = ground n owners x;
      s = none x;
      amid = standing x q g;
      blank = λ k h. no_cell n k;
    }
    hulls_amid (refused e) q g z = absurd (omega (arith, rw g.0 at z, g.1))

    module _ (f : Frame) (fq : f ≡ F) (g : BegunBy (length hull) f owners (extended_of sites tri hull table f.bounds f.centers v) ix p v₁ ix₁) where
      on_frame : BegunBy (length hull) F owners extended ix p v₁ ix₁
      on_frame = rw fq at g

      pub can_clip : p.fault.number ≡ 0 → HullsAmid (plan tri he hull table f off) p v₁ ix₁
      can_clip z = rw fq (hulls_amid extended refl on_frame z)

      -- the extensions are refused
      pub made_not : p.fault.number ≢ 0 → (marks : List ℕ) → Makes (mesh sites tri he hull) table b owners extended marks p v₁ ix₁ off
      made_not z marks = go extended on_frame
        where
          go : (o : Outcome Fault Extensions) → BegunBy (length hull) F owners o ix p v₁ ix₁ → Makes (mesh sites tri he hull) table b owners o marks p v₁ ix₁ off
          go (ok x) k = absurd (z (no_fault k.fine))
          go (refused e) k = k

      -- all cells are clipped
      pub made_all :
          p.fault.number ≡ 0 → (marks : List ℕ) (r : Progress) (v₂ : List Float) (ix₂ : List ℕ)
          → AllTried (plan tri he hull table f off) p v₁ ix₁ marks r v₂ ix₂
          → Makes (mesh sites tri he hull) table b owners extended marks r v₂ ix₂ off
      unfolding clip_all
      made_all z marks r v₂ ix₂ clip = go extended refl on_frame
        where
          clipped : AllTried P p v₁ ix₁ marks r v₂ ix₂
          clipped = rw fq at clip

          go : (o : Outcome Fault Extensions) → extended ≡ o → BegunBy (length hull) F owners o ix p v₁ ix₁
              → Makes (mesh sites tri he hull) table b owners o marks r v₂ ix₂ off
          go (ok x) q k = clipped (ground n owners x) (none x) (λ k h. no_cell n k) (standing x q k)
          go (refused e) q k = absurd (omega (arith, rw k.0 at z, k.1))
