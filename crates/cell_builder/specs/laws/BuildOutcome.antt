-- From the outcomes of the circumcenters, the extensions and the cells to the build's: refused, all slices are cleared; else vertices and cells stand at their beginnings,
-- and the corners still with their owners that stand in no cell are those lost.
use Rattle.std.specs.Prelude.{◌≡◌, true, false, ◌⊎◌, ◌≢◌, ℕ, ◌/◌, ◌≤◌, ◌<◌, Float, get_or}
use Rattle.std.proofs.Math.Path.{refl, sym, ap, subst}
use Rattle.std.proofs.Common.{◌∙◌, ⊎_elim, arith}
use mathlib.Core.List.{List, [], ◌++◌, map}
use Rattle.std.proofs.Math.Logic.{inl, inr}
use Rattle.std.proofs.Math.ListN.{length}
use Rattle.base.specs.common.laws.Decide.{eq_or_ne}
use Rattle.plane.specs.points.Flat.{points}
use Rattle.plane.specs.declared.points.Point.{Point}
use Rattle.plane.specs.boxes.Box.{corners_of}
use Rattle.plane.specs.declared.boxes.BoundingBox.{BoundingBox}
use Rattle.vertices.specs.laws.Points.{length_points, points_pour, pour_points}
use Rattle.mesh.specs.Mesh.{leftmost_of, Fan}
use Rattle.mesh.specs.laws.Facts.{paired, end_site, tab_length, tab_cases}
use Rattle.mesh.specs.laws.Total.{total_whole_lem}
use Rattle.mesh.specs.Accepted.{Mesh, mesh, site_count}
use Rattle.cell_memory.specs.layout.Regions.{joined}
use Rattle.cell_memory.specs.outputs.laws.Marks.{entries_joined}
use Rattle.cell_memory.specs.outputs.Outputs.{of_built}
use Rattle.cell_memory.specs.outputs.laws.Padded.{poured_cleared}
use Rattle.base.specs.numbers.Numbers.{refused_circumcenter}
use Rattle.definition.specs.declared.Fault.{Fault}
use Rattle.definition.specs.declared.Reused.{Reused}
use Rattle.definition.specs.Fault.{Outcome, ok, refused, and_then}
use Rattle.definition.specs.Build.{Built, centers_from, owners_from, Extensions, extend_from, CellState, clip_all, lost_from, build}
use Rattle.definition.specs.Measures.{lost_left, share_of}
use Rattle.definition.specs.Reused.{reused_in}
use Rattle.definition.specs.laws.Gives.{gives_ok}
use Rattle.build_laws.specs.laws.AllCells.{clip_all_lem}
use Rattle.build_laws.specs.laws.Runs.{true_false}
use Rattle.build_laws.specs.laws.CellsSoFar.{CellsSoFar}
use Rattle.build_laws.specs.laws.Built.{owner_of, lost_entries}
use Rattle.build_laws.specs.laws.Owners.{owners_length, ready, towards_corner}
use Rattle.cell_builder.specs.rings.Centers.{CentersBy}
use Rattle.cell_builder.specs.rings.Ownership.{Owned}
use Rattle.definition.specs.Cell.{unmarked}
use Rattle.definition.specs.Short.{fault, extensions}
use Rattle.cell_builder.specs.declared.finish.Progress.{Progress}
use Rattle.cell_builder.specs.declared.finish.CellsAnswer.{CellsAnswer}
use Rattle.cell_builder.specs.declared.finish.Finished.{Finished}
use Rattle.cell_builder.specs.tried.SlicesInvariant.{ground, Amid}
use Rattle.cell_builder.specs.turned.Loops.{LateAmid, DoesLate}
use Rattle.cell_builder.specs.placed.Placed.{CellsReady}
use Rattle.cell_builder.specs.laws.LateCells.{placeable, late_width, late_placed}
use Rattle.cell_builder.specs.finish.Finish.{RefusedCells, Finishable}
use Rattle.cell_builder.specs.AdmittedBuild.{AdmittedBuild}
use Rattle.cell_builder.specs.Start.{extended_of, Makeable, plan_of, Makes, AnsweredBuild, BuildTold, BuiltCells}
use Rattle.cell_builder.specs.tried.laws.OneTry.{count_is}

answer_same : {f g : Fault} {c d : ℕ} {o w : List ℕ} {l k : ℕ} {u x : Reused} → f ≡ g → c ≡ d → o ≡ w → l ≡ k → u ≡ x
    → ◌≡◌ {A = CellsAnswer} (record { fault = f; count = c; owners = o; lost = l; reused = u }) (record { fault = g; count = d; owners = w; lost = k; reused = x })
answer_same p q r s t = rw (p, q, r, s, t)

-- cells that were made can be put in their places
module _ (m : Mesh) (table : List ℕ) (b : BoundingBox) (owners marks : List ℕ) (p : Progress) (v₂ : List Float) (ix₂ off₂ : List ℕ) where
  abbrev Fit : Type 0
  Fit = Finishable m.halfedges table marks (site_count m.sites) (length m.triangles / 3) p.count (length v₂) ix₂ off₂

  amid_finishable : (x : Extensions) (s : CellState) → Amid (plan_of m table b off₂) (ground (site_count m.sites) owners x) s p v₂ ix₂ → Fit
  amid_finishable x s a = record { placeable = placeable a; corners = omega (arith, a.on.few_entries); room = a.holds.room }

  pub finishable : (o : Outcome Fault Extensions) → Makes m table b owners o marks p v₂ ix₂ off₂ → p.fault.number ≡ 0 → Fit
  finishable (refused e) k q = absurd (omega (arith, k.1, ap (λ (d : Fault). d.number) k.0))
  finishable (ok x) k q = let a = k.0 q in amid_finishable x a.0 a.1

module _ {sites : List Float} {tri he hull table : List ℕ} {b : BoundingBox} {numbers indexes offsets : ℕ} (m : AdmittedBuild (mesh sites tri he hull) table b numbers indexes offsets) where
  abbrev n : ℕ
  n = site_count sites

  abbrev T : ℕ
  T = length tri / 3

  -- the owners as found
  abbrev found : List ℕ
  found = owners_from sites tri he (leftmost_of tri he n) n (get_or hull 0 0) (corners_of b)

  four_corners : length (corners_of b) ≡ 4
  unfolding corners_of
  four_corners = refl

  -- ---- owners

  pub owned : Owned sites tri he table b (get_or hull 0 0)
  owned = record {
    ready = rw m.table_is (ready m.mesh);
    begun = (m.mesh.topology.border.fresh 0 (omega (arith, m.mesh.counts.three_on_hull))).0;
    towards = λ k l. towards_corner m.mesh m.box k l;
  }

  pub owners_are : {owners : List ℕ} → owners ≡ owners_from sites tri he table n (get_or hull 0 0) (corners_of b) → owners ≡ found
  owners_are q = q ∙ rw m.table_is

  pub makeable : (owners : List ℕ) (lv : ℕ) → owners ≡ found → lv ≡ numbers → Makeable (mesh sites tri he hull) table b owners lv indexes offsets
  makeable owners lv q ql = rw (q, ql) (record {
    admitted = m;
    four = owners_length sites tri he (leftmost_of tri he n) n (get_or hull 0 0) (corners_of b) ∙ four_corners;
    owner_sites = λ k l. (owner_of m.mesh m.box k l).1;
  })

  -- ---- the circumcenters

  abbrev outcome : CellState → Built
  outcome s = record { verts = s.verts; cells = s.cells; owners = found; lost = lost_from T 4 s.cells; steps = s.steps }

  -- on the circumcenters that stand in v
  abbrev extended : List Float → Outcome Fault Extensions
  extended v = extended_of sites tri hull table b T v

  abbrev cells_then : Extensions → Outcome Fault Built
  cells_then x = and_then (clip_all b T tri he hull (leftmost_of tri he n) n found x) (λ s. ok (outcome s))

  abbrev centers_then : List Point → Outcome Fault Built
  centers_then centers = and_then (extend_from sites tri hull (leftmost_of tri he n) T 0 (length hull) (extensions (centers ++ corners_of b) [] [])) cells_then

  module _ (t : ℕ) (v v₁ : List Float) (c : CentersBy (centers_from sites tri 0 T []) T t v v₁) where
    offends : t < T → build (mesh sites tri he hull) b ≡ refused (fault refused_circumcenter t 0 0)
    unfolding build and_then
    offends h = go (centers_from sites tri 0 T []) c
      where
        go : (o : Outcome Fault (List Point)) → CentersBy o T t v v₁ → and_then o centers_then ≡ refused (fault refused_circumcenter t 0 0)
        go (ok vs) k = absurd (omega (arith, k.0))
        go (refused f) k = ap refused k.0

    goes_on : T ≤ t → build (mesh sites tri he hull) b ≡ and_then (extended v₁) cells_then
    unfolding build and_then
    goes_on h = rw m.table_is (go (centers_from sites tri 0 T []) c)
      where
        go : (o : Outcome Fault (List Point)) → CentersBy o T t v v₁ → and_then o centers_then ≡ and_then (extended_of sites tri hull (leftmost_of tri he n) b T v₁) cells_then
        go (ok vs) k =
            let q : points T v₁ ≡ vs = rw (k.2, ← k.1) (points_pour vs v) in
            rw q
        go (refused f) k = absurd (omega (arith, k.1))

  -- ---- the cells

  module _ (fan : Fan tri he (leftmost_of tri he n)) (owners : List ℕ) (qo : owners ≡ found) (marks : List ℕ) (p : Progress) (v₁ v₂ : List Float) (ix₂ off₂ : List ℕ) where
    abbrev Refuses : Outcome Fault Built → Type 0
    Refuses o = (e : Fault) × (o ≡ refused e) × (p.fault ≡ e) × (0 < e.number)

    abbrev Builds : Outcome Fault Built → Type 0
    Builds o = (x : Extensions) × (s : CellState) × (o ≡ ok (outcome s)) × LateAmid (plan_of (mesh sites tri he hull) (leftmost_of tri he n) b off₂) (ground n found x) marks s p v₂ ix₂
        × CellsSoFar b T n (share_of tri hull) x.verts found x.steps s

    told : Makes (mesh sites tri he hull) table b owners (extended v₁) marks p v₂ ix₂ off₂
        → Refuses (and_then (extended v₁) cells_then) ⊎ Builds (and_then (extended v₁) cells_then)
    unfolding and_then
    told k = by (extended v₁) (rw qo at k)
      where
        cells_by : (x : Extensions) (o : Outcome Fault CellState) → clip_all b T tri he hull (leftmost_of tri he n) n found x ≡ o
            → DoesLate (plan_of (mesh sites tri he hull) (leftmost_of tri he n) b off₂) (ground n found x) marks o p v₂ ix₂
            → Refuses (and_then o (λ s. ok (outcome s))) ⊎ Builds (and_then o (λ s. ok (outcome s)))
        cells_by x (ok s) q d =
            let on = d.amid.on in
            inr (
              x,
              s,
              refl,
              d,
              gives_ok (CellsSoFar b T n (share_of tri hull) x.verts found x.steps)
                  (clip_all_lem on.mesh (omega (arith, on.few_sites)) b T found x on.low on.four) q,
            )
        cells_by x (refused e) q d = inl (e, refl, d.0, d.1)

        by : (o : Outcome Fault Extensions) → Makes (mesh sites tri he hull) table b found o marks p v₂ ix₂ off₂ → Refuses (and_then o cells_then) ⊎ Builds (and_then o cells_then)
        by (ok x) d = cells_by x (clip_all b T tri he hull (leftmost_of tri he n) n found x) refl (rw m.table_is at (d.1 fan))
        by (refused e) d = inl (e, refl, d.0, d.1)

    module _ (k : Makes (mesh sites tri he hull) table b owners (extended v₁) marks p v₂ ix₂ off₂) where
      stopped : p.fault.number ≢ 0 → and_then (extended v₁) cells_then ≡ refused p.fault
      stopped q = ⊎_elim (λ r. r.1 ∙ ap refused (sym r.2)) (λ r. absurd (q (ap (λ (d : Fault). d.number) r.3.amid.fine))) (told k)

      all_built : p.fault.number ≡ 0 → Builds (and_then (extended v₁) cells_then)
      all_built q = ⊎_elim (λ r. absurd (omega (arith, r.3, ap (λ (d : Fault). d.number) r.2))) (λ r. r) (told k)

  -- ---- the build's answer and slices

  module _ (v : List Float) (ix off : List ℕ) (r : Finished) (v₃ : List Float) (ix₃ off₃ : List ℕ) where
    abbrev With : Outcome Fault Built → Type 0
    With o = AnsweredBuild o v ix off r.answer v₃ ix₃ off₃

    abbrev Told : Type 0
    Told = BuildTold (mesh sites tri he hull) table b v ix off r v₃ ix₃ off₃

    emptied_with : (e : Fault) (v₂ : List Float) (ix₂ off₂ : List ℕ) → length v₂ ≡ length v → length ix₂ ≡ length ix → length off₂ ≡ length off
        → RefusedCells e v₂ ix₂ off₂ r.answer v₃ ix₃ off₃ → With (refused e)
    unfolding of_built
    emptied_with e v₂ ix₂ off₂ qv qi qo z = (z.answer, record { vertices = rw (← qv) z.vertices; indexes = rw (← qi) z.indexes; offsets = rw (← qo) z.offsets })

    -- a triangle offends
    pub refused_first : (t : ℕ) (v₁ : List Float) → CentersBy (centers_from sites tri 0 T []) T t v v₁ → t < T → length v₁ ≡ length v
        → RefusedCells (fault refused_circumcenter t 0 0) v₁ ix off r.answer v₃ ix₃ off₃ → r.whole ≡ false → Told
    refused_first t v₁ c h qv z q = record {
      answered = λ fan. rw (offends t v v₁ c h) (emptied_with (fault refused_circumcenter t 0 0) v₁ ix off qv refl refl z);
      whole = λ w. absurd (true_false w q);
    }

    module _ (t : ℕ) (v₁ : List Float) (c : CentersBy (centers_from sites tri 0 T []) T t v v₁) (h : T ≤ t) (long : length v₁ ≡ length v)
        (owners : List ℕ) (qo : owners ≡ found) (w : BuiltCells (mesh sites tri he hull) table b owners v₁ ix off r v₃ ix₃ off₃) where
      abbrev p : Progress
      p = w.progress

      -- an extension or a cell is refused
      refused_later : Fan tri he (leftmost_of tri he n) → p.fault.number ≢ 0 → With (build (mesh sites tri he hull) b)
      refused_later fan q =
          rw (goes_on t v v₁ c h ∙ stopped fan owners qo w.marks p v₁ w.made_v w.made_ix w.made_off w.makes q)
          (emptied_with p.fault w.made_v w.made_ix w.made_off (w.long_v ∙ long) w.long_ix w.long_off (w.settled.on_refusal q).0)

      built_with : Fan tri he (leftmost_of tri he n) → p.fault.number ≡ 0 → With (build (mesh sites tri he hull) b)
      unfolding of_built
      built_with fan q =
          let z = w.settled.on_success q in
          let m₂ = all_built fan owners qo w.marks p v₁ w.made_v w.made_ix w.made_off w.makes q in
          let s = m₂.1 in
          let k = m₂.3 in
          let a = k.amid in
          let there : CellsReady he table w.marks w.made_ix w.made_off owners (map unmarked s.cells) =
          subst (λ (os : List ℕ). CellsReady he table w.marks w.made_ix w.made_off os (map unmarked s.cells)) (sym qo)
          (subst (λ (tb : List ℕ). CellsReady he tb w.marks w.made_ix w.made_off found (map unmarked s.cells)) (sym m.table_is) (late_placed fan k)) in
          let g = z.gathered (map unmarked s.cells) (late_width fan k) there in
          let lost : lost_left T p.owners (joined (map unmarked s.cells)) ≡ lost_from T 4 s.cells =
          ap (λ (os : List ℕ). lost_left T os (joined (map unmarked s.cells))) (sym (k.owners ∙ a.owners))
          ∙ ap (lost_left T s.owners) (entries_joined s.cells) ∙ sym (lost_entries m.mesh m.box _ _ _ s m₂.4) in
          rw (goes_on t v v₁ c h ∙ m₂.2) (
            z.answer (map unmarked s.cells) (late_width fan k) there
                ∙ answer_same a.fine (count_is a ∙ ap length (sym k.verts)) qo lost (sym (ap reused_in k.steps ∙ a.reused)),
            record {
              vertices = rw (k.verts ∙ a.verts, ← (w.long_v ∙ long)) (poured_cleared (points p.count w.made_v) p.count w.made_v w.made_v v₃
                  (length_points w.made_v 0 p.count) a.holds.room (sym (pour_points w.made_v p.count a.holds.room)) z.vertices);
              indexes = rw (← w.long_ix) g.indexes;
              offsets = rw (← w.long_off) g.offsets;
            },
          )

      -- the walks have all half-edges, so no fan is broken
      all_whole : r.whole ≡ true → Fan tri he table
      all_whole q =
          let top = m.mesh.topology in
          let long : length table ≡ n = ap length m.table_is ∙ tab_length top in
          ⊎_elim
          (λ z. total_whole_lem tri he table (paired top) (record {
            sites = λ e l. rw long (end_site top e l);
            ends = λ s l h. rw m.table_is (⊎_elim (λ x. absurd (omega (arith, x, top.small, top.same, rw m.table_is at h))) (λ x. x.1) (tab_cases top s (rw long at l)));
          }) (rw long ((w.settled.on_success z).whole q)))
          (λ z. absurd (true_false q (w.settled.on_refusal z).1))
          (eq_or_ne p.fault.number 0)

      pub built_by : Told
      built_by = record {
        answered = λ fan.
            let f : Fan tri he (leftmost_of tri he n) = rw m.table_is at fan in
            ⊎_elim (built_with f) (refused_later f) (eq_or_ne p.fault.number 0);
        whole = all_whole;
      }
