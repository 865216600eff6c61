-- The clipped build: what rule 3 and the rules up to 9 give the cell builder, and the promise from its answer and rule 10.
use Rattle.std.specs.Prelude.{◌≡◌, true, List, ◌≢◌, ℕ, ◌+◌, ◌*◌, ◌/◌, ◌≤◌, ◌<◌, Float, length, take}
use Rattle.std.proofs.Math.Path.{refl}
use Rattle.std.proofs.Common.{ap, ◌∙◌, arith}
use Rattle.base.specs.common.Refusals.{Rule, Finds}
use Rattle.base.specs.common.laws.Refusals.{finds_keep}
use Rattle.plane.specs.boxes.Finite.{BoundedBox}
use Rattle.plane.specs.given.Finite.{Fits}
use Rattle.plane.specs.declared.given.Given.{Given}
use Rattle.mesh.specs.Mesh.{Fan}
use Rattle.mesh.specs.Accepted.{Mesh, table_of, site_count}
use Rattle.definition.specs.declared.Fault.{Fault}
use Rattle.definition.specs.Fault.{Outcome, ok, refused}
use Rattle.definition.specs.Cell.{extension, firstCrossing, secondCrossing}
use Rattle.definition.specs.Build.{Built, build}
use Rattle.definition.proofs.laws.Reused.{reused_le}
use Rattle.definition.specs.laws.Gives.{Gives, gives_map}
use Rattle.build_laws.specs.laws.Built as theorems
use Rattle.cell_memory.specs.outputs.Outputs.{of_built, fault_of, BuiltInto, counts_made}
use Rattle.cell_builder.specs.declared.finish.CellsAnswer.{CellsAnswer}
use Rattle.cell_builder.specs.declared.finish.Finished.{Finished}
use Rattle.cell_builder.specs.AdmittedBuild.{AdmittedBuild}
use Rattle.cell_builder.specs.Start.{AnsweredBuild, BuildTold}
use Rattle.cell_builder.specs.finish.Finish.{outcome_answer}
use Rattle.arguments.specs.asking.Asks.{box_rules, Asked}
use Rattle.arguments.specs.asking.laws.Asks.{NoneZero, box_answers}
use Rattle.admission.specs.Slices.{Slices, slices}
use Rattle.admission.specs.Admission.{OutlineAdmission, FanAdmission, BuildAdmission}
use Rattle.admission.specs.laws.Outlined.{mesh_outlined, asked_fit, rooms_of, nine_of, table_is, long_of, same_vertices, same_indexes, same_offsets, same_counts}
use Rattle.admission.specs.laws.Fans.{outline_refused, fans_whole, fans_refused, fans_kept}
use Rattle.building.specs.counts.Counts.{counts_of, ReusedFit, EndedBuild, FaultNumber}
use Rattle.building.specs.answers.Promise.{BuildAnswers, Build}
use Rattle.build_laws.specs.Late.{Refuses, Numbered}
use Rattle.build_laws.specs.LateRefusals.{build_late}
use Rattle.building.specs.answers.laws.BuildAnswer.{answers_early, mesh_of_lem, fit_of, answers_built}

-- ---- the builder's answer
module _ (o : Outcome Fault Built) (x : CellsAnswer) (q : x ≡ outcome_answer o) where
  answer_fault : x.fault ≡ fault_of o
  answer_fault = rw q (go o)
    where
      go : (o : Outcome Fault Built) → (outcome_answer o).fault ≡ fault_of o
      go (ok b) = refl
      go (refused e) = refl

  answer_numbered : Refuses Numbered o → FaultNumber x.fault.number
  answer_numbered late = rw q (go o late)
    where
      go : (o : Outcome Fault Built) → Refuses Numbered o → FaultNumber (outcome_answer o).fault.number
      go (ok b) l n = absurd (n refl)
      go (refused e) l n = (l.least, l.most)

  answer_counts : Refuses Numbered o → (fault_of o).number ≡ 0 → counts_of x.count x.owners x.lost x.reused ≡ of_built counts_made o
  unfolding of_built
  answer_counts late z = rw q (go o late z)
    where
      go : (o : Outcome Fault Built) → Refuses Numbered o → (fault_of o).number ≡ 0
          → counts_of (outcome_answer o).count (outcome_answer o).owners (outcome_answer o).lost (outcome_answer o).reused ≡ of_built counts_made o
      go (ok b) l e = refl
      go (refused f) l e = absurd (omega (arith, l.least))

  -- so many vertices that their number fits
  answer_few : (m : ℕ) → Gives (λ (b : Built). length b.verts ≤ m) o → x.count ≤ m
  answer_few m g = rw q (go o g)
    where
      go : (o : Outcome Fault Built) → Gives (λ (b : Built). length b.verts ≤ m) o → (outcome_answer o).count ≤ m
      go (ok b) h = h
      go (refused f) h = omega arith

  -- and so few steps that theirs do
  answer_reused : (m : ℕ) → m < 4294967296 → Gives (λ (b : Built). length b.steps ≤ m) o → ReusedFit x.reused
  answer_reused m l g = rw q (go o g)
    where
      go : (o : Outcome Fault Built) → Gives (λ (b : Built). length b.steps ≤ m) o → ReusedFit (outcome_answer o).reused
      go (ok b) h =
          (omega (arith, reused_le extension b.steps), omega (arith, reused_le firstCrossing b.steps), omega (arith, reused_le secondCrossing b.steps))
      go (refused f) h = omega arith

-- ---- what the rules up to 9 give the builder: `asked` is what the call's own arguments gave, and 0 only where rule 3 holds
module _ {m : Mesh} {asked : ℕ} {old new : Slices} {r : ℕ} (a : OutlineAdmission m asked old new r)
    (g : Given) (fits : Fits g) (fit : asked ≡ 0 → g.sound ≡ true) (z : r ≡ 0) where
  pub boxed_asks : AdmittedBuild m (take (site_count m.sites) new.work) g.bounds (length new.vertices) (length new.indexes) (length new.offsets)
  boxed_asks = record { mesh = mesh_outlined a z; table_is = table_is a z; box = fits.bounded (fit (asked_fit a z)); rooms = rooms_of a z }

-- ---- the whole, where rule 10 holds too
module _ {m : Mesh} {asked : ℕ} {old new : Slices} {r : ℕ} (a : BuildAdmission m asked old new r)
    (g : Given) (fits : Fits g) (fit : asked ≡ 0 → g.sound ≡ true) (z : r ≡ 0) where
  bounded : BoundedBox 101 g.bounds
  bounded = fits.bounded (fit (fit_of a z))

  -- the builder's answer is then the definition's
  pub boxed_told : {x : Finished} {v : List Float} {ix off : List ℕ} {table : List ℕ} → table ≡ table_of m
      → BuildTold m table g.bounds new.vertices new.indexes new.offsets x v ix off
      → AnsweredBuild (build m g.bounds) new.vertices new.indexes new.offsets x.answer v ix off
  boxed_told q t = t.answered (rw q (mesh_of_lem a z).topology.fan)

  module _ (x : CellsAnswer) (q : x ≡ outcome_answer (build m g.bounds)) where
    pub boxed_fault : x.fault ≡ fault_of (build m g.bounds)
    boxed_fault = answer_fault (build m g.bounds) x q

    pub boxed_numbered : FaultNumber x.fault.number
    boxed_numbered = answer_numbered (build m g.bounds) x q (build_late m g.bounds)

    pub boxed_count : x.count < 4294967296
    boxed_count =
        let k = (mesh_of_lem a z).counts in
        let few = answer_few (build m g.bounds) x q (7 * (length m.triangles / 3) + 5 * length m.hull + 4)
        (gives_map _ _ (build m g.bounds) (theorems.built (mesh_of_lem a z) bounded) (λ y o. o.1.vertices)) in
        omega (arith, few, k.few_triangles, k.hull_of_sites, k.few_sites)

    pub boxed_reused : ReusedFit x.reused
    boxed_reused =
        let k = (mesh_of_lem a z).counts in
        answer_reused (build m g.bounds) x q (6 * (length m.triangles / 3) + 5 * length m.hull) (omega (arith, k.few_triangles, k.hull_of_sites, k.few_sites))
        (gives_map _ _ (build m g.bounds) (theorems.built (mesh_of_lem a z) bounded) (λ y o. o.1.steps))

    -- `own` are the rules that gave `asked`
    pub boxed_built : (own : List (Rule ℕ)) → NoneZero own → Finds own 0 asked → {v : List Float} {ix off w₂ c₂ : List ℕ}
        → BuiltInto (build m g.bounds) new.vertices new.indexes new.offsets v ix off
        → EndedBuild x.fault.number (counts_of x.count x.owners x.lost x.reused) new.work new.counts w₂ c₂
        → BuildAnswers m own (build m g.bounds) old (slices w₂ v ix off c₂) x.fault.number
    boxed_built own t found l f =
        let o = build m g.bounds in
        let late = build_late m g.bounds in
        answers_built a z own t found o late x.fault (answer_fault o x q) l f (answer_counts o x q late)

-- where nothing but the box is asked
module _ {m : Mesh} {asked : ℕ} {old mid : Slices} {r : ℕ} (a : OutlineAdmission m asked old mid r)
    (g : Given) (ask : Asked (box_rules g.sound) asked) where
  pub build_early : r ≢ 0 → Build m g old mid r
  build_early n = answers_early (outline_refused a n) (box_rules g.sound) (box_answers g.sound) ask.found (build m g.bounds) n

  fit : asked ≡ 0 → g.sound ≡ true
  fit e = (finds_keep (λ k. k ≡ 0) (box_answers g.sound) e ask.found).0

  module _ (fits : Fits g) (z : r ≡ 0) where
    pub build_asks : AdmittedBuild m (take (site_count m.sites) mid.work) g.bounds (length mid.vertices) (length mid.indexes) (length mid.offsets)
    build_asks = boxed_asks a g fits fit z

    module _ {x : Finished} {v : List Float} {ix off : List ℕ}
        (t : BuildTold m (take (site_count m.sites) mid.work) g.bounds mid.vertices mid.indexes mid.offsets x v ix off) where
      -- rule 10 is tried where the builder does not say that it holds
      pub build_fans : x.whole ≡ true → Fan m.triangles m.halfedges (table_of m)
      build_fans h = rw (table_is a z) at (t.whole h)

      module _ {end : Slices} {k : ℕ} (f : FanAdmission m.triangles m.halfedges (site_count m.sites) (slices mid.work v ix off mid.counts) end k) where
        pub build_broken : k ≢ 0 → length v ≡ length mid.vertices → length ix ≡ length mid.indexes → length off ≡ length mid.offsets → Build m g old end k
        build_broken n lv li lo =
            answers_early (fans_refused a z f n (long_of a z) (lv ∙ ap length (same_vertices a z)) (li ∙ ap length (same_indexes a z)) (lo ∙ ap length (same_offsets a z))
            (ap length (same_counts a z))) (box_rules g.sound) (box_answers g.sound) ask.found (build m g.bounds) n

        module _ (y : k ≡ 0) where
          told : AnsweredBuild (build m g.bounds) mid.vertices mid.indexes mid.offsets x.answer v ix off
          told = boxed_told (fans_whole a z f y) g fits fit y (table_is a z) t

          kept : end ≡ slices mid.work v ix off mid.counts
          kept = fans_kept f y

          pub count_fits : x.answer.count < 4294967296
          count_fits = boxed_count (fans_whole a z f y) g fits fit y x.answer told.0

          pub fault_fits : FaultNumber x.answer.fault.number
          fault_fits = boxed_numbered (fans_whole a z f y) g fits fit y x.answer told.0

          pub reused_fit : ReusedFit x.answer.reused
          reused_fit = boxed_reused (fans_whole a z f y) g fits fit y x.answer told.0

          pub nine_fit : 9 ≤ length end.counts
          nine_fit = rw kept (nine_of a z)

          pub build_built : {w₂ c₂ : List ℕ}
              → EndedBuild x.answer.fault.number (counts_of x.answer.count x.answer.owners x.answer.lost x.answer.reused) end.work end.counts w₂ c₂
              → Build m g old (slices w₂ end.vertices end.indexes end.offsets c₂) x.answer.fault.number
          build_built e =
              rw kept (boxed_built (fans_whole a z f y) g fits fit y x.answer told.0 (box_rules g.sound) (box_answers g.sound) ask.found told.1 (rw kept at e))
