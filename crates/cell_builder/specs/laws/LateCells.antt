-- Cells of which the early ones are left out can be put in their places: those held stand in their regions, and an early site's is a walk back.
use Rattle.std.specs.Prelude.{◌≡◌, List, [], map, ℕ, suc, ◌+◌, ◌<◌, Float, length, get_or}
use Rattle.std.proofs.Common.{sym, ap, ◌∙◌, arith}
use Rattle.std.proofs.lemmas.List.{length-map}
use Rattle.std.proofs.Math.ListN.{get_or-map}
use Rattle.mesh.specs.laws.Facts.{paired, tab_length}
use Rattle.cell_memory.specs.layout.laws.Regions.{regions_rising}
use Rattle.definition.specs.Cell.{unmarked}
use Rattle.definition.specs.Build.{CellState}
use Rattle.cell_builder.specs.declared.finish.Progress.{Progress}
use Rattle.cell_builder.specs.declared.tried.Frame.{Frame}
use Rattle.cell_builder.specs.tried.SlicesInvariant.{plan, Ground, Fanned, Amid}
use Rattle.cell_builder.specs.tried.laws.OneTry.{last_start}
use Rattle.cell_builder.specs.turned.Loops.{LateAmid}
use Rattle.cell_builder.specs.turned.laws.Onward.{onward}
use Rattle.cell_builder.specs.placed.Placed.{Placeable, CellsReady}
use Rattle.cell_builder.specs.placed.laws.Placing.{back_as}
use Rattle.cell_builder.specs.placed.laws.BackWalk.{pair_back, early_back, early_walk, early_full}

-- whatever cells the slices hold
module _ {tri he hull table : List ℕ} {f : Frame} {off : List ℕ} {g : Ground} {t : CellState} {p : Progress} {v : List Float} {ix : List ℕ}
    (a : Amid (plan tri he hull table f off) g t p v ix) where
  pub held_width : length (map unmarked t.cells) ≡ g.sites
  held_width = length-map t.cells unmarked ∙ a.held.width

  pub placeable : {m : List ℕ} → Placeable he table m ix off g.sites
  placeable =
      let on = a.on in
      record {
        rising = rw held_width at (regions_rising ix off (map unmarked t.cells) a.regions);
        small = omega (arith, last_start on, on.stage, on.few_entries, on.few_on_hull);
        sites = omega (arith, ap length on.table_is ∙ tab_length on.mesh);
        few_sites = on.few_sites;
        threes = (paired on.mesh).threes;
        few = omega (arith, on.few_entries, on.mesh.same);
        pairs = pair_back (onward a);
        walks = early_walk (onward a);
      }

-- those of the definition, where rule 10 holds
module _ {tri he hull table : List ℕ} {f : Frame} {off : List ℕ} {g : Ground} {m : List ℕ} {c : CellState} {p : Progress} {v : List Float} {ix : List ℕ}
    (fan : Fanned (plan tri he hull table f off) g) (k : LateAmid (plan tri he hull table f off) g m c p v ix) where
  pub late_width : length (map unmarked c.cells) ≡ g.sites
  late_width = length-map c.cells unmarked ∙ k.width ∙ k.amid.held.width

  pub late_placed : CellsReady he table m ix off g.found (map unmarked c.cells)
  late_placed crowd few s h =
      let l : s < g.sites = rw late_width at h in
      let at : get_or (map unmarked c.cells) s [] ≡ unmarked (get_or c.cells s []) = get_or-map unmarked c.cells s [] in
      let next : suc s ≡ s + 1 = omega arith in
      record {
        late = λ n.
            let q : get_or (map unmarked k.held.cells) s [] ≡ get_or (map unmarked c.cells) s [] =
            get_or-map unmarked k.held.cells s [] ∙ ap unmarked (sym (k.late s l n)) ∙ sym at in
            rw (← q, ← next) (k.amid.regions.each s (rw (held_width k.amid) l));
        early = λ x. back_as _ (at ∙ ap unmarked (k.early s l x)) (early_back (onward k.amid) s l x);
        full = λ x n. early_full (onward k.amid) fan s l x (few s n);
      }
