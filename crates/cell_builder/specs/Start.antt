-- What the cells begin with, and what all of them come to, by the definition's outcome.
use Rattle.std.specs.Prelude.{◌≡◌, true, List, [], ◌++◌, ℕ, ◌+◌, ◌-◌, ◌*◌, ◌/◌, ◌^◌, ◌≤◌, ◌<◌, Float, length, get_or, drop}
use Rattle.plane.specs.points.Flat.{points}
use Rattle.plane.specs.boxes.Box.{corners_of}
use Rattle.plane.specs.declared.boxes.BoundingBox.{BoundingBox}
use Rattle.vertices.specs.Store.{Holds}
use Rattle.mesh.specs.Mesh.{Fan}
use Rattle.mesh.specs.Accepted.{Mesh, site_count}
use Rattle.definition.specs.declared.Fault.{Fault}
use Rattle.definition.specs.Fault.{Outcome, ok, refused}
use Rattle.definition.specs.Build.{Built, Extensions, extend_from, clip_all, build}
use Rattle.definition.specs.Short.{fault, extensions}
use Rattle.definition.specs.Reused.{reused_in}
use Rattle.cell_builder.specs.rings.Extensions.{Extends}
use Rattle.cell_builder.specs.declared.tried.Frame.{Frame}
use Rattle.cell_builder.specs.declared.finish.CellsAnswer.{CellsAnswer}
use Rattle.cell_builder.specs.declared.finish.Finished.{Finished}
use Rattle.cell_builder.specs.finish.Finish.{outcome_answer, SettledCells}
use Rattle.cell_memory.specs.outputs.Outputs.{BuiltInto}
use Rattle.cell_builder.specs.declared.finish.Progress.{Progress}
use Rattle.cell_builder.specs.tried.SlicesInvariant.{Plan, plan, ground, frame_of, Fanned, SomeHeld}
use Rattle.cell_builder.specs.turned.Loops.{DoesLate}
use Rattle.cell_builder.specs.AdmittedBuild.{AdmittedBuild}

-- ---- corners and extensions

-- the definition's extensions, after the circumcenters that stand in v and the box's corners
abbrev pub extended_of : List Float → List ℕ → List ℕ → List ℕ → BoundingBox → ℕ → List Float → Outcome Fault Extensions
extended_of sites tri hull table b nc v = extend_from sites tri hull table nc 0 (length hull) (extensions (points nc v ++ corners_of b) [] [])

-- slices of so many numbers and indexes with room for them
pub record Extendable (sites : List Float) (tri hull table : List ℕ) (f : Frame) (numbers indexes : ℕ) : Type 0 where
  pub extends : Extends sites tri hull table f.centers
  pub room_v : 2 * (f.centers + 4 + length hull) ≤ numbers
  pub small : f.centers + 4 + length hull < 2 ^ 32
  pub after_numbers : length hull ≤ f.limit
  pub room_ix : f.limit ≤ indexes
  pub small_ix : f.limit < 2 ^ 32

-- the extensions x of h hull places and the owners found stand in the slices; the index list before their numbers is as it was
pub record Begun (h : ℕ) (f : Frame) (found : List ℕ) (x : Extensions) (ix : List ℕ) (p : Progress) (v₁ : List Float) (ix₁ : List ℕ) : Type 0 where
  pub fine : p.fault ≡ fault 0 0 0 0
  pub verts : x.verts ≡ points p.count v₁
  pub owners : found ≡ p.owners
  pub reused : reused_in x.steps ≡ p.reused
  pub holds : Holds f.centers p.count v₁ (drop f.limit ix₁)
  pub numbers : (i : ℕ) → i < h → get_or ix₁ (f.limit - h + i) 0 ≡ get_or x.at i 0
  pub before : (k : ℕ) → k < f.limit - h → get_or ix₁ k 0 ≡ get_or ix k 0

abbrev pub BegunBy : ℕ → Frame → List ℕ → Outcome Fault Extensions → List ℕ → Progress → List Float → List ℕ → Type 0
BegunBy h f found (ok x) ix p v₁ ix₁ = Begun h f found x ix p v₁ ix₁
BegunBy h f found (refused e) ix p v₁ ix₁ = (p.fault ≡ e) × (0 < e.number)

-- ---- all cells

-- owners that are sites of the mesh
pub record Makeable (m : Mesh) (table : List ℕ) (b : BoundingBox) (owners : List ℕ) (numbers indexes offsets : ℕ) : Type 0 where
  pub admitted : AdmittedBuild m table b numbers indexes offsets
  pub four : length owners ≡ 4
  pub owner_sites : (k : ℕ) → k < 4 → get_or owners k 0 < site_count m.sites

-- the plan of the tries, the regions starting as `off` says
abbrev pub plan_of : Mesh → List ℕ → BoundingBox → List ℕ → Plan
plan_of m table b off = plan m.triangles m.halfedges m.hull table (frame_of b (length m.triangles) (length m.hull)) off

-- by the outcome of the extensions: all cells on them, but for the early ones, where rule 10 holds, else some cells; or their refusal
abbrev pub Makes : Mesh → List ℕ → BoundingBox → List ℕ → Outcome Fault Extensions → List ℕ → Progress → List Float → List ℕ → List ℕ → Type 0
Makes m table b owners (ok x) marks p v₁ ix₁ off₁ =
    SomeHeld (plan_of m table b off₁) (ground (site_count m.sites) owners x) p v₁ ix₁ × (Fanned (plan_of m table b off₁) (ground (site_count m.sites) owners x)
    → DoesLate (plan_of m table b off₁) (ground (site_count m.sites) owners x) marks
    (clip_all b (length m.triangles / 3) m.triangles m.halfedges m.hull table (site_count m.sites) owners x) p v₁ ix₁)
Makes m table b owners (refused e) marks p v₁ ix₁ off₁ = (p.fault ≡ e) × (0 < e.number)

-- on the circumcenters that stand in v
abbrev pub MadeCells : Mesh → List ℕ → BoundingBox → List ℕ → List Float → List ℕ → Progress → List Float → List ℕ → List ℕ → Type 0
MadeCells m table b owners v marks p v₁ ix₁ off₁ =
    Makes m table b owners (extended_of m.sites m.triangles m.hull table b (length m.triangles / 3) v) marks p v₁ ix₁ off₁

-- ---- all cells, and the answer

-- the answer by the definition's outcome, and what the slices hold
abbrev pub AnsweredBuild : Outcome Fault Built → List Float → List ℕ → List ℕ → CellsAnswer → List Float → List ℕ → List ℕ → Type 0
AnsweredBuild o v ix off r v₁ ix₁ off₁ = (r ≡ outcome_answer o) × BuiltInto o v ix off v₁ ix₁ off₁

-- the same where every fan is whole, and whether they are
pub record BuildTold (m : Mesh) (table : List ℕ) (b : BoundingBox) (v : List Float) (ix off : List ℕ) (r : Finished) (v₁ : List Float) (ix₁ off₁ : List ℕ) : Type 0 where
  pub answered : Fan m.triangles m.halfedges table → AnsweredBuild (build m b) v ix off r.answer v₁ ix₁ off₁
  pub whole : r.whole ≡ true → Fan m.triangles m.halfedges table

-- all cells made, by the outcome of the extensions, and settled from there
pub record BuiltCells (m : Mesh) (table : List ℕ) (b : BoundingBox) (owners : List ℕ) (v : List Float) (ix off : List ℕ)
    (r : Finished) (v₁ : List Float) (ix₁ off₁ : List ℕ) : Type 0 where
  pub progress : Progress
  pub marks : List ℕ
  pub made_v : List Float
  pub made_ix : List ℕ
  pub made_off : List ℕ
  pub makes : MadeCells m table b owners v marks progress made_v made_ix made_off
  pub settled : SettledCells m.halfedges table marks (site_count m.sites) (length m.triangles / 3) progress owners made_v made_ix made_off r v₁ ix₁ off₁
  pub long_v : length made_v ≡ length v
  pub long_ix : length made_ix ≡ length ix
  pub long_off : length made_off ≡ length off
