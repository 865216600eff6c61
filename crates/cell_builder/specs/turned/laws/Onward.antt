-- Cells on the ground of a build, and that a try leaves the cells of other sites as they are.
use Rattle.std.specs.Prelude.{◌≡◌, List, [], ◌≢◌, ℕ, Float, length, get_or}
use Rattle.std.proofs.Common.{get_or-set_other}
use Rattle.plane.specs.declared.boxes.BoundingBox.{BoundingBox}
use Rattle.definition.specs.Cell.{clip_cell}
use Rattle.definition.specs.Build.{CellState, clip_into}
use Rattle.definition.specs.laws.Gives.{Gives, gives_next}
use Rattle.build_laws.specs.laws.Grown.{Grown}
use Rattle.cell_builder.specs.declared.finish.Progress.{Progress}
use Rattle.cell_builder.specs.tried.SlicesInvariant.{Plan, Ground, Grounded, Amid}

-- cells on this ground, whether slices hold them or not
pub record Onward (w : Plan) (g : Ground) (s : CellState) : Type 0 where
  pub numbers : ℕ
  pub indexes : ℕ
  pub on : Grounded w g numbers indexes
  pub more : ℕ
  pub grown : Grown g.x.verts more s.verts
  pub width : length s.cells ≡ g.sites

pub onward : {w : Plan} {g : Ground} {s : CellState} {p : Progress} {v : List Float} {ix : List ℕ} → Amid w g s p v ix → Onward w g s
onward {v = v} {ix = ix} a = record { numbers = length v; indexes = length ix; on = a.on; more = a.held.more; grown = a.held.grown; width = a.held.width }

-- the cells of other sites stay
abbrev pub OthersStay : ℕ → CellState → CellState → Type 0
OthersStay site s t = (k : ℕ) → k ≢ site → get_or t.cells k [] ≡ get_or s.cells k []

pub others_stay : (b : BoundingBox) (nc site : ℕ) (ring : List ℕ) (s : CellState) → Gives (OthersStay site s) (clip_into b nc site ring s)
unfolding clip_into
others_stay b nc site ring s =
    gives_next (OthersStay site s) (clip_cell b nc site ring s.verts s.owners) _ (λ c k q. get_or-set_other s.cells site k c.new [] q)
