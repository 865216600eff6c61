-- From the answers of crates queries and cell_query to the promises: what they say, with an answer as 1 or 0.
use Rattle.std.specs.Prelude.{◌≡◌, List, ℕ}
use Rattle.std.proofs.Common.{ap, ◌∙◌}
use Rattle.plane_calls.specs.Plane.{bit}
use Rattle.cell_query.specs.SharedEdge.{Told, SharesAnswer}
use Rattle.mesh.specs.Accepted.{Mesh}
use Rattle.queries.specs.Answers.{out_after, count_after, ended_after, ListTold, ListAnswer, EdgeTold, EdgeAnswer}
use Rattle.voronoi.specs.Walks.{Handed, SharedEdge, CellsShareEdge}

-- a list: e is its end in the lent number
pub handed : {Number : ℕ → Type 0} {m : Mesh} {whole w w' o o' : List ℕ} {x : ListTold} → ListAnswer Number m whole w w' o o' x
    → (e : ℕ) → e ≡ bit x.ended → Handed Number m whole w w' o o' x.count e x.number
unfolding out_after count_after ended_after
handed a e q = record { number = a.number; work = a.work; out = a.out; count = a.count; ended = q ∙ ap bit a.ended }

pub told : {off ix : List ℕ} {a b : ℕ} {x : Told} → SharesAnswer off ix a b x → (y : ℕ) → y ≡ bit x.yes → CellsShareEdge off ix a b y x.number
told a y q = record { number = a.number; answer = q ∙ ap bit a.yes }

pub found : {m : Mesh} {a b : ℕ} {w w' : List ℕ} {x : EdgeTold} → EdgeAnswer m a b w w' x
    → SharedEdge m a b w w' x.edge x.number
found a = record { number = a.number; work = a.work; edge = a.edge }
