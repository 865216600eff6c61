-- There is room for the text: of 96 cells with 3,076 entries.
use Rattle.std.specs.Prelude.{List, ℕ, ◌≤◌, Float, length}
use Rattle.std.proofs.Common.{arith}
use Rattle.wkb.specs.Polygon.{patterns}
use Rattle.export.specs.map_text.laws.MapText.{text_short}
use Rattle.export.specs.Shown.{CanDraw, lines}

pub lines_fit : {n numbers : ℕ} {off ix : List ℕ} (vertices : List Float) (space : ℕ) → CanDraw n numbers off ix → 106496 ≤ space → length (lines n vertices off ix) ≤ space
lines_fit {n} {numbers} {off} {ix} vertices space p h = omega (arith, text_short (patterns vertices) off ix n p.drawn.layout, p.few, p.short)
