-- `all_wkb::size_at` meets its contract: a cell has no more entries than the list.
use mathlib.Core.Path.{ap, ◌∙◌}
use mathlib.Core.List.{List}
use Prim.Native.Nat.{ℕ}
use native.Mathlib.Omega.{arith}
use lib.ListN.{length}
use borrow.Author.Rules.{rules}
use Rattle.wkb.specs.Polygon.{size}
use Rattle.all_wkb.specs.laws.Sizes.{cell_short}
use Rattle.all_wkb.proofs.size_at.Statement.{statement}
use Rattle.all_wkb.proofs.size_at.Tie as tie

polygon_size-requires : tie.Need-polygon_size-requires
polygon_size-requires c κs =
    let s = c in
    omega (arith, ap length c.cell-cell.ensures, cell_short s.args.offsets.now s.args.indexes.now s.args.s, s.requires.0.few)

returns : tie.Need-returns
returns c = c.polygon_size.ensures ∙ ap (λ (l : List ℕ). size (length l)) c.cell-cell.ensures

pub size_at_spec : {M : Type 1} → statement M
size_at_spec = tie.close (tie.spec (λ c κs. search rules) polygon_size-requires returns)
