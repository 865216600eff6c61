-- `cell_builder::finish::finish` meets its contract: what its three callees promise; the part that is searched is the cells one after the other.
use mathlib.Core.Path.{sym, ap, ◌∙◌}
use mathlib.Core.List.{List}
use Prim.Native.Nat.{ℕ}
use native.Mathlib.Omega.{arith}
use lib.ListN.{length, length-take}
use borrow.Author.Rules.{rules}
use borrow.Author.Tests.{eqb-true}
use Rattle.cell_memory.specs.outputs.laws.Padded.{used_part}
use Rattle.definition.specs.Measures.{lost_left}
use Rattle.cell_builder.proofs.finish.finish.Statement.{statement}
use Rattle.cell_builder.proofs.finish.finish.Tie as tie

-- the vertices cleared, the cells put in their places, and the start
abbrev Cleared : tie.After-reused-1 → tie.After-fill_from
Cleared c = c.before.before.before.before.before

abbrev Indexed : tie.After-reused-1 → tie.After-indexes-1
Indexed c = c.before.before.before.before.before.before.before.before.before.before.before

abbrev Entry : tie.After-gather-put → tie.Start
Entry c = c.before.before.before.before.before.before.before.before

gather-requires : tie.Need-gather-put-requires
gather-requires c κs = c.requires.placeable

slice_reshare_prefix-lost_corners : tie.Need-slice_bounds-lost_corners-end
slice_reshare_prefix-lost_corners c = let i = Indexed c in omega (arith, i.gather-put.ensures.0, i.indexes-1.given)

slice_aggregate-lost_corners : tie.Need-slice_bounds-lost_corners-end-2
slice_aggregate-lost_corners c = let i = Indexed c in sym (simp length-take (omega (arith, i.gather-put.ensures.0, i.indexes-1.given)))

lost_corners-requires : tie.Need-lost_corners-requires
lost_corners-requires c κs = (Entry (Indexed c).before).requires.corners

returns : tie.Need-returns
returns c =
    let k = c in
    let l = k in
    let g = Indexed l.before.before in
    let a = (Entry g.before).args in
    record {
      answer = λ cells q r.
          rw (k.lost_corners.ensures ∙ ap (λ (es : List ℕ). lost_left a.centers a.p.owners es) (used_part cells _ _ _ _ _ (g.gather-put.ensures.2 cells q r)));
      vertices = (Cleared l.before.before).fill_from.ensures;
      gathered = λ cells q r. (g.gather-put.ensures.2 cells q r).1;
      whole = λ q. omega (arith, eqb-true g.gather-put.result.steps (length a.halfedges.now) q, g.gather-put.ensures.1);
    }

pub finish_spec : {M : Type 1} → statement M
finish_spec =
    tie.close
    (tie.spec gather-requires (λ c. search rules) (λ c κs. search rules) slice_reshare_prefix-lost_corners slice_aggregate-lost_corners
    lost_corners-requires (λ c. search rules) (λ c. search rules) (λ c. search rules) returns)
