-- `cell_builder::placed::place_cell` meets its contract: an early cell is walked to its place, another is moved there.
use mathlib.Core.Path.{ap}
use mathlib.Core.Bool.{not}
use native.Mathlib.Omega.{arith}
use borrow.Author.Rules.{rules}
use borrow.Author.Tests.{eqb-false}
use Rattle.base.specs.common.laws.Decide.{refused, granted}
use Rattle.cell_builder.specs.turned.Marks.{MadeLast}
use Rattle.cell_builder.specs.placed.laws.Placing.{back_at, full_at, late_placed}
use Rattle.cell_builder.proofs.placed.place_cell.Statement.{statement}
use Rattle.cell_builder.proofs.placed.place_cell.Tie as tie

abbrev Entry : tie.After-early → tie.Start
Entry a = a.before.before.before.before

-- what is asked
abbrev Site : tie.After-early → Type 0
Site a = let i = (Entry a).args in MadeLast i.halfedges.now i.table.now i.marks.now i.s

-- the site is early
abbrev Early : tie.After-wide-t → tie.After-early
Early w = w.before.before.before

is-early : (w : tie.After-wide-t) → Site (Early w)
is-early w = let a = Early w in granted {P = Site a} a.early.result (ap not w.if-early.true) a.early.ensures

walk_cell-requires : tie.Need-walk_cell-requires
walk_cell-requires c κs =
    let w = c in
    let r = (Entry (Early w.before)).requires in
    let b = r.walk (is-early w.before) in (
      r.pairs,
      omega arith,
      omega (arith, r.low, r.rise, r.within),
      r.few,
      (b.cell, back_at _ _ _ _ _ _ w.wide-t.ensures b.back),
    )

returns : tie.Need-returns-then-early
returns c =
    let k = c in
    let w = k in
    let r = (Entry (Early w.before.before.before.before)).requires in
    let e = is-early w.before.before.before.before in
    let b = r.walk e in
    let d = k.walk_cell.ensures b.cell (back_at _ _ _ _ _ _ w.wide-t.ensures b.back) in (
      d.low,
      omega (arith, d.high),
      omega (arith, d.counts, b.long),
      λ x h. (k.walk_cell.ensures x (back_at _ _ _ _ _ _ w.wide-t.ensures (h.early e))).written (λ z. full_at _ _ _ (h.full e (eqb-false _ _ z))),
    )

returns-2 : tie.Need-returns
returns-2 c =
    let d = c in
    let l = d in
    let o = l in
    let a = o in
    let f = l.cell_end-end.ensures in (
      omega arith,
      omega (arith, f.low, f.high),
      omega (arith, c.walk_length.ensures.0),
      λ x h. late_placed (Entry a.before.before.before.before.before.before.before.before).requires f _ d.move_down.ensures x (h.late (refused {P = Site a.before.before.before.before.before.before.before.before} a.early.result (ap not o.if-early.false) a.early.ensures)),
    )

pub place_cell_spec : {M : Type 1} → statement M
place_cell_spec =
    tie.close
    (tie.spec (λ c κs. search rules) (λ c. search rules) (λ c. search rules) (λ c κs. search rules) (λ c. search rules) (λ c. search rules) walk_cell-requires
    (λ c. search rules) returns (λ c κs. search rules) (λ c κs. search rules) (λ c. search rules) (λ c. search rules) (λ c. search rules) (λ c. search rules)
    (λ c κs. search rules) (λ c. search rules) returns-2)
