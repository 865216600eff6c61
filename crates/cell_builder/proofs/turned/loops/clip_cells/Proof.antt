-- `cell_builder::turned::loops::clip_cells` meets its contract: the hull's refusal is the whole's, else the rest goes on from the cells that the hull's tries gave.
use mathlib.Core.Path.{◌∙◌}
use Prim.Native.Nat.{ℕ}
use lib.ListN.{get_or}
use borrow.Author.Rules.{rules}
use Rattle.cell_builder.specs.tried.SlicesInvariant.{Plan, plan}
use Rattle.cell_builder.specs.turned.laws.TryLoops.{cells_refused, cells_markable, cells_walks, cells_amid, cells_end}
use Rattle.cell_builder.proofs.turned.loops.clip_cells.Statement.{statement}
use Rattle.cell_builder.proofs.turned.loops.clip_cells.Tie as tie

abbrev Entry : tie.After-clip_hull-r → tie.Start
Entry h = h.before.before.before.before.before.before.before.before.before.before

abbrev Planned : tie.After-clip_hull-r → Plan
Planned h =
    let a = (Entry h).args in
    plan a.triangles.now a.halfedges.now a.hull.now a.table.now a.f a.offsets.now

abbrev Hulls : tie.Else-fault-ne0 → tie.After-clip_hull-r
Hulls e = e.before.before.before.before.before.before.before

abbrev Went : tie.After-mark_outside → tie.Else-fault-ne0
Went o = o.before.before.before

abbrev Outside : tie.After-mark_hulls → tie.After-mark_outside
Outside k = k.before.before

-- the table entry of the site that entry i of the triangle list names
abbrev Entries : tie.After-clip_hull-r → ℕ → ℕ
Entries h i = let a = (Entry h).args in get_or a.table.now (get_or a.triangles.now i 0) 0

returns : tie.Need-returns-then-fault-ne0
returns c =
    let h = c in
    cells_refused (Planned h.before.before.before.before.before.before.before) _ _ _ _ _ _ h.clip_hull-r.ensures c.if-fault-ne0.true _

mark_outside-requires : tie.Need-mark_outside-requires
mark_outside-requires c κs =
    let e = c in
    let h = Hulls e.before.before in
    cells_markable (Planned h) _ _ _ _ _ _ h.clip_hull-r.ensures e.if-fault-ne0.false (Entry h).requires.0

mark_hulls-requires : tie.Need-mark_hulls-requires
mark_hulls-requires c κs =
    let e = Went c.before in
    let h = Hulls e in
    cells_walks (Planned h) _ _ _ _ _ _ h.clip_hull-r.ensures e.if-fault-ne0.false (Entry h).requires.0

clip_rest-requires : tie.Need-clip_rest-requires
clip_rest-requires c κs =
    let e = Went (Outside c.before.before) in
    let h = Hulls e in
    ((Entry h).args.hull.now, cells_amid (Planned h) _ _ _ _ _ _ h.clip_hull-r.ensures e.if-fault-ne0.false (Entry h).requires.0)

-- the slices keep their lengths, in the hull's tries and in the rest's
abbrev First : tie.After-clip_rest → tie.Else-fault-ne0
First t = Went (Outside t.before.before.before)

same_length-3 : tie.Need-shape_of-vertices
same_length-3 c =
    let x = c in
    x.vertices-2-1.given ∙ (First x.before.before.before.before).vertices-1.given

same_length-4 : tie.Need-shape_of-indexes
same_length-4 c =
    let x = c in
    x.indexes-2-1.given ∙ (First x.before.before.before.before).indexes-1.given

returns-2 : tie.Need-returns
returns-2 c =
    let t = c in
    let k = t in
    let o = Outside k.before.before.before.before.before.before.before in
    let e = Went o in
    let h = Hulls e in
    let m = o.mark_outside.ensures (Entry h).requires.1 in
    let w = k.mark_hulls.ensures m.0 in
    cells_end (Planned h) _ _ _ _ _ _ h.clip_hull-r.ensures e.if-fault-ne0.false _ w.told (λ i l z. w.stay (Entries h i) (m.1 i l z)) _ _ _
    (t.clip_rest.ensures (Entry h).args.hull.now)

pub clip_cells_spec : {M : Type 1} → statement M
clip_cells_spec =
    tie.close
    (tie.spec (λ c κs. search rules) (λ c. search rules) (λ c. search rules) returns mark_outside-requires mark_hulls-requires clip_rest-requires
    same_length-3 same_length-4 returns-2)
