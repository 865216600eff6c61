-- `cell_builder::make_cells` meets its contract: laid out and extended, the slices hold the definition's cells at their beginning, and all of them are clipped from there.
use mathlib.Core.Path.{refl, ◌∙◌}
use borrow.Author.Rules.{rules}
use Rattle.cell_builder.specs.laws.FirstCells.{roomy, rooms_fit, extendable, can_clip, made_not, made_all}
use Rattle.cell_builder.proofs.make_cells.Statement.{statement}
use Rattle.cell_builder.proofs.make_cells.Tie as tie

abbrev LaidOut : tie.After-offsets-1 → tie.After-lay_out
LaidOut o = o.before.before.before

abbrev Framed : tie.After-offsets-1 → tie.After-frame-f
Framed o = o.before.before.before.before.before.before

abbrev Entry : tie.After-frame-f → tie.Start
Entry f = f.before.before.before.before.before.before.before.before.before

abbrev Offsets : tie.After-indexes-2-1 → tie.After-offsets-1
Offsets c = c.before.before.before.before.before.before.before

lay_out-requires : tie.Need-lay_out-requires
lay_out-requires c κs = (roomy (Entry c.before.before).requires.0 _ refl, rooms_fit (Entry c.before.before).requires.0)

extend-requires : tie.Need-extend-p-requires
extend-requires c κs =
    let f = Framed c.before.before.before in
    extendable (Entry f).requires.0 _ f.frame-f.ensures _ _ refl c.indexes-1.given

returns : tie.Need-returns-then-fault-ne0
returns c =
    let i = c in
    let o = Offsets i.before.before.before.before in
    made_not (Entry (Framed o)).requires.0 _ _ _ o.offsets-1.given (LaidOut o).lay_out.ensures _ _ i.vertices-1.given
    (i.indexes-2-1.given ∙ o.indexes-1.given) _ _ (Framed o).frame-f.ensures i.extend-p.ensures c.if-fault-ne0.true _

clip_cells-requires : tie.Need-clip_cells-requires
clip_cells-requires c κs =
    let i = c in
    let o = Offsets i.before.before.before.before.before.before.before in (
      can_clip (Entry (Framed o)).requires.0 _ _ _ o.offsets-1.given (LaidOut o).lay_out.ensures _ _ i.vertices-1.given
          (i.indexes-2-1.given ∙ o.indexes-1.given) _ _ (Framed o).frame-f.ensures i.extend-p.ensures c.if-fault-ne0.false,
      (Entry (Framed o)).requires.1,
    )

same_length-5 : tie.Need-shape_of-indexes
same_length-5 c =
    let i = c in
    c.indexes-3-1.given ∙ i.indexes-2-1.given ∙ (Offsets i.before.before.before.before.before.before.before.before.before.before.before.before).indexes-1.given

same_length-6 : tie.Need-shape_of-offsets
same_length-6 c = (Offsets c.before.before.before.before.before.before.before.before.before.before.before.before).offsets-1.given

returns-2 : tie.Need-returns
returns-2 c =
    let k = c in
    let i = k in
    let o = Offsets i.before.before.before.before.before.before.before.before.before.before.before.before in
    made_all (Entry (Framed o)).requires.0 _ _ _ o.offsets-1.given (LaidOut o).lay_out.ensures _ _ i.vertices-1.given
    (i.indexes-2-1.given ∙ o.indexes-1.given) _ _ (Framed o).frame-f.ensures i.extend-p.ensures
    k.if-fault-ne0.false _ _ _ _ k.clip_cells.ensures

pub make_cells_spec : {M : Type 1} → statement M
make_cells_spec =
    tie.close
    (tie.spec (λ c κs. search rules) lay_out-requires extend-requires (λ c. search rules) (λ c. search rules)
    (λ c. search rules) returns clip_cells-requires (λ c. search rules) same_length-5 same_length-6 returns-2)
