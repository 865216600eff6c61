-- `cell_builder::tried::tries::clip_at_edge` meets its contract: the first entry of the site's region tells whether its cell is still empty; if so the staged walk is clipped as the definition does.
use mathlib.Core.Path.{◌≡◌, ap, ◌∙◌}
use Prim.Native.Nat.{◌<◌}
use native.Mathlib.Omega.{arith}
use lib.ListN.{length, get_or}
use borrow.Author.Rules.{rules}
use Rattle.mesh.specs.laws.Facts.{paired}
use Rattle.cell_builder.specs.tried.laws.HullAndEdgeTries.{edge_site, region_place, edge_kept, stage_room, edge_ringed, edge_tried}
use Rattle.cell_builder.proofs.tried.tries.clip_at_edge.Statement.{statement}
use Rattle.cell_builder.proofs.tried.tries.clip_at_edge.Tie as tie

abbrev Entry : tie.After-end_site-site → tie.Start
Entry c = c.before.before.before.before.before.before

abbrev Site : tie.After-wide-base → tie.After-end_site-site
Site c = c.before.before.before

-- where the half-edge ends, and where that site's region starts
base : (c : tie.After-wide-base) → c.wide-base.result ≡ get_or (Entry (Site c)).args.offsets.now (Site c).end_site-site.result 0
base c = c.wide-base.ensures ∙ ap (λ k. get_or (Entry (Site c)).args.offsets.now k 0) c.wide.ensures

in_list : (c : tie.After-wide-base) → c.wide-base.result < length (Entry (Site c)).args.indexes.now
in_list c = let e = Site c in let i = Entry e in omega (arith, base c, region_place i.requires.3.amid _ _ i.requires.0 e.end_site-site.ensures)

end_site-requires : tie.Need-end_site-site-requires
end_site-requires c κs = let i = c in (i.requires.3.amid.on.mesh.threes, i.requires.0)

shared_slice_read-wide : tie.Need-bounds-offsets-wide
shared_slice_read-wide c =
    let e = c in
    let i = Entry e.before.before in
    rw c.wide.ensures (omega (arith, edge_site i.requires.3.amid _ _ i.requires.0 e.end_site-site.ensures, i.requires.3.amid.on.places))

mul-if1 : tie.Need-offset_bounds-indexes-base
mul-if1 c = omega (arith, in_list c)

slice_read-if1 : tie.Need-bounds-indexes-base
slice_read-if1 c = in_list c.before

returns : tie.Need-returns-then-indexes-base
returns c =
    let w = c in
    let e = Site w.before.before in
    let i = Entry e in
    λ hull table g s a. edge_kept a _ _ i.requires.0 e.end_site-site.ensures (rw (base w.before.before) at c.if-indexes-base.true)

stage_ring-requires : tie.Need-stage_ring-end-requires
stage_ring-requires c κs =
    let w = c in
    let e = Site w.before.before.before in
    let i = Entry e in
    (paired i.requires.3.amid.on.mesh, stage_room i.requires.3.amid _ _ i.requires.0 e.end_site-site.ensures)

clip_staged-requires : tie.Need-clip_staged-requires
clip_staged-requires c κs =
    let r = c in
    let w = r in
    let e = Site w.before.before.before.before.before.before.before.before in
    let i = Entry e in
    edge_ringed i.requires.3.amid _ _ i.requires.0 e.end_site-site.ensures (rw (base w.before.before.before.before.before.before.before.before) at r.if-indexes-base.false) r.stage_ring-end.ensures

returns-2 : tie.Need-returns
returns-2 c =
    let t = c in
    let r = t in
    let w = r in
    let e = Site w.before.before.before.before.before.before.before.before.before.before.before.before.before in
    let i = Entry e in
    λ hull table g s a. edge_tried a _ _ i.requires.0 e.end_site-site.ensures (rw (base w.before.before.before.before.before.before.before.before.before.before.before.before.before) at r.if-indexes-base.false) r.stage_ring-end.ensures
    c.vertices-1.given c.indexes-2-1.given t.clip_staged.ensures

pub clip_at_edge_spec : {M : Type 1} → statement M
clip_at_edge_spec =
    tie.close
    (tie.spec end_site-requires (λ c κs. search rules) (λ c. search rules) shared_slice_read-wide
    (λ c κs. search rules) mul-if1 slice_read-if1 returns (λ c. search rules) stage_ring-requires clip_staged-requires
    (λ c. search rules) (λ c. search rules) returns-2)
