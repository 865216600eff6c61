-- `cell_builder::tried::tries::clip_at_hull` meets its contract: the staged ring is the definition's, the site's region has room for it, and its try is the definition's.
use borrow.Author.Rules.{rules}
use Rattle.cell_builder.specs.tried.laws.HullAndEdgeTries.{numbers_before, hull_stages, hull_ringed, hull_tried}
use Rattle.cell_builder.proofs.tried.tries.clip_at_hull.Statement.{statement}
use Rattle.cell_builder.proofs.tried.tries.clip_at_hull.Tie as tie

abbrev Entry : tie.After-struct_known-1 → tie.Start
Entry c = c.before.before.before.before.before.before.before.before.before

sub-numbers : tie.Need-overflow_sub-numbers
sub-numbers c = numbers_before (Entry c).requires.amid

stage_hull_ring-requires : tie.Need-stage_hull_ring-end-requires
stage_hull_ring-requires c κs = let h = (Entry c.before).requires in hull_stages h.amid _ h.place

clip_staged-requires : tie.Need-clip_staged-requires
clip_staged-requires c κs =
    let r = c in
    let h = (Entry r.before.before.before.before.before.before).requires in
    hull_ringed h.amid _ h.place h.blank r.stage_hull_ring-end.ensures

returns : tie.Need-returns
returns c =
    let t = c in
    let r = t in
    let h = (Entry r.before.before.before.before.before.before.before.before.before.before.before).requires in
    λ g s blank a.
    hull_tried a _ h.place blank r.stage_hull_ring-end.ensures
    c.vertices-1.given c.indexes-2-1.given t.clip_staged.ensures

pub clip_at_hull_spec : {M : Type 1} → statement M
clip_at_hull_spec =
    tie.close
    (tie.spec (λ c. search rules) (λ c. search rules) sub-numbers stage_hull_ring-requires clip_staged-requires
    (λ c. search rules) (λ c. search rules) returns)
