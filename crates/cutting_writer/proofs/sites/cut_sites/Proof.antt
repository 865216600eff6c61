-- `cutting_writer::sites::cut_sites`: the corners, all sites, and what is left over cleared.
use Rattle.cutting_writer.specs.sites.laws.Sheets.{cuttable_few, cuttable_sheet, sheet_cleared}
use mathlib.Core.Path.{◌∙◌}
use native.Mathlib.Omega.{arith}
use Rattle.cutting_writer.proofs.sites.cut_sites.Statement.{statement}
use Rattle.cutting_writer.proofs.sites.cut_sites.Tie as tie

abbrev Start : tie.After-put_corners-arg-1 → tie.Start
Start c = c.before.before.before.before.before.before.before.before

abbrev Expect-walks : tie.After-cut_all-arg-3-1 → tie.After-expect_walks
Expect-walks c = c.before.before.before.before.before

abbrev Vertices2 : tie.After-clear_tails-arg-3-1 → tie.After-vertices-2-1
Vertices2 c = c.before.before.before.before.before.before.before.before

abbrev Cleared-tails : tie.After-slice_known-11-1 → tie.After-clear_tails
Cleared-tails c = c.before.before.before.before.before.before

abbrev Put-corners : tie.After-clear_tails-arg-3-1 → tie.After-put_corners
Put-corners c = (Expect-walks (Vertices2 c).before.before).before.before.before.before

abbrev Offsets : tie.After-slice_known-11-1 → tie.After-offsets-1
Offsets c = (Vertices2 (Cleared-tails c).before).before.before.before.before.before.before

add-clear_tails : tie.Need-overflow_add-start
add-clear_tails c = omega (arith, cuttable_few c.requires)

put_corners-requires : tie.Need-put_corners-requires
put_corners-requires c κs = ((Start c).requires.corners, cuttable_few (Start c).requires)

cut_all-requires : tie.Need-cut_all-pen-requires
cut_all-requires c κs =
    cuttable_sheet (Start (Expect-walks c).before.before.before.before.before).requires (Expect-walks c).put_corners.ensures _
    (Expect-walks c).expect_walks.ensures

clear_tails-requires : tie.Need-clear_tails-requires
clear_tails-requires c κs =
    let m = (Vertices2 c).cut_all-pen.ensures in (
      m.room.vertices,
      m.room.indexes,
      omega (arith, c.offsets-2-1.given, (Expect-walks (Vertices2 c).before.before).expect_walks.ensures, (Start (Put-corners c).before).requires.one_more),
    )

same_length : tie.Need-shape_of-vertices
same_length c =
    c.vertices-3-1.given ∙ c.vertices-2-1.given ∙ (Offsets c).vertices-1.given

same_length-2 : tie.Need-shape_of-indexes
same_length-2 c = c.indexes-2-1.given ∙ (Cleared-tails c).indexes-1.given

same_length-3 : tie.Need-shape_of-offsets
same_length-3 c = c.offsets-3-1.given ∙ (Cleared-tails c).offsets-2-1.given ∙ (Offsets c).offsets-1.given

returns : tie.Need-returns
returns c =
    let k = (Cleared-tails c).clear_tails.ensures in
    let m = (Vertices2 (Cleared-tails c).before).cut_all-pen.ensures in
    sheet_cleared (Start (Put-corners (Cleared-tails c).before).before).requires (Put-corners (Cleared-tails c).before).put_corners.ensures _ (Offsets c).expect_walks.ensures
    m.made m.room k.0 k.1 k.2

pub cut_sites_spec : {M : Type 1} → statement M
cut_sites_spec = tie.close (tie.spec add-clear_tails put_corners-requires (λ c κs. tt) cut_all-requires clear_tails-requires same_length same_length-2 same_length-3 returns)
