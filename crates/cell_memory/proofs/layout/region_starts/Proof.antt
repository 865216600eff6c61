-- `cell_memory::layout::region_starts` meets its contract: zeros, the three tallies, and the sums of what they count.
use borrow.Author.Rules.{rules}
use Rattle.cell_memory.specs.layout.laws.Rooms.{tallies_tri, tallies_hull, tallies_owners, sums_rooms, started}
use Rattle.cell_memory.proofs.layout.region_starts.Statement.{statement}
use Rattle.cell_memory.proofs.layout.region_starts.Tie as tie

-- the function's entry, and the zeros
abbrev Start : tie.After-fill_from → tie.Start
Start c = c.before.before.before.before.before

abbrev Filled : tie.After-tally → tie.After-fill_from
Filled c = c.before.before.before.before

tally-requires : tie.Need-tally-requires
tally-requires c κs = tallies_tri _ _ _ _ _ (Start c.before.before.before).requires _ c.fill_from.ensures

tally-requires-2 : tie.Need-tally-requires-2
tally-requires-2 c κs =
    let tally = c in
    tallies_hull _ _ _ _ _ (Start (Filled tally.before.before.before)).requires _ (Filled tally.before.before.before).fill_from.ensures _ tally.tally.ensures

tally-requires-3 : tie.Need-tally-requires-3
tally-requires-3 c κs =
    let tally2 = c in
    let tally = tally2 in
    tallies_owners _ _ _ _ _ (Start (Filled tally.before.before.before.before.before.before.before.before)).requires _ (Filled tally.before.before.before.before.before.before.before.before).fill_from.ensures _ tally.tally.ensures _ tally2.tally-2.ensures

sum_up-requires : tie.Need-sum_up-requires
sum_up-requires c κs =
    let tally3 = c in
    let tally2 = tally3 in
    let tally = tally2 in
    sums_rooms _ _ _ _ _ (Start (Filled tally.before.before.before.before.before.before.before.before.before.before.before.before)).requires _ (Filled tally.before.before.before.before.before.before.before.before.before.before.before.before).fill_from.ensures _ tally.tally.ensures _ tally2.tally-2.ensures _ tally3.tally-3.ensures

returns : tie.Need-returns
returns c =
    let tally3 = c in
    let tally2 = tally3 in
    let tally = tally2 in
    started _ _ _ _ _ (Start (Filled tally.before.before.before.before.before.before.before.before.before.before.before.before.before.before.before)).requires _ (Filled tally.before.before.before.before.before.before.before.before.before.before.before.before.before.before.before).fill_from.ensures _ tally.tally.ensures _ tally2.tally-2.ensures _
    tally3.tally-3.ensures _ c.sum_up.ensures

pub region_starts_spec : {M : Type 1} → statement M
region_starts_spec =
    tie.close
    (tie.spec (λ c κs. search rules) tally-requires tally-requires-2 (λ c. search rules) tally-requires-3
    sum_up-requires (λ c. search rules) returns)
