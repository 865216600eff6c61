-- `cutting_calls::cut_admission::room_for` meets its contract: each test settles it, or hands on to the next.
use mathlib.Core.Bool.{not}
use mathlib.Core.Path.{ap}
use borrow.Author.Rules.{rules}
use native.Mathlib.Omega.{arith}
use Rattle.base.specs.common.laws.Decide.{refused, granted}
use Rattle.cutting_calls.specs.cut_admission.laws.CutRoom.{no_counts, no_table, no_vertices, no_entries, no_offsets, roomy}
use Rattle.cutting_calls.proofs.cut_admission.room_for.Statement.{statement}
use Rattle.cutting_calls.proofs.cut_admission.room_for.Tie as tie

returns : tie.Need-returns-then-not-counts_ok
returns c = no_counts _ _ _ _ _ _ _ _ (refused c.counts_ok.result (ap not c.if-not-counts_ok.true) c.counts_ok.ensures)

returns-2 : tie.Need-returns-then-work-sites
returns-2 c = no_table _ _ _ _ _ _ _ _ c.if-work-sites.true

mul-if3 : tie.Need-overflow_mul-triangles
mul-if3 c =
    let k = granted c.counts_ok.result (ap not c.if-not-counts_ok.false) c.counts_ok.ensures in
    omega (arith, k.few_triangles, k.hull_of_sites, k.few_sites)

mul-if3-2 : tie.Need-overflow_mul-hull
mul-if3-2 c =
    let k = granted c.counts_ok.result (ap not c.if-not-counts_ok.false) c.counts_ok.ensures in
    omega (arith, k.few_triangles, k.hull_of_sites, k.few_sites)

add-if3 : tie.Need-overflow_add-triangles
add-if3 c =
    let k = granted c.counts_ok.result (ap not c.if-not-counts_ok.false) c.counts_ok.ensures in
    omega (arith, k.few_triangles, k.hull_of_sites, k.few_sites)

add-if3-2 : tie.Need-overflow_add-triangles-2
add-if3-2 c =
    let k = granted c.counts_ok.result (ap not c.if-not-counts_ok.false) c.counts_ok.ensures in
    omega (arith, k.few_triangles, k.hull_of_sites, k.few_sites)

returns-3 : tie.Need-returns-then-numbers-triangles
returns-3 c = no_vertices _ _ _ _ _ _ _ _ c.if-work-sites.false c.if-numbers-triangles.true

mul-if4 : tie.Need-overflow_mul-triangles-2
mul-if4 c =
    let k = granted c.counts_ok.result (ap not c.if-not-counts_ok.false) c.counts_ok.ensures in
    omega (arith, k.few_triangles, k.hull_of_sites, k.few_sites)

mul-if4-2 : tie.Need-overflow_mul-hull-2
mul-if4-2 c =
    let k = granted c.counts_ok.result (ap not c.if-not-counts_ok.false) c.counts_ok.ensures in
    omega (arith, k.few_triangles, k.hull_of_sites, k.few_sites)

add-if4 : tie.Need-overflow_add-triangles-3
add-if4 c =
    let k = granted c.counts_ok.result (ap not c.if-not-counts_ok.false) c.counts_ok.ensures in
    omega (arith, k.few_triangles, k.hull_of_sites, k.few_sites)

returns-4 : tie.Need-returns-then-indexes-triangles
returns-4 c = no_entries _ _ _ _ _ _ _ _ c.if-work-sites.false c.if-numbers-triangles.false c.if-indexes-triangles.true

returns-5 : tie.Need-returns-then-offsets-sites
returns-5 c = no_offsets _ _ _ _ _ _ _ _ c.if-work-sites.false c.if-numbers-triangles.false c.if-indexes-triangles.false c.if-offsets-sites.true

returns-6 : tie.Need-returns
returns-6 c = roomy _ _ _ _ _ _ _ _ c.if-work-sites.false c.if-numbers-triangles.false c.if-indexes-triangles.false c.if-offsets-sites.false

pub room_for_spec : {M : Type 1} → statement M
room_for_spec = tie.close (tie.spec (λ c κs. search rules) returns returns-2 mul-if3 mul-if3-2 add-if3 add-if3-2 returns-3 mul-if4 mul-if4-2 add-if4 returns-4 returns-5 returns-6)
