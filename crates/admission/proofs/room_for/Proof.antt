-- `admission::room_for` meets its contract: each test settles it, or hands on to the next.
use mathlib.Core.Bool.{not}
use mathlib.Core.Path.{ap}
use borrow.Author.Rules.{rules}
use native.Mathlib.Omega.{arith}
use Rattle.base.specs.common.laws.Decide.{refused, granted}
use Rattle.admission.specs.laws.BuildRoom.{no_counts, no_table, no_nine, by_outputs}
use Rattle.admission.proofs.room_for.Statement.{statement}
use Rattle.admission.proofs.room_for.Tie as tie

returns : tie.Need-returns-then-not-counts_ok
returns c = no_counts _ _ _ _ _ _ _ _ _ (refused c.counts_ok.result (ap not c.if-not-counts_ok.true) c.counts_ok.ensures)

returns-2 : tie.Need-returns-then-work-sites
returns-2 c = no_table _ _ _ _ _ _ _ _ _ c.if-work-sites.true

returns-3 : tie.Need-returns-then-counts-lt9
returns-3 c = no_nine _ _ _ _ _ _ _ _ _ c.if-work-sites.false c.if-counts-lt9.true

rooms_ok-requires : tie.Need-rooms_ok-requires
rooms_ok-requires c κs =
    let e = c in
    let k = granted e.counts_ok.result (ap not e.if-not-counts_ok.false) e.counts_ok.ensures in
    omega (arith, k.few_triangles, k.hull_of_sites, k.few_sites)

returns-4 : tie.Need-returns
returns-4 c = by_outputs _ _ _ _ _ _ _ _ _ c.if-work-sites.false c.if-counts-lt9.false c.rooms_ok.result c.rooms_ok.ensures

pub room_for_spec : {M : Type 1} → statement M
room_for_spec = tie.close (tie.spec (λ c κs. search rules) returns returns-2 returns-3 rooms_ok-requires returns-4)
