-- `cell_memory::staging::stage_hull_ring` meets its contract: the first place's ring has its extension after it first.
use mathlib.Core.Path.{◌≡◌, refl, ap}
use native.Mathlib.Omega.{arith}
use lib.ListN.{get_or}
use Rattle.cell_memory.specs.staging.laws.HullRing.{first_ring, later_ring}
use borrow.Author.Rules.{rules}
use Rattle.cell_memory.proofs.staging.stage_hull_ring.Statement.{statement}
use Rattle.cell_memory.proofs.staging.stage_hull_ring.Tie as tie

-- the walk has room before the extensions' numbers
stage_first-requires : tie.Need-stage_first-requires
stage_first-requires c κs =
    let at_wide = c in
    let s = at_wide in
    let t = s.args.table.now in
    let q : get_or t at_wide.wide.result 0 ≡ get_or t (get_or s.args.hull.now s.args.i 0) 0 = ap (λ k. get_or t k 0) at_wide.wide.ensures in
    (s.requires.paired, rw q (omega (arith, s.requires.stage, s.requires.numbers)))

stage_later-requires : tie.Need-stage_later-requires
stage_later-requires c κs =
    let at_wide = c in
    let s = at_wide in
    let t = s.args.table.now in
    let q : get_or t at_wide.wide.result 0 ≡ get_or t (get_or s.args.hull.now s.args.i 0) 0 = ap (λ k. get_or t k 0) at_wide.wide.ensures in
    (s.requires.paired, rw q (omega (arith, s.requires.stage, s.requires.numbers)))

returns : tie.Need-returns-then-i-eq0
returns c =
    let at-if1 = c in
    let at_wide = at-if1 in
    let at_start = at_wide in
    rw (first_ring _ _ _ _ _ _ _ _ at_start.requires _ _ _ at-if1.if-i-eq0.true
    (ap (λ k. get_or at_start.args.table.now k 0) at_wide.wide.ensures) refl refl) c.stage_first.ensures

returns-2 : tie.Need-returns
returns-2 c =
    let at-if1 = c in
    let at_wide = at-if1 in
    let at_start = at_wide in
    rw (later_ring _ _ _ _ _ _ _ _ at_start.requires _ _ _ at-if1.if-i-eq0.false
    (ap (λ k. get_or at_start.args.table.now k 0) at_wide.wide.ensures) refl refl) c.stage_later.ensures

pub stage_hull_ring_spec : {M : Type 1} → statement M
stage_hull_ring_spec =
    tie.close
    (tie.spec (λ c. search rules) (λ c. search rules) (λ c κs. search rules) (λ c. search rules) (λ c. search rules)
    (λ c. search rules) (λ c. search rules) (λ c. search rules) (λ c. search rules) (λ c. search rules)
    (λ c. search rules) stage_first-requires (λ c. search rules) returns (λ c. search rules) (λ c. search rules)
    (λ c. search rules) (λ c. search rules) (λ c. search rules) (λ c. search rules) (λ c. search rules)
    stage_later-requires (λ c. search rules) returns-2)
