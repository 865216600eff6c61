-- `cell_builder::turned::marks::mark_empty` meets its contract.
use mathlib.Core.Path.{◌≡◌, ap, ◌∙◌}
use mathlib.Core.Logic.{inl, inr}
use native.Mathlib.Omega.{arith}
use lib.ListN.{get_or}
use borrow.Author.Rules.{rules}
use Rattle.cell_builder.proofs.turned.marks.mark_empty.Statement.{statement}
use Rattle.cell_builder.proofs.turned.marks.mark_empty.Tie as tie

abbrev Entry : tie.After-wide → tie.Start
Entry w = w.before.before.before.before.before.before

-- where the site's region begins
holds : (c : tie.After-wide-base) → let i = (Entry c.before.before).args in c.wide-base.result ≡ get_or i.offsets.now i.site 0
holds c = let w = c in c.wide-base.ensures ∙ ap (λ k. get_or (Entry w.before.before).args.offsets.now k 0) w.wide.ensures

mul-if1 : tie.Need-offset_bounds-indexes-base
mul-if1 c = record { fits = omega (arith, holds c, (Entry c.before.before).requires.4) }

shared_slice_read-if1 : tie.Need-bounds-indexes-base
shared_slice_read-if1 c = let v = c in omega (arith, holds v.before, (Entry v.before.before.before).requires.4)

returns : tie.Need-returns-then-indexes-base
returns c =
    let v = c in
    let w = v in
    λ long. (long, λ x n. n, inl (rw (← w.wide.ensures, ← v.wide-base.ensures) c.if-indexes-base.true))

returns-2 : tie.Need-returns
returns-2 c =
    let w = c in
    λ long.
    let e = c.mark_walk.ensures long in
    (e.0, e.1, inr (rw (← w.wide-2.ensures) e.2))

pub mark_empty_spec : {M : Type 1} → statement M
mark_empty_spec =
    tie.close
    (tie.spec (λ c κs. search rules) (λ c. search rules) (λ c. search rules) (λ c κs. search rules) mul-if1 shared_slice_read-if1 returns (λ c κs. search rules)
    (λ c. search rules) (λ c. search rules) (λ c κs. search rules) returns-2)
