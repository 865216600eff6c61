-- `cell_builder::turned::retries::hull_blank` meets its contract: it asks for the first entry of the site's region, then for the table's entry.
use mathlib.Core.Path.{◌≡◌, sym, ap, ◌∙◌}
use Prim.Native.Nat.{◌<◌}
use native.Mathlib.Omega.{arith}
use lib.Dec.{eqb}
use lib.ListN.{length, get_or}
use borrow.Author.Rules.{rules}
use Rattle.base.specs.numbers.Numbers.{EMPTY}
use Rattle.cell_builder.specs.turned.laws.Retrying.{blank_says}
use Rattle.cell_builder.proofs.turned.retries.hull_blank.Statement.{statement}
use Rattle.cell_builder.proofs.turned.retries.hull_blank.Tie as tie

abbrev Entry : tie.After-wide-base → tie.Start
Entry c = c.before.before.before.before.before.before.before

abbrev Region : tie.After-wide-t → tie.After-wide-base
Region c = c.before.before.before.before.before

-- where the site's region starts, and its entry of the table
base : (c : tie.After-wide-base) → let a = (Entry c).args in c.wide-base.result ≡ get_or a.offsets.now a.site 0
base c = c.wide-base.ensures ∙ ap (λ k. get_or (Entry c).args.offsets.now k 0) c.wide.ensures

entry : (c : tie.After-wide-t) → let a = (Entry (Region c)).args in c.wide-t.result ≡ get_or a.table.now a.site 0
entry c = c.wide-t.ensures ∙ ap (λ k. get_or (Entry (Region c)).args.table.now k 0) c.wide-2.ensures

in_list : (c : tie.After-wide-base) → c.wide-base.result < length (Entry c).args.indexes.now
in_list c = omega (arith, base c, (Entry c).requires.3)

in_mesh : (c : tie.After-wide-t) → c.wide-t.result < length (Entry (Region c)).args.halfedges.now
in_mesh c = omega (arith, entry c, (Entry (Region c)).requires.1)

mul-if1 : tie.Need-offset_bounds-indexes-base
mul-if1 c = omega (arith, in_list c)

shared_slice_read-if1 : tie.Need-bounds-indexes-base
shared_slice_read-if1 c = in_list c.before

returns : tie.Need-returns-then-indexes-base
returns c =
    let w = c in
    λ b. c.if-indexes-base.true (ap (λ k. get_or (Entry w.before.before).args.indexes.now k 0) (base w.before.before) ∙ b.blank)

mul-result : tie.Need-offset_bounds-halfedges-t
mul-result c = omega (arith, in_mesh c)

shared_slice_read-result : tie.Need-bounds-halfedges-t
shared_slice_read-result c = in_mesh c.before

returns-2 : tie.Need-returns
returns-2 c =
    let w = c in
    let r = Region w.before in
    let a = (Entry r).args in
    blank_says a.halfedges.now a.table.now a.indexes.now a.offsets.now a.site
    (sym (ap (λ k. get_or a.indexes.now k 0) (base r)) ∙ w.if-indexes-base.false) _ (ap (λ k. eqb (get_or a.halfedges.now k 0) EMPTY) (entry w.before))

pub hull_blank_spec : {M : Type 1} → statement M
hull_blank_spec =
    tie.close
    (tie.spec (λ c κs. search rules) (λ c. search rules) (λ c. search rules) (λ c κs. search rules) mul-if1 shared_slice_read-if1 returns
    (λ c κs. search rules) (λ c. search rules) (λ c. search rules) (λ c κs. search rules) mul-result shared_slice_read-result returns-2)
