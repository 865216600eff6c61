-- `cell_builder::turned::marks::mark_site` meets its contract.
use mathlib.Core.Path.{◌≡◌, ap, ◌∙◌}
use native.Mathlib.Omega.{arith}
use lib.ListN.{get_or}
use borrow.Author.Rules.{rules}
use Rattle.cell_builder.proofs.turned.marks.mark_site.Statement.{statement}
use Rattle.cell_builder.proofs.turned.marks.mark_site.Tie as tie

abbrev Entry : tie.After-wide-t → tie.Start
Entry c = c.before.before.before.before

-- what the table holds of the site
holds : (c : tie.After-wide-t) → let i = (Entry c).args in c.wide-t.result ≡ get_or i.table.now i.site 0
holds c = c.wide-t.ensures ∙ ap (λ k. get_or (Entry c).args.table.now k 0) c.wide.ensures

element_write-marks : tie.Need-bounds-marks-t
element_write-marks c = omega (arith, holds c.before, (Entry c.before).requires.1)

returns : tie.Need-returns
returns c = rw (holds c.before)

pub mark_site_spec : {M : Type 1} → statement M
mark_site_spec =
    tie.close
    (tie.spec (λ c κs. search rules) (λ c. search rules) (λ c. search rules) (λ c κs. search rules) element_write-marks returns)
