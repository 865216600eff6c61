-- A paired half-edge leads nowhere; an unpaired one is the other case of `lead_at`.
use mathlib.Core.Path.{sym}
use native.Mathlib.Omega.{arith}
use Rattle.mending.specs.border.laws.Leads.{lead_paired, lead_set}
use borrow.Author.Rules.{rules}
use Rattle.mending.proofs.border.lead.Statement.{statement}
use Rattle.mending.proofs.border.lead.Tie as tie

abbrev Start : tie.After-wide-s → tie.Start
Start c = c.before.before.before.before.before.before.before

returns : tie.Need-returns-then-pairs-e
returns c = sym (lead_paired _ _ _ _ c.if-pairs-e.true)

end_site-requires : tie.Need-end_site-requires
end_site-requires c κs = ((Start c).requires.0.threes, (Start c).requires.2)

mul-work : tie.Need-offset_bounds-work-s
mul-work c =
    record { fits = omega (arith, (Start c.before).requires.0.named _ (Start c.before).requires.2, c.wide-s.ensures) }

slice_write-work : tie.Need-bounds-work-s
slice_write-work c =
    omega (arith, (Start c.before).requires.0.named _ (Start c.before).requires.2, c.wide-s.ensures)

returns-2 : tie.Need-returns
returns-2 c = lead_set _ _ _ _ _ _ c.if-pairs-e.false c.wide-s.ensures c.end_site.ensures

pub lead_spec : {M : Type 1} → statement M
lead_spec =
    tie.close
    (tie.spec (λ c. search rules) (λ c. search rules) returns (λ c. search rules) (λ c. search rules)
    (λ c κs. search rules) end_site-requires mul-work slice_write-work (λ c. search rules) returns-2)
