-- The four sites are there, and `strictly_inside` answers.
use mathlib.Core.Path.{◌∙◌}
use borrow.Author.Rules.{rules}
use Rattle.mesh.specs.laws.Next.{next_lt}
use Rattle.grid.specs.scan.laws.Scannable.{site_at_lem}
use Rattle.grid.proofs.scan.far_inside.Statement.{statement}
use Rattle.grid.proofs.scan.far_inside.Tie as tie

strictly_inside-requires : tie.Need-strictly_inside-requires
strictly_inside-requires c κs =
    let at_c = c in
    let at_b = at_c in
    let at_a = at_b in
    let start = at_a in
    let n = start.requires.0 in
    let next = next_lt n.threes start.requires.1 in
    let far = next_lt n.threes start.requires.2 in (
      site_at_lem n _ _ start.requires.1 at_a.wide-a.ensures,
      site_at_lem n _ _ next (at_b.wide-b.ensures ∙ at_b.end_site.ensures),
      site_at_lem n _ _ (next_lt n.threes next) (at_c.wide-c.ensures ∙ at_c.apex.ensures),
      site_at_lem n _ _ (next_lt n.threes far) (c.wide-far.ensures ∙ c.apex-2.ensures),
    )

returns : tie.Need-returns
returns c =
    let at_d = c in
    let at_c = at_d in
    let at_b = at_c in
    let at_a = at_b in
    rw (
      c.strictly_inside.ensures,
      at_d.wide-far.ensures,
      at_d.apex-2.ensures,
      at_c.wide-c.ensures,
      at_c.apex.ensures,
      at_b.wide-b.ensures,
      at_b.end_site.ensures,
      at_a.wide-a.ensures,
    )

pub far_inside_spec : {M : Type 1} → statement M
far_inside_spec =
    tie.close
    (tie.spec (λ c. search rules) (λ c. search rules) (λ c κs. search rules) (λ c κs. search rules) (λ c κs. search rules) (λ c κs. search rules)
    (λ c κs. search rules) (λ c κs. search rules) (λ c κs. search rules) strictly_inside-requires returns)
