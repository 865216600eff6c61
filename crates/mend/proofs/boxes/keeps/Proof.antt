-- `mend::boxes::keeps` meets its contract: the box by its kind and its four numbers.
use mathlib.Core.Path.{ap, ◌∙◌}
use Rattle.plane.specs.declared.given.Given.{Given}
use Rattle.mend.specs.boxes.laws.Option.{keeps_is}
use borrow.Author.Rules.{rules}
use Rattle.mend.proofs.boxes.keeps.Statement.{statement}
use Rattle.mend.proofs.boxes.keeps.Tie as tie

returns : tie.Need-returns
returns c =
    let w = c in
    let z = w in
    let y = z in
    let x = y in
    let s = x in
    let l = s.args.first.now in
    ap (λ (g : Given). g.sound) c.box_of-given.ensures
    ∙ rw (x.number_at-a.ensures, y.number_at-b.ensures, z.number_at-c.ensures, w.number_at-d.ensures) (keeps_is l s.requires)

pub keeps_spec : {M : Type 1} → statement M
keeps_spec =
    tie.close
    (tie.spec (λ c κs. search rules) (λ c κs. search rules) (λ c κs. search rules) (λ c κs. search rules) (λ c. search rules) (λ c κs. search rules) returns)
