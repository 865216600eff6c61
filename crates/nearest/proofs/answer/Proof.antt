-- `nearest::answer` prints the line for the form's bytes, from the beginning of the output.
use Rattle.std.proofs.Common.{arith, rules}
use Rattle.octets.specs.laws.Wrote.{wrote_all}
use Rattle.nearest.specs.line.laws.Short.{line_short}
use Rattle.nearest.proofs.answer.Statement.{statement}
use Rattle.nearest.proofs.answer.Tie as tie

nearest_line-requires : tie.Need-nearest_line-requires
nearest_line-requires c κs = omega (arith, line_short c.of_form-l.result, c.requires)

returns : tie.Need-returns
returns c =
    let at-line = c in
    let at-form = at-line in
    let s = at-form in
    let w = at-line.nearest_line.ensures in
    let r = at-form.of_form-l in
    (record { line = r.result; true = r.ensures; shown = wrote_all w (omega (arith, line_short r.result, s.requires)) }, omega (arith, w.place, line_short r.result, s.requires))

pub answer_spec : {M : Type 1} → statement M
answer_spec = tie.close (tie.spec (λ c κs. search rules) nearest_line-requires (λ c. search rules) returns)
