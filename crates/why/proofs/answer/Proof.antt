-- `why::answer` prints the line of the reason for the form's bytes, from the beginning of the output.
use native.Mathlib.Omega.{arith}
use Rattle.octets.specs.laws.Wrote.{wrote_all}
use Rattle.why.specs.line.laws.ReasonLine.{line_short}
use borrow.Author.Rules.{rules}
use Rattle.why.proofs.answer.Statement.{statement}
use Rattle.why.proofs.answer.Tie as tie

reason_line-requires : tie.Need-reason_line-requires
reason_line-requires c κs = omega (arith, line_short c.of_form-r.result, c.requires)

returns : tie.Need-returns
returns c =
    let at-line = c in
    let at-form = at-line in
    let s = at-form in
    let w = at-line.reason_line.ensures in
    let r = at-form.of_form-r in
    (record { reason = r.result; true = r.ensures; line = wrote_all w (omega (arith, line_short r.result, s.requires)) }, omega (arith, w.place, line_short r.result, s.requires))

pub answer_spec : {M : Type 1} → statement M
answer_spec = tie.close (tie.spec (λ c κs. search rules) reason_line-requires (λ c. search rules) returns)
